-- Words for the functions that write the texts of messages.
use Rattle.std.specs.Prelude.{◌≡◌, ℕ, List, ◌++◌, Option, Some, None, Result, Ok, Err}
use Rattle.sd_xdr.specs.declared.error.MsgError.{MsgError}
use Rattle.sd_xdr.specs.declared.error.MsgError.TheVariants.{Xdr, RpcVersion, AuthLong, NoMemory}
use Rattle.sd_xdr.specs.Kind.{part, whole, Kind, Value}
use Rattle.sd_xdr.specs.Grammar.{Reads, Refuses}
use Rattle.sd_xdr.specs.Reading.{Cursor, reading, Stops}
use Rattle.sd_rpc_msg.specs.declared.message.OpaqueAuth.{OpaqueAuth}
use Rattle.sd_rpc_msg.specs.declared.message.Call.{Call}
use Rattle.sd_rpc_msg.specs.declared.message.Outcome.{Outcome}
use Rattle.sd_rpc_msg.specs.declared.message.Outcome.TheVariants.{Success, ProgUnavail, ProgMismatch, ProcUnavail, GarbageArgs, RpcMismatch, AuthError}
use Rattle.sd_rpc_msg.specs.declared.message.Message.{Message}
use Rattle.sd_rpc_msg.specs.declared.message.Message.TheVariants.{Asked, Answered}
use Rattle.sd_text.specs.Texts.{Text}
use Rattle.sd_text.specs.Kind as texts
use Rattle.sd_text.specs.Grammar.{writes}
use Rattle.sd_show.specs.declared.procedures.Procedure.{Procedure}
use Rattle.sd_show.specs.declared.procedures.Known.{Known}
use Rattle.sd_show.specs.Forms.{Form, form_kind, text_kind}
use Rattle.sd_show.specs.Fields.{Fields, fields_kind, fields_text}
use Rattle.sd_show.specs.Programs.{numbers, args_kind, results_kind}
use Rattle.sd_show.specs.Calls.{procedure_of}
use Rattle.sd_show.specs.Messages.{Body, bare, read_as, no_body, AreArgs}
use Rattle.sd_show.specs.Lines.{asked, asked_value, call, call_value, outcome, outcome_value, carried, carries_message}

-- what a refusal says; out of memory says nothing
abbrev pub OnRefusal : MsgError → Type 0 → Type 0
OnRefusal NoMemory P = Unit {0}
OnRefusal (Xdr e) P = P
OnRefusal (RpcVersion xid got) P = P
OnRefusal (AuthLong at len) P = P

-- the body of an outcome, and of a message, where the call of a reply asked for this, if it is known by name
abbrev pub AreResultsOf : Option Known → List ℕ → Body → Type 0
AreResultsOf None bs (bare content) = content ≡ bs
AreResultsOf None bs (read_as k x) = ⊥
AreResultsOf (Some k) bs (bare content) = ⊥
AreResultsOf (Some k) bs (read_as j x) = (j ≡ k) × Reads whole (results_kind k) bs x

abbrev pub IsBodyOf : Option Known → Outcome → Body → Type 0
IsBodyOf known (Success verf bs) b = AreResultsOf known bs b
IsBodyOf known (ProgUnavail verf) b = b ≡ no_body
IsBodyOf known (ProgMismatch verf low high) b = b ≡ no_body
IsBodyOf known (ProcUnavail verf) b = b ≡ no_body
IsBodyOf known (GarbageArgs verf) b = b ≡ no_body
IsBodyOf known (RpcMismatch low high) b = b ≡ no_body
IsBodyOf known (AuthError stat) b = b ≡ no_body

abbrev pub IsMessageBody : Option Known → Message → Body → Type 0
IsMessageBody known (Asked c) b = AreArgs (procedure_of c) c.args b
IsMessageBody known (Answered r) b = IsBodyOf known r.outcome b

-- why the results of a reply, or the arguments of a call, are none, with a place in them
abbrev pub IsBodyRefusedOf : Option Known → Outcome → MsgError → Type 0
IsBodyRefusedOf known (Success verf bs) e = (k : Known) × (known ≡ Some k) × Refuses whole (results_kind k) 0 bs e
IsBodyRefusedOf known (ProgUnavail verf) e = ⊥
IsBodyRefusedOf known (ProgMismatch verf low high) e = ⊥
IsBodyRefusedOf known (ProcUnavail verf) e = ⊥
IsBodyRefusedOf known (GarbageArgs verf) e = ⊥
IsBodyRefusedOf known (RpcMismatch low high) e = ⊥
IsBodyRefusedOf known (AuthError stat) e = ⊥

abbrev pub IsMessageRefused : Option Known → Message → MsgError → Type 0
IsMessageRefused known (Asked c) e = (k : Known) × (numbers k ≡ procedure_of c) × Refuses whole (args_kind k) 0 c.args e
IsMessageRefused known (Answered r) e = IsBodyRefusedOf known r.outcome e

-- A value that stands at the front is written as its text, or why none stands there.
abbrev pub SaysAs : texts.Kind → Kind part → Cursor → Cursor → Text → Text → Result Unit MsgError → Type 0
SaysAs K M old new before behind (Ok done) = (x : Value) × (reading M old ≡ Ok (x, new)) × (behind ≡ before ++ writes K x)
SaysAs K M old new before behind (Err e) = Stops e (reading M old)

abbrev pub Says : Form → Cursor → Cursor → Text → Text → Result Unit MsgError → Type 0
Says F old new before behind r = SaysAs (text_kind F) (form_kind F) old new before behind r

abbrev pub SaysFields : Fields → Cursor → Cursor → Text → Text → Result Unit MsgError → Type 0
SaysFields A old new before behind r = SaysAs (fields_text A) (fields_kind A) old new before behind r

-- the call was not done
abbrev pub IsNotDone : Outcome → Type 0
IsNotDone o = (verf : OpaqueAuth) (bs : List ℕ) → o ≡ Success verf bs → ⊥

-- What a call asks for is written, or why its arguments are none, with a place in them.
abbrev pub SaysAsked : Procedure → List ℕ → Text → Text → Result Unit MsgError → Type 0
SaysAsked p bs before behind (Ok done) = (b : Body) × AreArgs p bs b × (behind ≡ before ++ writes asked (asked_value p b))
SaysAsked p bs before behind (Err e) = OnRefusal e ((k : Known) × (numbers k ≡ p) × Refuses whole (args_kind k) 0 bs e)

abbrev pub SaysCall : Call → Text → Text → Result Unit MsgError → Type 0
SaysCall c before behind (Ok done) = (b : Body) × AreArgs (procedure_of c) c.args b × (behind ≡ before ++ writes call (call_value c b))
SaysCall c before behind (Err e) = OnRefusal e ((k : Known) × (numbers k ≡ procedure_of c) × Refuses whole (args_kind k) 0 c.args e)

-- The same for what follows `reply XID` where the call, if it is known, asked for this.
abbrev pub SaysOutcome : Option Known → Outcome → Text → Text → Result Unit MsgError → Type 0
SaysOutcome known o before behind (Ok done) = (b : Body) × IsBodyOf known o b × (behind ≡ before ++ writes outcome (outcome_value o b))
SaysOutcome known o before behind (Err e) = OnRefusal e (IsBodyRefusedOf known o e)

abbrev pub SaysMessage : Option Known → Message → Text → Text → Result Unit MsgError → Type 0
SaysMessage known m before behind (Ok done) = (b : Body) × IsMessageBody known m b × (behind ≡ before ++ writes carried (carries_message m b))
SaysMessage known m before behind (Err e) = OnRefusal e (IsMessageRefused known m e)
