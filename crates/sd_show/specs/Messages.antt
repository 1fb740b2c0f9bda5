-- What the arguments of a call, and the results of a reply, say.
use Rattle.std.specs.Prelude.{◌≡◌, ℕ, List, [], Option, Some, None}
use Rattle.sd_outside.specs.declared.packet.Addr.{Addr}
use Rattle.sd_xdr.specs.Kind.{whole, Value}
use Rattle.sd_xdr.specs.Grammar.{Reads, writes, HasSpelling}
use Rattle.sd_rpc_msg.specs.declared.message.Call.{Call}
use Rattle.sd_rpc_msg.specs.declared.message.Outcome.{Outcome}
use Rattle.sd_rpc_msg.specs.declared.message.Outcome.TheVariants.{Success, ProgUnavail, ProgMismatch, ProcUnavail, GarbageArgs, RpcMismatch, AuthError}
use Rattle.sd_rpc_msg.specs.declared.message.Message.{Message}
use Rattle.sd_rpc_msg.specs.declared.message.Message.TheVariants.{Asked, Answered}
use Rattle.sd_show.specs.declared.procedures.Procedure.{Procedure}
use Rattle.sd_show.specs.declared.procedures.Known.{Known}
use Rattle.sd_show.specs.declared.calls.Heard.{Heard}
use Rattle.sd_show.specs.Programs.{numbers, IsUnknown, args_kind, results_kind}
use Rattle.sd_show.specs.Calls.{procedure_of, answered}

-- the bytes alone; or those of a procedure that is known by name, as a value
pub data Body : Type 0 where
  bare : List ℕ → Body
  read_as : Known → Value → Body

-- nothing, in a reply that has no results
abbrev pub no_body : Body
no_body = bare []

-- the arguments of a procedure: of one that is known they are read, of another they are bytes
abbrev pub AreArgs : Procedure → List ℕ → Body → Type 0
AreArgs p bs (bare content) = (content ≡ bs) × IsUnknown p
AreArgs p bs (read_as k x) = (numbers k ≡ p) × Reads whole (args_kind k) bs x

-- The results of a reply to a call for a procedure: where that is known they are read, else they are bytes, as they are where no
-- call is known.
abbrev pub AreResults : Option Procedure → List ℕ → Body → Type 0
AreResults None bs (bare content) = content ≡ bs
AreResults None bs (read_as k x) = ⊥
AreResults (Some p) bs (bare content) = (content ≡ bs) × IsUnknown p
AreResults (Some p) bs (read_as k x) = (numbers k ≡ p) × Reads whole (results_kind k) bs x

abbrev pub IsOutcomeBody : Option Procedure → Outcome → Body → Type 0
IsOutcomeBody asked (Success verf bs) b = AreResults asked bs b
IsOutcomeBody asked (ProgUnavail verf) b = b ≡ no_body
IsOutcomeBody asked (ProgMismatch verf low high) b = b ≡ no_body
IsOutcomeBody asked (ProcUnavail verf) b = b ≡ no_body
IsOutcomeBody asked (GarbageArgs verf) b = b ≡ no_body
IsOutcomeBody asked (RpcMismatch low high) b = b ≡ no_body
IsOutcomeBody asked (AuthError stat) b = b ≡ no_body

-- the body of a message that was sent from the first address to the second, behind these calls
abbrev pub IsBody : List Heard → Addr → Addr → Message → Body → Type 0
IsBody seen src dst (Asked c) b = AreArgs (procedure_of c) c.args b
IsBody seen src dst (Answered r) b = IsOutcomeBody (answered r.xid src dst seen) r.outcome b

-- ---- the same in the written form: the bytes are those that are written for the value

abbrev pub AreWrittenArgs : Procedure → List ℕ → Body → Type 0
AreWrittenArgs p bs (bare content) = (content ≡ bs) × IsUnknown p
AreWrittenArgs p bs (read_as k x) = (numbers k ≡ p) × HasSpelling (args_kind k) x × (bs ≡ writes (args_kind k) x)

abbrev pub AreWrittenResults : List ℕ → Body → Type 0
AreWrittenResults bs (bare content) = content ≡ bs
AreWrittenResults bs (read_as k x) = HasSpelling (results_kind k) x × (bs ≡ writes (results_kind k) x)

abbrev pub IsWrittenOutcome : Outcome → Body → Type 0
IsWrittenOutcome (Success verf bs) b = AreWrittenResults bs b
IsWrittenOutcome (ProgUnavail verf) b = b ≡ no_body
IsWrittenOutcome (ProgMismatch verf low high) b = b ≡ no_body
IsWrittenOutcome (ProcUnavail verf) b = b ≡ no_body
IsWrittenOutcome (GarbageArgs verf) b = b ≡ no_body
IsWrittenOutcome (RpcMismatch low high) b = b ≡ no_body
IsWrittenOutcome (AuthError stat) b = b ≡ no_body

abbrev pub IsWrittenBody : Message → Body → Type 0
IsWrittenBody (Asked c) b = AreWrittenArgs (procedure_of c) c.args b
IsWrittenBody (Answered r) b = IsWrittenOutcome r.outcome b

-- a message with the body that is written for a value
abbrev pub with_args : Call → Body → Call
with_args c (bare bs) = c
with_args c (read_as k x) = record c { args = writes (args_kind k) x }

abbrev pub with_results : Outcome → Body → Outcome
with_results (Success verf bs) (bare content) = Success verf bs
with_results (Success verf bs) (read_as k x) = Success verf (writes (results_kind k) x)
with_results (ProgUnavail verf) b = ProgUnavail verf
with_results (ProgMismatch verf low high) b = ProgMismatch verf low high
with_results (ProcUnavail verf) b = ProcUnavail verf
with_results (GarbageArgs verf) b = GarbageArgs verf
with_results (RpcMismatch low high) b = RpcMismatch low high
with_results (AuthError stat) b = AuthError stat

abbrev pub with_body : Message → Body → Message
with_body (Asked c) b = Asked (with_args c b)
with_body (Answered r) b = Answered record r { outcome = with_results r.outcome b }
