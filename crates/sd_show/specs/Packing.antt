-- Words for the functions that read the texts of packets.
use Rattle.std.specs.Prelude.{◌≡◌, ℕ, ◌+◌, ◌<◌, ◌≤◌, Bool, true, false, List, ◌++◌, length, Option, Some, None, Result, Ok, Err}
use Rattle.sd_outside.specs.declared.packet.Addr.{Addr}
use Rattle.sd_outside.specs.declared.packet.Packet.{Packet}
use Rattle.sd_outside.specs.declared.packet.Packet.TheVariants.{Frame, Udp}
use Rattle.sd_xdr.specs.Kind as xdr
use Rattle.sd_xdr.specs.Kind.{Value, none, number, ◌⊗◌}
use Rattle.sd_xdr.specs.Grammar.{HasSpelling, writes}
use Rattle.sd_xdr.specs.Reading as binary
use Rattle.sd_rpc_msg.specs.declared.message.Outcome.{Outcome}
use Rattle.sd_rpc_msg.specs.declared.message.Outcome.TheVariants.{Success, ProgUnavail, ProgMismatch, ProcUnavail, GarbageArgs, RpcMismatch, AuthError}
use Rattle.sd_rpc_msg.specs.declared.message.Message.{Message}
use Rattle.sd_rpc_msg.specs.declared.message.Message.TheVariants.{Asked, Answered}
use Rattle.sd_rpc_msg.specs.Layout.{message, message_value, MessageFits}
use Rattle.sd_tftp.specs.Grammar as tftp
use Rattle.sd_rarp.specs.Frame.{frame_bytes}
use Rattle.sd_text.specs.Texts.{Text}
use Rattle.sd_text.specs.Kind.{Kind}
use Rattle.sd_text.specs.declared.error.LineError.{LineError}
use Rattle.sd_text.specs.Answers.{OnOutside}
use Rattle.sd_text.specs.Reading.{◌>>=◌, Read, reading, many_reading}
use Rattle.sd_show.specs.declared.procedures.Known.{Known}
use Rattle.sd_show.specs.declared.form.Form.{Form}
use Rattle.sd_show.specs.declared.form.Form.TheVariants as forms
use Rattle.sd_show.specs.declared.form.Fields.{Fields}
use Rattle.sd_show.specs.declared.form.Fields.TheVariants as fields
use Rattle.sd_show.specs.declared.packing.AskedText.{AskedText}
use Rattle.sd_show.specs.declared.packing.State.{State}
use Rattle.sd_show.specs.declared.packing.State.TheVariants as states
use Rattle.sd_show.specs.declared.packing.OutcomeText.{OutcomeText}
use Rattle.sd_show.specs.declared.packing.MessageText.{MessageText}
use Rattle.sd_show.specs.declared.lines.Carried.{Carried}
use Rattle.sd_show.specs.declared.lines.Carried.TheVariants as carried
use Rattle.sd_show.specs.declared.lines.Line.{Line}
use Rattle.sd_show.specs.declared.lines.Line.TheVariants as lines
use Rattle.sd_show.specs.Forms as written
use Rattle.sd_show.specs.Forms.{as_number, as_ip, as_run, as_quoted, ◌⊞◌, in_parens, in_brackets, form_kind, longest, text_kind}
use Rattle.sd_show.specs.Fields as rows
use Rattle.sd_show.specs.Fields.{nothing, field, ◌⊕◌, numbered, checked, fields_kind, fields_text}
use Rattle.sd_show.specs.Programs.{args_kind, results_kind}
use Rattle.sd_show.specs.Messages.{Body, bare, read_as, no_body, AreWrittenArgs, IsWrittenOutcome, IsWrittenBody}
use Rattle.sd_show.specs.Lines.{place, asked_value, outcome_value, carries_file, carries_message, datagram_line, frame_line}
use Rattle.sd_show.specs.Shown.{is_tftp}

-- ---- the tables of the code beside the forms and fields of the definitions

abbrev pub form_of : Form → written.Form
form_of forms.Number = as_number xdr.any
form_of forms.Flag = as_number xdr.flag
form_of forms.Port = as_number (xdr.between 0 65535)
form_of forms.Address = as_ip
form_of (forms.Fixed n) = as_run (xdr.fixed n)
form_of (forms.Run most) = as_run (xdr.upto most)
form_of (forms.Quoted most) = as_quoted most
form_of (forms.Pair' p A q B) = form_of A ⊞ form_of B
form_of (forms.Row' p A) = in_parens (form_of A)
form_of (forms.List' p A) = in_brackets (form_of A)

abbrev pub fields_of : Fields → rows.Fields
fields_of fields.Nothing = nothing
fields_of (fields.One f) = field f
fields_of (fields.Both' p A q B) = fields_of A ⊕ fields_of B
fields_of (fields.Numbered' n p A) = numbered n (fields_of A)
fields_of (fields.Checked' p A) = checked (fields_of A)

-- ---- a text that is read into the bytes of a message

-- bytes with those of the value that a text begins with, and the text behind it
abbrev pub Packed : Type 0
Packed = Option (List ℕ × Text)

abbrev pub packed_with : xdr.Kind xdr.part → List ℕ → Read → Packed
packed_with M w r = r >>= λ (x : Value × Text). Some (w ++ writes M x.0, x.1)

unfoldable pub packs_as : Kind → xdr.Kind xdr.part → List ℕ → Text → Packed
packs_as K M w t = packed_with M w (reading K t)

abbrev pub TakesAs : Kind → xdr.Kind xdr.part → List ℕ → Text → List ℕ → Text → Result (Unit {0}) LineError → Type 0
TakesAs K M w t v u (Ok done) = packs_as K M w t ≡ Some (v, u)
TakesAs K M w t v u (Err e) = OnOutside e (packs_as K M w t ≡ None)

abbrev pub TakesForm : written.Form → List ℕ → Text → List ℕ → Text → Result (Unit {0}) LineError → Type 0
TakesForm F w t v u r = TakesAs (text_kind F) (form_kind F) w t v u r

-- items behind a comma, at most so many, and the end of their list
unfoldable pub packs_more : Kind → xdr.Kind xdr.part → ℕ → List ℕ → Text → Packed
packs_more K M most w t = packed_with (xdr.list M) w (many_reading (reading K) 44 most t)

abbrev pub TakesMore : Kind → xdr.Kind xdr.part → List ℕ → Text → List ℕ → Text → Result (Unit {0}) LineError → Type 0
TakesMore K M w t v u (Ok done) = packs_more K M longest w t ≡ Some (v, u)
TakesMore K M w t v u (Err e) = OnOutside e (packs_more K M longest w t ≡ None)

-- ---- what stands in the text of a message

-- the place of a procedure's name among the known ones, and among those that a reply may begin with
abbrev pub place_of : Option Known → Option ℕ
place_of (Some k) = Some (place k)
place_of None = None

abbrev pub later_place_of : Option Known → Option ℕ
later_place_of (Some k) = Some (place k + 4)
later_place_of None = None

-- the value that bytes are read as
abbrev pub value_read : binary.Read → Value
value_read (Ok x) = x.0
value_read (Err e) = none

unfoldable pub value_in : xdr.Kind xdr.whole → List ℕ → Value
value_in K bs = value_read (binary.reading K (binary.start bs))

-- bytes as they are written for their value
abbrev pub AreWritten : xdr.Kind xdr.whole → List ℕ → Type 0
AreWritten K bs = HasSpelling K (value_in K bs) × (bs ≡ writes K (value_in K bs))

-- arguments and results, of a procedure that is known by name or of another
abbrev pub args_body : Option Known → List ℕ → Body
args_body None bs = bare bs
args_body (Some k) bs = read_as k (value_in (args_kind k) bs)

abbrev pub results_body : Option Known → List ℕ → Body
results_body None bs = bare bs
results_body (Some k) bs = read_as k (value_in (results_kind k) bs)

abbrev pub outcome_body : Option Known → Outcome → Body
outcome_body known (Success verf bs) = results_body known bs
outcome_body known (ProgUnavail verf) = no_body
outcome_body known (ProgMismatch verf low high) = no_body
outcome_body known (ProcUnavail verf) = no_body
outcome_body known (GarbageArgs verf) = no_body
outcome_body known (RpcMismatch low high) = no_body
outcome_body known (AuthError stat) = no_body

abbrev pub message_body : Option Known → Message → Body
message_body known (Asked c) = args_body known c.args
message_body known (Answered r) = outcome_body known r.outcome

abbrev pub asked_told : AskedText → Value
asked_told a = asked_value a.procedure (args_body a.known a.args)

abbrev pub IsAskedWritten : AskedText → Type 0
IsAskedWritten a = AreWrittenArgs a.procedure a.args (args_body a.known a.args)

abbrev pub state_told : State → Value
state_told states.ProgUnavail = number 0 ⊗ none
state_told (states.ProgMismatch low high) = number 1 ⊗ number low ⊗ number high
state_told states.ProcUnavail = number 2 ⊗ none
state_told states.GarbageArgs = number 3 ⊗ none

abbrev pub outcome_told : OutcomeText → Value
outcome_told o = outcome_value o.outcome (outcome_body o.known o.outcome)

abbrev pub IsOutcomeWritten : OutcomeText → Type 0
IsOutcomeWritten o = IsWrittenOutcome o.outcome (outcome_body o.known o.outcome)

abbrev pub message_told : MessageText → Value
message_told t = carries_message t.message (message_body t.known t.message)

abbrev pub IsMessageWritten : MessageText → Type 0
IsMessageWritten t = IsWrittenBody t.message (message_body t.known t.message)

-- ---- lines

abbrev pub carried_told : Carried → Value
carried_told (carried.File p) = carries_file p
carried_told (carried.Rpc t) = message_told t

abbrev pub IsCarriedWritten : Carried → Type 0
IsCarriedWritten (carried.File p) = Unit {0}
IsCarriedWritten (carried.Rpc t) = IsMessageWritten t

abbrev pub line_told : Line → Value
line_told (lines.Datagram src dst c) = datagram_line src dst (carried_told c)
line_told (lines.Rarp f) = frame_line f

abbrev pub IsLineWritten : Line → Type 0
IsLineWritten (lines.Datagram src dst c) = IsCarriedWritten c
IsLineWritten (lines.Rarp f) = Unit {0}

-- the bytes that a datagram of this carries
abbrev pub carried_bytes : Carried → List ℕ
carried_bytes (carried.File p) = tftp.packet_bytes p
carried_bytes (carried.Rpc t) = writes message (message_value t.message)

-- packets of TFTP go to or from its ports, and messages to none of them
abbrev pub is_file : Carried → Bool
is_file (carried.File p) = true
is_file (carried.Rpc t) = false

-- the packet that a line says: its datagram has no more than 9,216 bytes
abbrev pub IsPacketOf : Line → Packet → Type 0
IsPacketOf (lines.Datagram src dst c) packet = (is_tftp src dst ≡ is_file c) × (length (carried_bytes c) ≤ 9216) × (packet ≡ Udp src dst (carried_bytes c))
IsPacketOf (lines.Rarp f) packet = packet ≡ Frame (frame_bytes f)

abbrev pub IsDatagram : Addr → Addr → List ℕ → Option Packet → Type 0
IsDatagram src dst body (Some packet) = (length body ≤ 9216) × (packet ≡ Udp src dst body)
IsDatagram src dst body None = 9216 < length body

-- what has room in its bytes
abbrev pub CarriedFits : Carried → Type 0
CarriedFits (carried.File p) = tftp.HasSpelling p
CarriedFits (carried.Rpc t) = MessageFits t.message

abbrev pub LineFits : Line → Type 0
LineFits (lines.Datagram src dst c) = CarriedFits c
LineFits (lines.Rarp f) = Unit {0}
