-- The kinds of the texts of packets, and the value that each text spells.
use Rattle.std.specs.Prelude.{ℕ, ◌+◌, ◌-◌, Bool, true, not, ◌&&◌, ◌==◌, List, [], ◌∷◌, map, get_or, codes, Option, Some, None, if◌then◌else◌}
use Rattle.sd_outside.specs.declared.packet.Mac.{Mac}
use Rattle.sd_outside.specs.declared.packet.Addr.{Addr}
use Rattle.sd_xdr.specs.Kind.{Value, none, number, bytes, ◌⊗◌, number_of, bytes_of, first, second}
use Rattle.sd_bootparams.specs.Layout.{ip_value}
use Rattle.sd_rarp.specs.declared.frame.RarpFrame.{RarpFrame}
use Rattle.sd_rarp.specs.declared.frame.RarpFrame.TheVariants as frames
use Rattle.sd_rpc_msg.specs.declared.message.Call.{Call}
use Rattle.sd_rpc_msg.specs.declared.message.Outcome.{Outcome}
use Rattle.sd_rpc_msg.specs.declared.message.Outcome.TheVariants.{Success, ProgUnavail, ProgMismatch, ProcUnavail, GarbageArgs, RpcMismatch, AuthError}
use Rattle.sd_rpc_msg.specs.declared.message.Message.{Message}
use Rattle.sd_rpc_msg.specs.declared.message.Message.TheVariants.{Asked, Answered}
use Rattle.sd_rpc_msg.specs.Layout.{auth_value}
use Rattle.sd_tftp.specs.declared.packet.TftpPacket.{TftpPacket}
use Rattle.sd_tftp.specs.declared.packet.TftpPacket.TheVariants as tftp
use Rattle.sd_text.specs.Texts.{Text}
use Rattle.sd_text.specs.Kind.{is_digit, all_pass, place_in, Kind, void, word, digits, run, said, ◌&◌, choice, fork, such, any, spaced, mac, ip, addr, addr_value, quoted}
use Rattle.sd_show.specs.declared.procedures.Procedure.{Procedure}
use Rattle.sd_show.specs.declared.procedures.Known.{Known}
use Rattle.sd_show.specs.declared.procedures.Known.TheVariants as known
use Rattle.sd_show.specs.Forms.{longest}
use Rattle.sd_show.specs.Fields.{fields_text}
use Rattle.sd_show.specs.Programs.{all_known, numbers, known_text, args, results}
use Rattle.sd_show.specs.Calls.{procedure_of}
use Rattle.sd_show.specs.Messages.{Body, bare, read_as}

-- ---- frames

-- dst=MAC src=MAC
abbrev pub macs : Text → Text → Kind
macs name other = said name mac & said other mac

-- sender=MAC sender_ip=IP
abbrev pub host : Text → Text → Kind
host name ip_name = said name mac & said ip_name ip

abbrev pub ends : Kind
ends = macs (codes " dst=") (codes " src=")

-- request dst=MAC src=MAC sender=MAC target=MAC, or
-- reply dst=MAC src=MAC sender=MAC sender_ip=IP target=MAC target_ip=IP
abbrev pub request : Kind
request = ends & macs (codes " sender=") (codes " target=")

abbrev pub response : Kind
response = ends & host (codes " sender=") (codes " sender_ip=") & host (codes " target=") (codes " target_ip=")

abbrev pub frame_arm : ℕ → Kind
frame_arm n = if n == 0 then request else response

abbrev pub frame : Kind
frame = choice (codes "request" ∷ codes "reply" ∷ []) frame_arm

abbrev pub mac_value : Mac → Value
mac_value m = bytes m.0

abbrev pub macs_value : Mac × Mac → Value
macs_value m = mac_value m.0 ⊗ mac_value m.1

abbrev pub host_value : Mac × ℕ → Value
host_value h = mac_value h.0 ⊗ ip_value h.1

abbrev pub frame_value : RarpFrame → Value
frame_value (frames.Request dst src sender target) = number 0 ⊗ macs_value (dst, src) ⊗ macs_value (sender, target)
frame_value (frames.Reply dst src sender sender_ip target target_ip) =
    number 1 ⊗ macs_value (dst, src) ⊗ host_value (sender, sender_ip) ⊗ host_value (target, target_ip)

-- ---- packets of TFTP

-- a text that holds no zero, as a name, a mode or a message
abbrev pub has_no_zero : Value → Bool
has_no_zero x = all_pass (λ b. not (b == 0)) (bytes_of x)

abbrev pub tftp_text : Kind
tftp_text = such has_no_zero (quoted longest)

abbrev pub tftp_number : Kind
tftp_number = word (digits 0 65535)

-- rrq QUOTED QUOTED, wrq QUOTED QUOTED, block N BYTES, ack N, error N QUOTED
abbrev pub file_arm : ℕ → Kind
file_arm n =
    if n == 0 then spaced tftp_text & spaced tftp_text else
    (if n == 1 then spaced tftp_text & spaced tftp_text else
    (if n == 2 then spaced tftp_number & spaced (word (run 0 512)) else
    (if n == 3 then spaced tftp_number else spaced tftp_number & spaced tftp_text)))

abbrev pub file : Kind
file = choice (codes "rrq" ∷ codes "wrq" ∷ codes "block" ∷ codes "ack" ∷ codes "error" ∷ []) file_arm

abbrev pub file_value : TftpPacket → Value
file_value (tftp.Rrq name mode) = number 0 ⊗ bytes name ⊗ bytes mode
file_value (tftp.Wrq name mode) = number 1 ⊗ bytes name ⊗ bytes mode
file_value (tftp.Block n body) = number 2 ⊗ number n ⊗ bytes body
file_value (tftp.Ack n) = number 3 ⊗ number n
file_value (tftp.Error n message) = number 4 ⊗ number n ⊗ bytes message

-- ---- procedures that are known by name

unfoldable pub known_names : List Text
known_names = map known_text all_known

abbrev pub known_at : ℕ → Known
known_at n = get_or all_known n known.PmapNull

abbrev pub or_zero : Option ℕ → ℕ
or_zero (Some n) = n
or_zero None = 0

-- the place of a procedure among those
unfoldable pub place : Known → ℕ
place k = or_zero (place_in (known_text k) known_names)

-- ---- calls

-- FLAVOR BYTES
abbrev pub auth : Kind
auth = any & spaced (word (run 0 400))

-- bytes that are not read
abbrev pub content : Kind
content = word (run 0 longest)

-- PROG/VERS/PROC
abbrev pub procedure : Kind
procedure = any & said (codes "/") any & said (codes "/") any

abbrev pub procedure_value : Procedure → Value
procedure_value p = number p.prog ⊗ number p.vers ⊗ number p.proc_no

-- the procedure that these numbers name
abbrev pub procedure_in : Value → Procedure
procedure_in x = record { prog = number_of (first x); vers = number_of (first (second x)); proc_no = number_of (second (second x)) }

abbrev pub same_procedure : Procedure → Procedure → Bool
same_procedure p q = p.prog == q.prog && (p.vers == q.vers && p.proc_no == q.proc_no)

-- whether none of these is that procedure
abbrev pub is_none_of : List Known → Procedure → Bool
is_none_of [] p = true
is_none_of (k ∷ ks) p = not (same_procedure (numbers k) p) && is_none_of ks p

-- a procedure that isn't known by name stands by its numbers, and its arguments are bytes
unfoldable pub is_other : Value → Bool
is_other x = is_none_of all_known (procedure_in x)

abbrev pub other : Kind
other = such is_other procedure & spaced content

-- a known one by its name, with its fields
abbrev pub named_arm : ℕ → Kind
named_arm n = fields_text (args (known_at n))

abbrev pub named : Kind
named = choice known_names named_arm

-- PROG/VERS/PROC BYTES, or PROG.PROC FIELDS
abbrev pub asked : Kind
asked = fork is_digit other named

abbrev pub auths : Kind
auths = said (codes " cred ") auth & said (codes " verf ") auth

-- XID, what is asked, cred FLAVOR BYTES verf FLAVOR BYTES
abbrev pub call : Kind
call = any & spaced asked & auths

abbrev pub asked_value : Procedure → Body → Value
asked_value p (bare bs) = number 0 ⊗ procedure_value p ⊗ bytes bs
asked_value p (read_as k x) = number 1 ⊗ number (place k) ⊗ x

abbrev pub call_value : Call → Body → Value
call_value c b = number c.xid ⊗ asked_value (procedure_of c) b ⊗ auth_value c.cred ⊗ auth_value c.verf

-- ---- replies

-- LOW HIGH
abbrev pub range : Kind
range = spaced any & spaced any

-- the state of an accepted call that has no results
abbrev pub state_arm : ℕ → Kind
state_arm n = if n == 1 then range else void

abbrev pub states : Kind
states = choice (codes "progunavail" ∷ codes "progmismatch" ∷ codes "procunavail" ∷ codes "garbageargs" ∷ []) state_arm

-- a verifier, and results as bytes
abbrev pub raw : Kind
raw = said (codes " verf ") auth & said (codes " success ") content

-- a verifier, and the fields of a procedure's results
abbrev pub done : Known → Kind
done k = said (codes " verf ") auth & said (codes " success") (fields_text (results k))

-- what follows the word behind the number of a reply
abbrev pub answer : ℕ → Kind
answer n =
    if n == 0 then raw else
    (if n == 1 then spaced auth & spaced states else
    (if n == 2 then range else
    (if n == 3 then spaced (word (digits 1 5)) else done (known_at (n - 4)))))

abbrev pub answer_words : List Text
answer_words = codes "raw" ∷ codes "verf" ∷ codes "rpcmismatch" ∷ codes "autherror" ∷ known_names

abbrev pub outcome : Kind
outcome = choice answer_words answer

-- XID, and the outcome
abbrev pub reply : Kind
reply = any & spaced outcome

abbrev pub accepted_value : Value → Value → Value
accepted_value verf state = number 1 ⊗ verf ⊗ state

abbrev pub results_value : Value → Body → Value
results_value verf (bare bs) = number 0 ⊗ verf ⊗ bytes bs
results_value verf (read_as k x) = number (place k + 4) ⊗ verf ⊗ x

abbrev pub outcome_value : Outcome → Body → Value
outcome_value (Success verf bs) b = results_value (auth_value verf) b
outcome_value (ProgUnavail verf) b = accepted_value (auth_value verf) (number 0 ⊗ none)
outcome_value (ProgMismatch verf low high) b = accepted_value (auth_value verf) (number 1 ⊗ number low ⊗ number high)
outcome_value (ProcUnavail verf) b = accepted_value (auth_value verf) (number 2 ⊗ none)
outcome_value (GarbageArgs verf) b = accepted_value (auth_value verf) (number 3 ⊗ none)
outcome_value (RpcMismatch low high) b = number 2 ⊗ number low ⊗ number high
outcome_value (AuthError stat) b = number 3 ⊗ number stat

-- ---- packets

-- what a datagram carries: tftp and a packet of TFTP, call and a call, reply and a reply
abbrev pub carried_arm : ℕ → Kind
carried_arm n = if n == 0 then spaced file else (if n == 1 then spaced call else spaced reply)

abbrev pub carried : Kind
carried = choice (codes "tftp" ∷ codes "call" ∷ codes "reply" ∷ []) carried_arm

-- ADDR ADDR, the source first, and what the datagram carries
abbrev pub datagram : Kind
datagram = spaced addr & spaced addr & spaced carried

-- udp and a datagram, or rarp and a frame
abbrev pub line_arm : ℕ → Kind
line_arm n = if n == 0 then datagram else spaced frame

abbrev pub line : Kind
line = choice (codes "udp" ∷ codes "rarp" ∷ []) line_arm

abbrev pub carries_file : TftpPacket → Value
carries_file p = number 0 ⊗ file_value p

abbrev pub carries_message : Message → Body → Value
carries_message (Asked c) b = number 1 ⊗ call_value c b
carries_message (Answered r) b = number 2 ⊗ number r.xid ⊗ outcome_value r.outcome b

abbrev pub datagram_line : Addr → Addr → Value → Value
datagram_line src dst x = number 0 ⊗ addr_value src ⊗ addr_value dst ⊗ x

abbrev pub frame_line : RarpFrame → Value
frame_line f = number 1 ⊗ frame_value f
