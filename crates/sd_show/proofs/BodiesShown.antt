-- The body of a message, from the calls that were seen, and the place of its refusal.
use Rattle.std.proofs.Common.{◌≡◌, inr, ℕ, ◌+◌, ◌-◌, ◌<◌, ◌≤◌, ◌^◌, List, ◌++◌, length, Option, Some, None, refl, sym, ap, subst, ◌∙◌, arith, codes, append_assoc}
use Rattle.std.specs.Prelude.{IsFalse}
use Rattle.sd_outside.specs.declared.packet.Addr.{Addr}
use Rattle.sd_xdr.specs.declared.error.MsgError.{MsgError}
use Rattle.sd_xdr.specs.declared.error.MsgError.TheVariants as messages
use Rattle.sd_xdr.specs.Kind.{whole, Kind}
use Rattle.sd_xdr.specs.Grammar.{Reads, Refuses}
use Rattle.sd_rpc_msg.specs.declared.message.Call.{Call}
use Rattle.sd_rpc_msg.specs.declared.message.Reply.{Reply}
use Rattle.sd_rpc_msg.specs.declared.message.Outcome.{Outcome}
use Rattle.sd_rpc_msg.specs.declared.message.Outcome.TheVariants.{Success, ProgUnavail, ProgMismatch, ProcUnavail, GarbageArgs, RpcMismatch, AuthError}
use Rattle.sd_rpc_msg.specs.declared.message.Message.{Message}
use Rattle.sd_rpc_msg.specs.declared.message.Message.TheVariants.{Asked, Answered}
use Rattle.sd_rpc_msg.specs.Layout.{message, message_value, outcome_value}
use Rattle.sd_text.specs.Texts.{Text}
use Rattle.sd_xdr.specs.Kind as xdr
use Rattle.sd_text.specs.Kind.{addr, addr_value}
use Rattle.sd_text.specs.Grammar as texts
use Rattle.sd_show.specs.Lines.{carried, line, datagram_line}
use Rattle.sd_show.specs.declared.error.ShowError.{ShowError}
use Rattle.sd_show.specs.declared.error.ShowError.TheVariants.{Bad, NoMemory}
use Rattle.sd_show.specs.declared.procedures.Procedure.{Procedure}
use Rattle.sd_show.specs.declared.procedures.Known.{Known}
use Rattle.sd_show.specs.declared.calls.Heard.{Heard}
use Rattle.sd_show.specs.Programs.{numbers, args_kind, results_kind}
use Rattle.sd_show.specs.Calls.{procedure_of, answered}
use Rattle.sd_show.specs.Messages.{Body, bare, read_as, AreResults, IsOutcomeBody, IsBody}
use Rattle.sd_show.specs.Saying.{OnRefusal, AreResultsOf, IsBodyOf, IsMessageBody, IsBodyRefusedOf, IsMessageRefused}
use Rattle.sd_show.specs.Shown.{is_tftp}
use Rattle.sd_show.specs.Refused.{message_error, AreResultsRefused, IsBodyRefused, HasNoBody}
use Rattle.sd_show.specs.Showing.{IsKnownOf, IsAskedOf, IsMessageNotShown, results_length, content_length, moved, PlaceFits, datagram_head}
use Rattle.sd_show.proofs.Places.{PlaceWithin, moves, bytes_in, holds}
use Rattle.sd_show.proofs.ReadWhole.{args_usual, results_usual}

-- ---- what the call of a reply asked for

results_are : (p : Option Procedure) (asked : Option Known) (bs : List ℕ) (b : Body) → IsKnownOf p asked → AreResultsOf asked bs b → AreResults p bs b
results_are None None bs (bare content) is h = h
results_are None None bs (read_as k x) is h = absurd h
results_are None (Some k) bs b is h = absurd cc
results_are (Some p) None bs (bare content) is h = (h, is)
results_are (Some p) None bs (read_as k x) is h = absurd h
results_are (Some p) (Some k) bs (bare content) is h = absurd h
results_are (Some p) (Some k) bs (read_as j x) is h = (ap numbers h.0 ∙ is, subst (λ (l : Known). Reads whole (results_kind l) bs x) (sym h.0) h.1)

outcome_body : (p : Option Procedure) (asked : Option Known) (o : Outcome) (b : Body) → IsKnownOf p asked → IsBodyOf asked o b → IsOutcomeBody p o b
outcome_body p asked (Success verf bs) b is h = results_are p asked bs b is h
outcome_body p asked (ProgUnavail verf) b is h = h
outcome_body p asked (ProgMismatch verf low high) b is h = h
outcome_body p asked (ProcUnavail verf) b is h = h
outcome_body p asked (GarbageArgs verf) b is h = h
outcome_body p asked (RpcMismatch low high) b is h = h
outcome_body p asked (AuthError stat) b is h = h

pub body_is : (seen : List Heard) (src dst : Addr) (m : Message) (asked : Option Known) (b : Body) → IsAskedOf seen src dst m asked → IsMessageBody asked m b → IsBody seen src dst m b
body_is seen src dst (Asked c) asked b is h = h
body_is seen src dst (Answered r) asked b is h = outcome_body (answered r.xid src dst seen) asked r.outcome b is h

-- ---- arguments and results are the last bytes of a message

results_within : (o : Outcome) → results_length o ≤ bytes_in (outcome_value o)
results_within (Success verf bs) = omega arith
results_within (ProgUnavail verf) = omega arith
results_within (ProgMismatch verf low high) = omega arith
results_within (ProcUnavail verf) = omega arith
results_within (GarbageArgs verf) = omega arith
results_within (RpcMismatch low high) = omega arith
results_within (AuthError stat) = omega arith

value_holds : (m : Message) → content_length m ≤ bytes_in (message_value m)
value_holds (Asked c) = omega arith
value_holds (Answered r) = omega (arith, results_within r.outcome)

pub content_within : (m : Message) (content : List ℕ) → Reads whole message content (message_value m) → content_length m ≤ length content
content_within m content h = omega (arith, value_holds m, holds h)

-- ---- the place of a refusal

fits : (e : ShowError) (len by all : ℕ) → PlaceWithin (0 + len) e → len + by ≤ all → all < 2 ^ 64 → PlaceFits by e
fits (Bad which at) len by all within le lt = omega (arith, within, le, lt)
fits NoMemory len by all within le lt = tt

not_shown : (seen : List Heard) (src dst : Addr) (content : List ℕ) (e : ShowError) → HasNoBody seen src dst content e → IsMessageNotShown seen src dst content e
not_shown seen src dst content (Bad which at) h = inr h
not_shown seen src dst content NoMemory h = tt

-- a refusal of a body, as it is handed on
abbrev pub IsHandedOn : List Heard → Addr → Addr → List ℕ → ℕ → ShowError → Type 0
IsHandedOn seen src dst content by e = PlaceFits by e × IsMessageNotShown seen src dst content (moved by e)

known_is : (p : Option Procedure) (asked : Option Known) (k : Known) → IsKnownOf p asked → asked ≡ Some k → p ≡ Some (numbers k)
known_is None asked k is h = absurd (apart (sym is ∙ h))
  where
    apart : ◌≡◌ {A = Option Known} None (Some k) → ⊥
    apart h = cc
known_is (Some p) None k is h = absurd cc
known_is (Some p) (Some j) k is h = ap Some (sym is ∙ ap numbers (same h))
  where
    same : ◌≡◌ {A = Option Known} (Some j) (Some k) → j ≡ k
    same h = cc

handed : (seen : List Heard) (src dst : Addr) (content : List ℕ) (m : Message) (len : ℕ) (e s : MsgError) → IsFalse (is_tftp src dst) → Reads whole message content (message_value m)
    → length content < 2 ^ 64 → len ≤ length content → PlaceWithin (0 + len) (message_error e) → IsBodyRefused seen src dst (length content) m s → message_error s ≡ moved (length content - len) (message_error e)
    → IsHandedOn seen src dst content (length content - len) (message_error e)
handed seen src dst content m len e s other reads lt le within refuses means = (
  fits (message_error e) len (length content - len) (length content) within (omega (arith, le)) lt,
  not_shown seen src dst content (moved (length content - len) (message_error e)) record { m = m; r = s; other = other; reads = reads; refuses = refuses; means = sym means },
)

pub from_start : (K : Kind whole) (by : ℕ) (bs : List ℕ) (s : MsgError) → Refuses whole K (0 + by) bs s → Refuses whole K by bs s
from_start K by bs s h =
    let same : 0 + by ≡ by = omega arith in
    subst (λ (p : ℕ). Refuses whole K p bs s) same h

args_handed : (seen : List Heard) (src dst : Addr) (content : List ℕ) (c : Call) (k : Known) (e : MsgError) → IsFalse (is_tftp src dst) → Reads whole message content (message_value (Asked c))
    → length content < 2 ^ 64 → numbers k ≡ procedure_of c → Refuses whole (args_kind k) 0 c.args e → IsHandedOn seen src dst content (length content - length c.args) (message_error e)
args_handed seen src dst content c k e other reads lt is h =
    let m = moves (length content - length c.args) (args_usual k) h in
    handed seen src dst content (Asked c) (length c.args) e m.s other reads lt (content_within (Asked c) content reads) m.within (k, is, from_start (args_kind k) (length content - length c.args) c.args m.s m.refuses) m.means

outcome_handed : (seen : List Heard) (src dst : Addr) (content : List ℕ) (r : Reply) (asked : Option Known) (e : MsgError) → IsFalse (is_tftp src dst)
    → Reads whole message content (message_value (Answered r)) → length content < 2 ^ 64 → IsKnownOf (answered r.xid src dst seen) asked
    → (o : Outcome) → r.outcome ≡ o → IsBodyRefusedOf asked o e → IsHandedOn seen src dst content (length content - results_length o) (message_error e)
outcome_handed seen src dst content r asked e other reads lt is (Success verf bs) same h =
    let m = moves (length content - length bs) (results_usual h.0) h.2 in
    let le : length bs ≤ length content = omega (arith, content_within (Answered r) content reads, ap results_length same) in
    let refuses : AreResultsRefused (length content) (answered r.xid src dst seen) (Success verf bs) m.s = (h.0, known_is (answered r.xid src dst seen) asked h.0 is h.1, from_start (results_kind h.0) (length content - length bs) bs m.s m.refuses) in
    handed seen src dst content (Answered r) (length bs) e m.s other reads lt le m.within
    (subst (λ (o : Outcome). AreResultsRefused (length content) (answered r.xid src dst seen) o m.s) (sym same) refuses) m.means
outcome_handed seen src dst content r asked e other reads lt is (ProgUnavail verf) same h = absurd h
outcome_handed seen src dst content r asked e other reads lt is (ProgMismatch verf low high) same h = absurd h
outcome_handed seen src dst content r asked e other reads lt is (ProcUnavail verf) same h = absurd h
outcome_handed seen src dst content r asked e other reads lt is (GarbageArgs verf) same h = absurd h
outcome_handed seen src dst content r asked e other reads lt is (RpcMismatch low high) same h = absurd h
outcome_handed seen src dst content r asked e other reads lt is (AuthError stat) same h = absurd h

message_handed : (seen : List Heard) (src dst : Addr) (content : List ℕ) (m : Message) (asked : Option Known) (e : MsgError) → IsFalse (is_tftp src dst)
    → Reads whole message content (message_value m) → length content < 2 ^ 64 → IsAskedOf seen src dst m asked → IsMessageRefused asked m e
    → IsHandedOn seen src dst content (length content - content_length m) (message_error e)
message_handed seen src dst content (Asked c) asked e other reads lt is h = args_handed seen src dst content c h.0 e other reads lt h.1 h.2
message_handed seen src dst content (Answered r) asked e other reads lt is h = outcome_handed seen src dst content r asked e other reads lt is r.outcome refl h

pub refusal_handed : (seen : List Heard) (src dst : Addr) (content : List ℕ) (m : Message) (asked : Option Known) (e : MsgError) → IsFalse (is_tftp src dst)
    → Reads whole message content (message_value m) → length content < 2 ^ 64 → IsAskedOf seen src dst m asked → OnRefusal e (IsMessageRefused asked m e)
    → IsHandedOn seen src dst content (length content - content_length m) (message_error e)
refusal_handed seen src dst content m asked messages.NoMemory other reads lt is h = (tt, tt)
refusal_handed seen src dst content m asked (messages.Xdr r) other reads lt is h = message_handed seen src dst content m asked (messages.Xdr r) other reads lt is h
refusal_handed seen src dst content m asked (messages.RpcVersion xid got) other reads lt is h = message_handed seen src dst content m asked (messages.RpcVersion xid got) other reads lt is h
refusal_handed seen src dst content m asked (messages.AuthLong at len) other reads lt is h = message_handed seen src dst content m asked (messages.AuthLong at len) other reads lt is h

-- ---- what stands behind the addresses of a datagram

pub behind_head : (src dst : Addr) (head behind : Text) (x : xdr.Value) → head ≡ datagram_head src dst → behind ≡ head ++ texts.writes carried x → behind ≡ texts.writes line (datagram_line src dst x)
unfolding texts.writes
behind_head src dst head behind x begun added =
    let a = texts.writes addr (addr_value src) in
    let b = texts.writes addr (addr_value dst) in
    let c = texts.writes carried x in
    added ∙ ap (λ (t : Text). t ++ c) begun
    ∙ ap (λ (t : Text). codes "udp " ++ t) (append_assoc a (codes " " ++ (b ++ codes " ")) c ∙ ap (λ (t : Text). a ++ (codes " " ++ t)) (append_assoc b (codes " ") c))
