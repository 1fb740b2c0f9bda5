-- A packet has a text or is refused.
use Rattle.std.proofs.Common.{◌≡◌, ◌⊎◌, ℕ, zero, suc, ◌+◌, ◌-◌, ◌≤◌, true, ◌&&◌, nat_le, List, length, get_or, Option, Some, None, Ok, Err, Result, refl, sym, ap, subst, ◌∙◌, arith, inl, inr}
use Rattle.std.specs.Prelude.{IsTrue, IsFalse}
use Rattle.std.proofs.lemmas.Bool.{cases_eq, cases_Bool, eqb-true}
use Rattle.sd_outside.specs.Bytes.{IsBytes}
use Rattle.sd_outside.specs.declared.packet.Addr.{Addr}
use Rattle.sd_outside.specs.declared.packet.Packet.{Packet}
use Rattle.sd_outside.specs.declared.packet.Packet.TheVariants.{Frame, Udp}
use Rattle.sd_xdr.specs.declared.error.MsgError.{MsgError}
use Rattle.sd_xdr.specs.Kind.{whole, Kind, Value, number, bytes, ◌⊗◌, number_of, bytes_of, first, second}
use Rattle.sd_xdr.specs.Grammar.{Reads, Refuses, HasSpelling}
use Rattle.sd_xdr.proofs.Whole as xdr
use Rattle.sd_xdr.proofs.Writes.{read_has_spelling}
use Rattle.sd_rpc_msg.specs.declared.message.OpaqueAuth.{OpaqueAuth}
use Rattle.sd_rpc_msg.specs.declared.message.Call.{Call}
use Rattle.sd_rpc_msg.specs.declared.message.Reply.{Reply}
use Rattle.sd_rpc_msg.specs.declared.message.Outcome.{Outcome}
use Rattle.sd_rpc_msg.specs.declared.message.Outcome.TheVariants.{Success, ProgUnavail, ProgMismatch, ProcUnavail, GarbageArgs, RpcMismatch, AuthError}
use Rattle.sd_rpc_msg.specs.declared.message.Message.{Message}
use Rattle.sd_rpc_msg.specs.declared.message.Message.TheVariants.{Asked, Answered}
use Rattle.sd_rpc_msg.specs.Layout.{auth, call, message, accept_arm, reject_arm, reply_arm, message_arm, auth_value, call_value, outcome_value, message_value}
use Rattle.sd_tftp.proofs.Whole as files
use Rattle.sd_rarp.specs.declared.frame.RarpFrame.{RarpFrame}
use Rattle.sd_rarp.specs.declared.frame.RarpError.{RarpError}
use Rattle.sd_rarp.specs.Frame.{reading}
use Rattle.sd_rarp.proofs.Spelling as frames
use Rattle.sd_text.specs.Texts.{Text}
use Rattle.sd_text.proofs.Deciding as ways
use Rattle.sd_text.proofs.Deciding.{Settled}
use Rattle.sd_show.specs.declared.error.ShowError.{ShowError}
use Rattle.sd_show.specs.declared.procedures.Procedure.{Procedure}
use Rattle.sd_show.specs.declared.procedures.Known.{Known}
use Rattle.sd_show.specs.declared.procedures.Known.TheVariants as known
use Rattle.sd_show.specs.declared.calls.Heard.{Heard}
use Rattle.sd_show.specs.Programs.{numbers, IsUnknown, all_known, args_kind, results_kind}
use Rattle.sd_show.specs.Calls.{procedure_of, answered}
use Rattle.sd_show.specs.Messages.{Body, bare, read_as, no_body, AreResults, IsOutcomeBody, IsBody}
use Rattle.sd_text.specs.Grammar as texts
use Rattle.sd_show.specs.Lines.{line, carries_file, carries_message, datagram_line, frame_line}
use Rattle.sd_show.specs.Shown.{is_tftp, Shows}
use Rattle.sd_show.specs.Refused.{message_error, file_error, frame_error, AreResultsRefused, HasNoBody, HasNoText}
use Rattle.sd_show.specs.Laws.{EitherWay}
use Rattle.sd_show.proofs.Names.{NoneBefore, none_begins, none_goes_on, none_ends}
use Rattle.sd_show.proofs.Places.{moves}
use Rattle.sd_show.proofs.ReadWhole.{args_usual, results_usual}
use Rattle.sd_show.proofs.BodiesShown.{from_start}
use Rattle.sd_show.proofs.ValuesFit.{Sound}
use Rattle.sd_show.proofs.WrittenForm.{ValueFits, read_fits}

-- ---- each value of an RPC message is that of a message

joined : (x a b : Value) → x ≡ first x ⊗ second x → first x ≡ a → second x ≡ b → x ≡ a ⊗ b
joined x a b h p q = h ∙ (λ i. p i ⊗ q i)

auth_of : Value → OpaqueAuth
auth_of x = record { flavor = number_of (first x); body = bytes_of (second x) }

auth_told : (x : Value) → HasSpelling auth x → x ≡ auth_value (auth_of x)
unfolding auth_of
auth_told x h = joined x (number (number_of (first x))) (bytes (bytes_of (second x))) h.0 h.1.0 h.2.0

abbrev IsCallOf : ℕ → Value → Type 0
IsCallOf xid x = (c : Call) × (c.xid ≡ xid) × (x ≡ call_value c)

call_told : (xid : ℕ) (x : Value) → HasSpelling (call xid) x → IsCallOf xid x
call_told xid x h =
    let b = h.2 in
    let c = b.2 in
    let d = c.2 in
    let e = d.2 in
    let f = e.2 in
    let x2 = second x in
    let x3 = second x2 in
    let x4 = second x3 in
    let x5 = second x4 in
    let x6 = second x5 in
    let args = bytes_of (second x6) in
    let cred = auth_of (first x5) in
    let verf = auth_of (first x6) in
    let p6 : x6 ≡ auth_value verf ⊗ bytes args = joined x6 (auth_value verf) (bytes args) f.0 (auth_told (first x6) f.1) f.2 in
    let p5 : x5 ≡ auth_value cred ⊗ auth_value verf ⊗ bytes args = joined x5 (auth_value cred) (auth_value verf ⊗ bytes args) e.0 (auth_told (first x5) e.1) p6 in
    let p4 : x4 ≡ number (number_of (first x4)) ⊗ auth_value cred ⊗ auth_value verf ⊗ bytes args = joined x4 (number (number_of (first x4))) (auth_value cred ⊗ auth_value verf ⊗ bytes args) d.0 d.1.0 p5 in
    let p3 : x3 ≡ number (number_of (first x3)) ⊗ number (number_of (first x4)) ⊗ auth_value cred ⊗ auth_value verf ⊗ bytes args =
    joined x3 (number (number_of (first x3))) (number (number_of (first x4)) ⊗ auth_value cred ⊗ auth_value verf ⊗ bytes args) c.0 c.1.0 p4 in
    let p2 : x2 ≡ number (number_of (first x2)) ⊗ number (number_of (first x3)) ⊗ number (number_of (first x4)) ⊗ auth_value cred ⊗ auth_value verf ⊗ bytes args =
    joined x2 (number (number_of (first x2))) (number (number_of (first x3)) ⊗ number (number_of (first x4)) ⊗ auth_value cred ⊗ auth_value verf ⊗ bytes args) b.0 b.1.0 p3 in (
      record { xid = xid; prog = number_of (first x2); vers = number_of (first x3); proc_no = number_of (first x4); cred = cred; verf = verf; args = args },
      refl,
      joined x (number 2) (number (number_of (first x2)) ⊗ number (number_of (first x3)) ⊗ number (number_of (first x4)) ⊗ auth_value cred ⊗ auth_value verf ⊗ bytes args) h.0 (h.1.0 ∙ ap number (eqb-true (number_of (first x)) 2 h.1.2)) p2,
    )

within : (n most : ℕ) → (nat_le 0 n && nat_le n most) ≡ true → n ≤ most
within n most h = grind arith

-- what stands behind a verifier and an accept_stat
stat_told : (v : OpaqueAuth) (n : ℕ) (y : Value) → n ≤ 4 → HasSpelling (accept_arm n) y → (o : Outcome) × (number 0 ⊗ auth_value v ⊗ number n ⊗ y ≡ outcome_value o)
stat_told v zero y le h = (Success v (bytes_of y), ap (λ (u : Value). number 0 ⊗ auth_value v ⊗ number 0 ⊗ u) h)
stat_told v (suc zero) y le h = (ProgUnavail v, ap (λ (u : Value). number 0 ⊗ auth_value v ⊗ number 1 ⊗ u) h)
stat_told v (suc (suc zero)) y le h = (
  ProgMismatch v (number_of (first y)) (number_of (second y)),
  ap (λ (u : Value). number 0 ⊗ auth_value v ⊗ number 2 ⊗ u) (joined y (number (number_of (first y))) (number (number_of (second y))) h.0 h.1.0 h.2.0),
)
stat_told v (suc (suc (suc zero))) y le h = (ProcUnavail v, ap (λ (u : Value). number 0 ⊗ auth_value v ⊗ number 3 ⊗ u) h)
stat_told v (suc (suc (suc (suc zero)))) y le h = (GarbageArgs v, ap (λ (u : Value). number 0 ⊗ auth_value v ⊗ number 4 ⊗ u) h)
stat_told v (suc (suc (suc (suc (suc n))))) y le h = absurd (omega (arith, le))

-- what stands behind a reject_stat
reject_told : (n : ℕ) (y : Value) → n ≤ 1 → HasSpelling (reject_arm n) y → (o : Outcome) × (number 1 ⊗ number n ⊗ y ≡ outcome_value o)
reject_told zero y le h = (
  RpcMismatch (number_of (first y)) (number_of (second y)),
  ap (λ (u : Value). number 1 ⊗ number 0 ⊗ u) (joined y (number (number_of (first y))) (number (number_of (second y))) h.0 h.1.0 h.2.0),
)
reject_told (suc zero) y le h = (AuthError (number_of y), ap (λ (u : Value). number 1 ⊗ number 1 ⊗ u) h.0)
reject_told (suc (suc n)) y le h = absurd (omega (arith, le))

-- what stands behind a reply_stat
outcome_told : (n : ℕ) (y : Value) → n ≤ 1 → HasSpelling (reply_arm n) y → (o : Outcome) × (number n ⊗ y ≡ outcome_value o)
outcome_told zero y le h =
    let z = second y in
    let u = h.2 in
    let s = stat_told (auth_of (first y)) (number_of (first z)) (second z) (within (number_of (first z)) 4 u.1.2) u.2 in
    let stat : z ≡ number (number_of (first z)) ⊗ second z = joined z (number (number_of (first z))) (second z) u.0 u.1.0 refl in
    let all : y ≡ auth_value (auth_of (first y)) ⊗ number (number_of (first z)) ⊗ second z = joined y (auth_value (auth_of (first y))) (number (number_of (first z)) ⊗ second z) h.0 (auth_told (first y) h.1) stat in
    (s.0, ap (λ (t : Value). number 0 ⊗ t) all ∙ s.1)
outcome_told (suc zero) y le h =
    let s = reject_told (number_of (first y)) (second y) (within (number_of (first y)) 1 h.1.2) h.2 in
    (s.0, ap (λ (t : Value). number 1 ⊗ t) (joined y (number (number_of (first y))) (second y) h.0 h.1.0 refl) ∙ s.1)
outcome_told (suc (suc n)) y le h = absurd (omega (arith, le))

-- what stands behind a msg_type
arm_told : (xid n : ℕ) (y : Value) → n ≤ 1 → HasSpelling (message_arm xid n) y → (m : Message) × (number xid ⊗ number n ⊗ y ≡ message_value m)
arm_told xid zero y le h =
    let c = call_told xid y h in
    (Asked c.0, ap (λ (u : Value). number xid ⊗ number 0 ⊗ u) c.2 ∙ ap (λ (k : ℕ). number k ⊗ number 0 ⊗ call_value c.0) (sym c.1))
arm_told xid (suc zero) y le h =
    let o = outcome_told (number_of (first y)) (second y) (within (number_of (first y)) 1 h.1.2) h.2 in
    (Answered record { xid = xid; outcome = o.0 }, ap (λ (u : Value). number xid ⊗ number 1 ⊗ u) (joined y (number (number_of (first y))) (second y) h.0 h.1.0 refl ∙ o.1))
arm_told xid (suc (suc n)) y le h = absurd (omega (arith, le))

message_told : (x : Value) → HasSpelling message x → (m : Message) × (x ≡ message_value m)
message_told x h =
    let y = second x in
    let u = h.2 in
    let m = arm_told (number_of (first x)) (number_of (first y)) (second y) (within (number_of (first y)) 1 u.1.2) u.2 in
    let kind : y ≡ number (number_of (first y)) ⊗ second y = joined y (number (number_of (first y))) (second y) u.0 u.1.0 refl in
    (m.0, joined x (number (number_of (first x))) (number (number_of (first y)) ⊗ second y) h.0 h.1.0 kind ∙ m.1)

-- ---- procedures that are known by name

same_numbers : (p q : Procedure) → Settled (p ≡ q)
same_numbers p q = elim (cases_eq p.prog q.prog) [
  | inl a ↦ elim (cases_eq p.vers q.vers) [
    | inl b ↦ elim (cases_eq p.proc_no q.proc_no) [
      | inl c ↦ inl (λ i. record { prog = a i; vers = b i; proc_no = c i })
      | inr c ↦ inr (λ e. c (ap (λ (r : Procedure). r.proc_no) e))
    ]
    | inr b ↦ inr (λ e. b (ap (λ (r : Procedure). r.vers) e))
  ]
  | inr a ↦ inr (λ e. a (ap (λ (r : Procedure). r.prog) e))
]

search_known : (P : Known → Type 0) → ((k : Known) → Settled (P k)) → (left at : ℕ) → length all_known ≤ at + left → NoneBefore P all_known at → ways.Way P
search_known P each zero at le before = inr (none_ends P all_known at refl (omega (arith, le)) before)
search_known P each (suc left) at le before = elim (each (get_or all_known at known.PmapNull)) [
  | inl is ↦ inl (get_or all_known at known.PmapNull, is)
  | inr other ↦ search_known P each left (at + 1) (omega (arith, le)) (none_goes_on P all_known at before other)
]

-- one of the procedures has this property, or none
pub one_of_known : (P : Known → Type 0) → ((k : Known) → Settled (P k)) → ways.Way P
one_of_known P each = search_known P each (length all_known) 0 (omega arith) (none_begins P all_known)

pub known_way : (p : Procedure) → ways.Way (λ (k : Known). numbers k ≡ p)
known_way p = one_of_known (λ (k : Known). numbers k ≡ p) (λ k. same_numbers (numbers k) p)

-- ---- bodies

-- a body of these arguments or results, or why there is none
abbrev Way : Procedure → (Known → Kind whole) → List ℕ → Type 0
Way p kind bs = ((k : Known) × (x : Value) × (numbers k ≡ p) × Reads whole (kind k) bs x)
    ⊎ (((k : Known) × (r : MsgError) × (numbers k ≡ p) × Refuses whole (kind k) 0 bs r) ⊎ IsUnknown p)

way_of : (p : Procedure) (kind : Known → Kind whole) (bs : List ℕ) → IsBytes bs → Way p kind bs
way_of p kind bs fits = elim (known_way p) [
  | inl k ↦ elim (xdr.either_way (kind k.0) bs fits) [
    | inl x ↦ inl (k.0, x.0, k.1, x.1)
    | inr r ↦ inr (inl (k.0, r.0, k.1, r.1))
  ]
  | inr unknown ↦ inr (inr unknown)
]

-- a datagram that is this message, which isn't one of TFTP
record Holds (src dst : Addr) (content : List ℕ) (m : Message) : Type 0 where
  other : IsFalse (is_tftp src dst)
  reads : Reads whole message content (message_value m)

abbrev BodyWay : List Heard → Addr → Addr → List ℕ → Message → Type 0
BodyWay seen src dst content m = ((b : Body) × IsBody seen src dst m b) ⊎ ((e : ShowError) × HasNoBody seen src dst content e)

call_way : (seen : List Heard) (src dst : Addr) (content : List ℕ) (c : Call) → Holds src dst content (Asked c) → IsBytes c.args → BodyWay seen src dst content (Asked c)
call_way seen src dst content c h fits = elim (way_of (procedure_of c) args_kind c.args fits) [
  | inl x ↦ inl (read_as x.0 x.1, (x.2, x.3))
  | inr none ↦ elim none [
    | inl r ↦
        let by = length content - length c.args in
        let m = moves by (args_usual r.0) r.3 in
        inr (message_error m.s, record { m = Asked c; r = m.s; other = h.other; reads = h.reads; refuses = (r.0, r.2, from_start (args_kind r.0) by c.args m.s m.refuses); means = refl })
    | inr unknown ↦ inl (bare c.args, (refl, unknown))
  ]
]

abbrev ResultsWay : ℕ → Option Procedure → OpaqueAuth → List ℕ → Type 0
ResultsWay len asked verf bs = ((b : Body) × AreResults asked bs b) ⊎ ((r : MsgError) × AreResultsRefused len asked (Success verf bs) r)

results_way : (len : ℕ) (asked : Option Procedure) (verf : OpaqueAuth) (bs : List ℕ) → IsBytes bs → ResultsWay len asked verf bs
results_way len None verf bs fits = inl (bare bs, refl)
results_way len (Some p) verf bs fits = elim (way_of p results_kind bs fits) [
  | inl x ↦ inl (read_as x.0 x.1, (x.2, x.3))
  | inr none ↦ elim none [
    | inl r ↦
        let by = len - length bs in
        let m = moves by (results_usual r.0) r.3 in
        inr (m.s, (r.0, ap Some (sym r.2), from_start (results_kind r.0) by bs m.s m.refuses))
    | inr unknown ↦ inl (bare bs, (refl, unknown))
  ]
]

-- the bytes of the results are bytes
abbrev ResultsFit : Outcome → Type 0
ResultsFit (Success verf bs) = IsBytes bs
ResultsFit (ProgUnavail verf) = Unit {0}
ResultsFit (ProgMismatch verf low high) = Unit {0}
ResultsFit (ProcUnavail verf) = Unit {0}
ResultsFit (GarbageArgs verf) = Unit {0}
ResultsFit (RpcMismatch low high) = Unit {0}
ResultsFit (AuthError stat) = Unit {0}

outcome_way : (len : ℕ) (asked : Option Procedure) (o : Outcome) → ResultsFit o → ((b : Body) × IsOutcomeBody asked o b) ⊎ ((r : MsgError) × AreResultsRefused len asked o r)
outcome_way len asked (Success verf bs) fits = results_way len asked verf bs fits
outcome_way len asked (ProgUnavail verf) fits = inl (no_body, refl)
outcome_way len asked (ProgMismatch verf low high) fits = inl (no_body, refl)
outcome_way len asked (ProcUnavail verf) fits = inl (no_body, refl)
outcome_way len asked (GarbageArgs verf) fits = inl (no_body, refl)
outcome_way len asked (RpcMismatch low high) fits = inl (no_body, refl)
outcome_way len asked (AuthError stat) fits = inl (no_body, refl)

reply_way : (seen : List Heard) (src dst : Addr) (content : List ℕ) (a : Reply) → Holds src dst content (Answered a) → ResultsFit a.outcome → BodyWay seen src dst content (Answered a)
reply_way seen src dst content a h fits = elim (outcome_way (length content) (answered a.xid src dst seen) a.outcome fits) [
  | inl b ↦ inl b
  | inr r ↦ inr (message_error r.0, record { m = Answered a; r = r.0; other = h.other; reads = h.reads; refuses = r.1; means = refl })
]

results_fit : (o : Outcome) → ValueFits (outcome_value o) → ResultsFit o
results_fit (Success verf bs) h = h.1.1.1.0
results_fit (ProgUnavail verf) h = tt
results_fit (ProgMismatch verf low high) h = tt
results_fit (ProcUnavail verf) h = tt
results_fit (GarbageArgs verf) h = tt
results_fit (RpcMismatch low high) h = tt
results_fit (AuthError stat) h = tt

body_way : (seen : List Heard) (src dst : Addr) (content : List ℕ) (m : Message) → Holds src dst content m → ValueFits (message_value m) → BodyWay seen src dst content m
body_way seen src dst content (Asked c) h fits = call_way seen src dst content c h (fits.1.1.1.1.1.1.1.1.0)
body_way seen src dst content (Answered r) h fits = reply_way seen src dst content r h (results_fit r.outcome fits.1.1)

-- ---- packets

abbrev IsEitherWay : List Heard → Packet → Type 0
IsEitherWay seen packet = ((text : Text) × Shows seen packet text) ⊎ ((e : ShowError) × HasNoText seen packet e)

file_way : (seen : List Heard) (src dst : Addr) (content : List ℕ) → IsTrue (is_tftp src dst) → IsBytes content → IsEitherWay seen (Udp src dst content)
file_way seen src dst content port fits = elim (files.either_way content fits) [
  | inl p ↦ inl (texts.writes line (datagram_line src dst (carries_file p.0)), inl record { p = p.0; port = port; spells = p.1; means = refl })
  | inr r ↦ inr (file_error r.0, inl record { r = r.0; port = port; refuses = r.1; means = refl })
]

message_way : (seen : List Heard) (src dst : Addr) (content : List ℕ) → IsFalse (is_tftp src dst) → Sound content → IsEitherWay seen (Udp src dst content)
message_way seen src dst content other sound = elim (xdr.either_way message content sound.bytes_are) [
  | inl x ↦
      let m = message_told x.0 (read_has_spelling whole message content x.0 x.1) in
      let reads : Reads whole message content (message_value m.0) = subst (λ (v : Value). Reads whole message content v) m.1 x.1 in
      elim (body_way seen src dst content m.0 record { other = other; reads = reads } (read_fits message content (message_value m.0) reads sound)) [
        | inl b ↦ inl (texts.writes line (datagram_line src dst (carries_message m.0 b.0)), inr record { m = m.0; b = b.0; other = other; reads = reads; body = b.1; means = refl })
        | inr e ↦ inr (e.0, inr (inr e.1))
      ]
  | inr r ↦ inr (message_error r.0, inr (inl record { r = r.0; other = other; refuses = r.1; means = refl }))
]

frame_way : (seen : List Heard) (content : List ℕ) (r : Result RarpFrame RarpError) → r ≡ reading content → IsBytes content → IsEitherWay seen (Frame content)
frame_way seen content (Ok f) e fits = inl (texts.writes line (frame_line f), (f, frames.found content fits f (sym e), refl))
frame_way seen content (Err r) e fits = inr (frame_error r, (r, sym e, refl))

pub either_way : EitherWay
either_way seen (Udp src dst content) fits = elim (cases_Bool (is_tftp src dst)) [
  | inl port ↦ file_way seen src dst content port fits.2
  | inr other ↦ message_way seen src dst content other record { bytes_are = fits.2; short = fits.3 }
]
either_way seen (Frame content) fits = frame_way seen content (reading content) refl fits.0
