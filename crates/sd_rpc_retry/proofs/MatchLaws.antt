-- What a packet tells a caller, by the grammars and by reading.
use Rattle.std.proofs.Common.{◌≡◌, ℕ, zero, suc, ◌+◌, ◌*◌, ◌/◌, ◌%◌, ◌^◌, ◌<◌, ◌≤◌, true, ◌&&◌, leb, List, Option, Some, Ok, Err, refl, sym, ap, subst, ◌∙◌, arith}
use Rattle.sd_xdr.specs.Kind.{whole, Kind, Value, number, ◌⊗◌, number_of, bytes_of, first, second, between, char, written, ended}
use Rattle.sd_xdr.specs.Grammar.{HasSpelling, WordSpelled}
use Rattle.sd_rpc_msg.specs.declared.message.OpaqueAuth.{OpaqueAuth}
use Rattle.sd_rpc_msg.specs.declared.message.Outcome.{Outcome}
use Rattle.sd_rpc_msg.specs.declared.message.Outcome.TheVariants.{Success, ProgUnavail, ProgMismatch, ProcUnavail, GarbageArgs, RpcMismatch, AuthError}
use Rattle.sd_rpc_msg.specs.Layout.{reply, reply_arm, accept_arm, reject_arm, mismatch, auth, auth_value, outcome_value}
use Rattle.sd_portmap.specs.Layout as portmap
use Rattle.sd_portmap.specs.declared.message.PmapResult.TheVariants as pmap
use Rattle.sd_bootparams.specs.Layout as bootparams
use Rattle.sd_bootparams.specs.Layout.{ip, ip_value}
use Rattle.sd_bootparams.specs.declared.message.BpResult.TheVariants as bp
use Rattle.sd_services.specs.RpcReply.{address_in}

-- ---- what is spelled has the form of a value of its kind

pub port_shape : (v : Value) → HasSpelling (portmap.result_kind 3) v → v ≡ portmap.result_value (pmap.Port (number_of (second v)))
port_shape v h = h.0 ∙ ap (λ (x : Value). number 2 ⊗ x) h.1.0

pub relayed_shape : (v : Value) → HasSpelling (portmap.result_kind 5) v → v ≡ portmap.result_value (pmap.Callit (number_of (first (second v))) (bytes_of (second (second v))))
relayed_shape v h = h.0 ∙ ap (λ (x : Value). number 4 ⊗ x) (h.1.0 ∙ (λ i. h.1.1.0 i ⊗ h.1.2.0 i))

char_small : (x : Value) → WordSpelled char x → number_of x < 256
char_small x h = let e : number_of x ≡ written char (number_of x) % 256 = ap number_of h.0 in omega (arith, e)

char_is : (x : Value) → WordSpelled char x → x ≡ number (number_of x)
char_is x h = h.0 ∙ ap number (sym (ap number_of h.0))

one_is : (x : Value) → WordSpelled (between 1 1) x → x ≡ number 1
one_is x h = h.0 ∙ ap number (of (number_of x) h.2)
  where
    of : (n : ℕ) → (leb 1 n && leb n 1) ≡ true → n ≡ 1
    of n h = grind arith

bytes_of_four : (a b c d : ℕ) → a < 256 → b < 256 → c < 256 → d < 256 → (n : ℕ) → n ≡ ((a * 256 + b) * 256 + c) * 256 + d
    → (n / 2 ^ 24 ≡ a) × (n / 2 ^ 16 % 256 ≡ b) × (n / 2 ^ 8 % 256 ≡ c) × (n % 256 ≡ d)
bytes_of_four a b c d fa fb fc fd n is = (omega (arith, fa, fb, fc, fd, is), omega (arith, fa, fb, fc, fd, is), omega (arith, fa, fb, fc, fd, is), omega (arith, fa, fb, fc, fd, is))

pub ip_shape : (v : Value) → HasSpelling ip v → v ≡ ip_value (address_in v)
ip_shape v h =
    let net = second v in
    let host = second net in
    let lh = second host in
    let impno = second lh in
    let hn = h.2 in
    let hh = hn.2 in
    let hl = hh.2 in
    let b = bytes_of_four (number_of (first net)) (number_of (first host)) (number_of (first lh)) (number_of impno)
    (char_small (first net) hn.1) (char_small (first host) hh.1) (char_small (first lh) hl.1) (char_small impno hl.2) (address_in v) refl in
    h.0 ∙ (λ i. one_is (first v) h.1 i ⊗
    (hn.0 ∙ (λ j. (char_is (first net) hn.1 ∙ ap number (sym b.0)) j ⊗
    (hh.0 ∙ (λ k. (char_is (first host) hh.1 ∙ ap number (sym b.1)) k ⊗
    (hl.0 ∙ (λ l. (char_is (first lh) hl.1 ∙ ap number (sym b.2)) l ⊗ (char_is impno hl.2 ∙ ap number (sym b.3)) l)) k)) j)) i)

pub whoami_shape : (v : Value) → HasSpelling (bootparams.result_kind 1) v
    → v ≡ bootparams.result_value (bp.Whoami (bytes_of (first (second v))) (bytes_of (first (second (second v)))) (address_in (second (second (second v)))))
whoami_shape v h =
    let r = h.1 in
    h.0 ∙ ap (λ (x : Value). number 1 ⊗ x) (r.0 ∙ (λ i. r.1.0 i ⊗ (r.2.0 ∙ (λ j. r.2.1.0 j ⊗ ip_shape (second (second (second v))) r.2.2 j)) i))

pub getfile_shape : (v : Value) → HasSpelling (bootparams.result_kind 2) v
    → v ≡ bootparams.result_value (bp.Getfile (bytes_of (first (second v))) (address_in (first (second (second v)))) (bytes_of (second (second (second v)))))
getfile_shape v h =
    let r = h.1 in
    h.0 ∙ ap (λ (x : Value). number 2 ⊗ x) (r.0 ∙ (λ i. r.1.0 i ⊗ (r.2.0 ∙ (λ j. ip_shape (first (second (second v))) r.2.1 j ⊗ r.2.2.0 j)) i))

-- ---- replies

pub record OutcomeOf (v : Value) : Type 0 where
  pub outcome : Outcome
  pub is : v ≡ outcome_value outcome

auth_of : Value → OpaqueAuth
auth_of v = record { flavor = number_of (first v); body = bytes_of (second v) }

auth_shape : (v : Value) → HasSpelling auth v → v ≡ auth_value (auth_of v)
unfolding auth_of
auth_shape v h = h.0 ∙ (λ i. h.1.0 i ⊗ h.2.0 i)

mismatch_shape : (v : Value) → HasSpelling (ended mismatch) v → v ≡ number (number_of (first v)) ⊗ number (number_of (second v))
mismatch_shape v h = h.0 ∙ (λ i. h.1.0 i ⊗ h.2.0 i)

at_most : (n most : ℕ) → (leb 0 n && leb n most) ≡ true → n ≤ most
at_most n most h = grind arith

-- by accept_stat
accepted_outcome : (verf body : Value) (stat : ℕ) → stat ≤ 4 → HasSpelling auth verf → HasSpelling (accept_arm stat) body → OutcomeOf (number 0 ⊗ verf ⊗ number stat ⊗ body)
accepted_outcome verf body zero few a h = record { outcome = Success (auth_of verf) (bytes_of body); is = λ i. number 0 ⊗ auth_shape verf a i ⊗ number 0 ⊗ h i }
accepted_outcome verf body (suc zero) few a h = record { outcome = ProgUnavail (auth_of verf); is = λ i. number 0 ⊗ auth_shape verf a i ⊗ number 1 ⊗ h i }
accepted_outcome verf body (suc (suc zero)) few a h = record { outcome = ProgMismatch (auth_of verf) (number_of (first body)) (number_of (second body)); is = λ i. number 0 ⊗ auth_shape verf a i ⊗ number 2 ⊗ mismatch_shape body h i }
accepted_outcome verf body (suc (suc (suc zero))) few a h = record { outcome = ProcUnavail (auth_of verf); is = λ i. number 0 ⊗ auth_shape verf a i ⊗ number 3 ⊗ h i }
accepted_outcome verf body (suc (suc (suc (suc zero)))) few a h = record { outcome = GarbageArgs (auth_of verf); is = λ i. number 0 ⊗ auth_shape verf a i ⊗ number 4 ⊗ h i }
accepted_outcome verf body (suc (suc (suc (suc (suc n))))) few a h = absurd (omega (arith, few))

-- by reject_stat
rejected_outcome : (body : Value) (stat : ℕ) → stat ≤ 1 → HasSpelling (reject_arm stat) body → OutcomeOf (number 1 ⊗ number stat ⊗ body)
rejected_outcome body zero few h = record { outcome = RpcMismatch (number_of (first body)) (number_of (second body)); is = λ i. number 1 ⊗ number 0 ⊗ mismatch_shape body h i }
rejected_outcome body (suc zero) few h = record { outcome = AuthError (number_of body); is = λ i. number 1 ⊗ number 1 ⊗ h.0 i }
rejected_outcome body (suc (suc n)) few h = absurd (omega (arith, few))

-- by reply_stat
by_stat : (body : Value) (stat : ℕ) → stat ≤ 1 → HasSpelling (reply_arm stat) body → OutcomeOf (number stat ⊗ body)
by_stat body zero few h =
    let u = second body in
    let o = accepted_outcome (first body) (second u) (number_of (first u)) (at_most (number_of (first u)) 4 h.2.1.2) h.1 h.2.2 in
    record { outcome = o.outcome; is = (λ i. number 0 ⊗ (h.0 ∙ (λ j. first body ⊗ (h.2.0 ∙ (λ k. h.2.1.0 k ⊗ second u)) j)) i) ∙ o.is }
by_stat body (suc zero) few h =
    let o = rejected_outcome (second body) (number_of (first body)) (at_most (number_of (first body)) 1 h.1.2) h.2 in
    record { outcome = o.outcome; is = (λ i. number 1 ⊗ (h.0 ∙ (λ j. h.1.0 j ⊗ second body)) i) ∙ o.is }
by_stat body (suc (suc n)) few h = absurd (omega (arith, few))

pub outcome_of : (v : Value) → HasSpelling reply v → OutcomeOf v
outcome_of v h =
    let o = by_stat (second v) (number_of (first v)) (at_most (number_of (first v)) 1 h.1.2) h.2 in
    record { outcome = o.outcome; is = h.0 ∙ (λ i. h.1.0 i ⊗ second v) ∙ o.is }
