-- Messages are told apart by what they say, and are read again.
use Rattle.std.proofs.Common.{rules, ◌≡◌, ℕ, Bool, true, false, cond, List, ◌≤◌, eqb, leb, ◌&&◌, refl, sym, ap, subst, ◌∙◌, arith}
use Rattle.std.proofs.lemmas.Bool.{le-leb}
use Rattle.sd_xdr.specs.Kind.{whole, number, ◌⊗◌, Kind}
use Rattle.sd_xdr.specs.Grammar.{HasSpelling, IsPlain, Reads, writes}
use Rattle.sd_xdr.proofs.Whole.{one_value}
use Rattle.sd_xdr.proofs.Writes.{written_is_read, one_spelling, read_has_spelling}
use Rattle.sd_rpc_msg.specs.declared.message.OpaqueAuth.{OpaqueAuth}
use Rattle.sd_rpc_msg.specs.declared.message.Call.{Call}
use Rattle.sd_rpc_msg.specs.declared.message.Outcome.{Outcome}
use Rattle.sd_rpc_msg.specs.declared.message.Outcome.TheVariants.{Success, ProgUnavail, ProgMismatch, ProcUnavail, GarbageArgs, RpcMismatch, AuthError}
use Rattle.sd_rpc_msg.specs.declared.message.Reply.{Reply}
use Rattle.sd_rpc_msg.specs.declared.message.Message.{Message}
use Rattle.sd_rpc_msg.specs.declared.message.Message.TheVariants.{Asked, Answered}
use Rattle.sd_rpc_msg.specs.Layout.{auth, accept_arm, reject_arm, reply_arm, reply, message_arm, message, auth_value, call_value, outcome_value, message_value}
use Rattle.sd_rpc_msg.specs.Laws.{IsAuth, IsOutcome, IsMessage, WrittenIsRead, OneSpelling, ToldApart}

auth_spelled : (a : OpaqueAuth) → IsAuth a → HasSpelling auth (auth_value a)
auth_spelled a h = (refl, (refl, h.0, refl), (refl, h.1))

outcome_spelled : (o : Outcome) → IsOutcome o → HasSpelling reply (outcome_value o)
outcome_spelled (Success verf results) h = search rules
outcome_spelled (ProgUnavail verf) h = search rules
outcome_spelled (ProgMismatch verf low high) h = search rules
outcome_spelled (ProcUnavail verf) h = search rules
outcome_spelled (GarbageArgs verf) h = search rules
outcome_spelled (RpcMismatch low high) h = search rules
outcome_spelled (AuthError stat) h =
    let may : (leb 1 stat && leb stat 5) ≡ true = both (leb 1 stat) (leb stat 5) (le-leb 1 stat h.0) (le-leb stat 5 h.1) in
    (refl, (refl, omega arith, refl), (refl, (refl, omega arith, refl), (refl, omega (arith, h.1), may)))
  where
    both : (a b : Bool) → a ≡ true → b ≡ true → (a && b) ≡ true
    both true b p q = q
    both false b p q = absurd cc

told_auth : (a b : OpaqueAuth) → auth_value a ≡ auth_value b → a ≡ b
told_auth a b h = ap (λ (n : ℕ). record { flavor = n; body = a.body }) flavors ∙ ap (λ (bs : List ℕ). record { flavor = b.flavor; body = bs }) bodies
  where
    flavors : a.flavor ≡ b.flavor
    flavors = cc

    bodies : a.body ≡ b.body
    bodies = cc

told_outcome : (a b : Outcome) → outcome_value a ≡ outcome_value b → a ≡ b
told_outcome (Success verf results) (Success verf' results') h = let v = told_auth verf verf' cc in cc
told_outcome (ProgUnavail verf) (ProgUnavail verf') h = let v = told_auth verf verf' cc in cc
told_outcome (ProgMismatch verf low high) (ProgMismatch verf' low' high') h = let v = told_auth verf verf' cc in cc
told_outcome (ProcUnavail verf) (ProcUnavail verf') h = let v = told_auth verf verf' cc in cc
told_outcome (GarbageArgs verf) (GarbageArgs verf') h = let v = told_auth verf verf' cc in cc
told_outcome (RpcMismatch low high) (RpcMismatch low' high') h = cc
told_outcome (AuthError stat) (AuthError stat') h = cc
told_outcome a b h = absurd cc

abbrev made_call : ℕ → ℕ → ℕ → ℕ → OpaqueAuth → OpaqueAuth → List ℕ → Call
made_call xid prog vers proc_no cred verf args = record { xid = xid; prog = prog; vers = vers; proc_no = proc_no; cred = cred; verf = verf; args = args }

told_call : (f : ℕ → ℕ → ℕ → ℕ → OpaqueAuth → OpaqueAuth → List ℕ → Call) (c d : Call) → number c.xid ⊗ call_value c ≡ number d.xid ⊗ call_value d → f c.xid c.prog c.vers c.proc_no c.cred c.verf c.args ≡ f d.xid d.prog d.vers d.proc_no d.cred d.verf d.args
told_call f c d h = let u = told_auth c.cred d.cred cc in let v = told_auth c.verf d.verf cc in cc

told_reply : (f : ℕ → Outcome → Reply) (r s : Reply) → number r.xid ⊗ outcome_value r.outcome ≡ number s.xid ⊗ outcome_value s.outcome → f r.xid r.outcome ≡ f s.xid s.outcome
told_reply f r s h = let o = told_outcome r.outcome s.outcome cc in cc

pub told_apart : ToldApart
told_apart (Asked c) (Asked d) h = ap Asked (told_call made_call c d cc)
told_apart (Answered r) (Answered s) h = ap Answered (told_reply (λ xid outcome. record { xid = xid; outcome = outcome }) r s cc)
told_apart m n h = absurd cc

message_spelled : (m : Message) → IsMessage m → HasSpelling message (message_value m)
message_spelled (Asked c) h = search rules
message_spelled (Answered r) h =
    let o = outcome_spelled r.outcome h.1 in
    (refl, (refl, h.0, refl), (refl, (refl, omega arith, refl), o))

pub written_is_read_again : WrittenIsRead
written_is_read_again m n h =
    let spelled : Reads whole message (writes message (message_value m)) (message_value m) = written_is_read whole message (message_value m) (message_spelled m h) in (
      λ read. told_apart n m (one_value message (writes message (message_value m)) (message_value n) (message_value m) read spelled),
      λ same. subst (λ (k : Message). Reads whole message (writes message (message_value m)) (message_value k)) (sym same) spelled,
    )

-- ---- no char stands in a message

plain_if : (b : Bool) (A B : Kind whole) → IsPlain A → IsPlain B → IsPlain (cond b A B)
plain_if true A B p q = p
plain_if false A B p q = q

plain_accept : (n : ℕ) → IsPlain (accept_arm n)
plain_accept n = plain_if (eqb n 0) _ _ tt (plain_if (eqb n 2) _ _ (tt, tt) tt)

plain_reject : (n : ℕ) → IsPlain (reject_arm n)
plain_reject n = plain_if (eqb n 0) _ _ (tt, tt) tt

plain_reply : (n : ℕ) → IsPlain (reply_arm n)
plain_reply n = plain_if (eqb n 0) _ _ ((tt, tt), (tt, plain_accept)) (tt, plain_reject)

plain_message : (xid n : ℕ) → IsPlain (message_arm xid n)
plain_message xid n = plain_if (eqb n 0) _ _ (tt, (tt, (tt, (tt, ((tt, tt), ((tt, tt), tt)))))) (tt, plain_reply)

-- ---- what is read has a spelling

auth_is : (a : OpaqueAuth) → HasSpelling auth (auth_value a) → IsAuth a
auth_is a h = (h.1.1, h.2.1)

outcome_is : (o : Outcome) → HasSpelling reply (outcome_value o) → IsOutcome o
outcome_is (Success verf results) h = auth_is verf h.2.1
outcome_is (ProgUnavail verf) h = auth_is verf h.2.1
outcome_is (ProgMismatch verf low high) h = (auth_is verf h.2.1, h.2.2.2.1.1, h.2.2.2.2.1)
outcome_is (ProcUnavail verf) h = auth_is verf h.2.1
outcome_is (GarbageArgs verf) h = auth_is verf h.2.1
outcome_is (RpcMismatch low high) h = (h.2.2.1.1, h.2.2.2.1)
outcome_is (AuthError stat) h = within (h.2.2.2)
  where
    within : (leb 1 stat && leb stat 5) ≡ true → (1 ≤ stat) × (stat ≤ 5)
    within h = grind arith

message_is : (m : Message) → HasSpelling message (message_value m) → IsMessage m
message_is (Asked c) h =
    let body = h.2.2 in
    (h.1.1, body.2.1.1, body.2.2.1.1, body.2.2.2.1.1, auth_is c.cred body.2.2.2.2.1, auth_is c.verf body.2.2.2.2.2.1)
message_is (Answered r) h = (h.1.1, outcome_is r.outcome h.2.2)

pub one_spelling_of : OneSpelling
one_spelling_of m bs h = (one_spelling whole message bs (message_value m) (tt, λ xid. (tt, plain_message xid)) h, message_is m (read_has_spelling whole message bs (message_value m) h))
