-- What an RPC program replies: the xid of the call, in a message that has a spelling.
use Rattle.std.proofs.Common.{◌≡◌, ℕ, Bool, true, false, cond, List, Option, Some, None, Ok, Err, IfSome, ap, subst, arith}
use Rattle.std.specs.Prelude.{◌==◌, ◌&&◌, ◌||◌, nat_lt, not}
use Rattle.std.specs.Option.{option_map}
use Rattle.sd_xdr.specs.declared.error.MsgError.TheVariants.{Xdr, RpcVersion, AuthLong, NoMemory}
use Rattle.sd_xdr.specs.Kind.{Value}
use Rattle.sd_xdr.specs.Reading.{Read}
use Rattle.sd_rpc_msg.specs.declared.message.OpaqueAuth.{OpaqueAuth}
use Rattle.sd_rpc_msg.specs.declared.message.Call.{Call}
use Rattle.sd_rpc_msg.specs.declared.message.Outcome.{Outcome}
use Rattle.sd_rpc_msg.specs.declared.message.Outcome.TheVariants.{Success, ProgUnavail, ProgMismatch, ProcUnavail, RpcMismatch, AuthError}
use Rattle.sd_rpc_msg.specs.declared.message.Reply.{Reply}
use Rattle.sd_rpc_msg.specs.Unix.{unix}
use Rattle.sd_rpc_msg.specs.Laws.{IsWord, IsOutcome}
use Rattle.sd_xdr.specs.Kind.{ended}
use Rattle.sd_services.specs.RpcCalls.{Program, spelled, is_call, call_in, is_none, auth_null, refusal, answered, unless_refused, accepted, auth_refusal, outcome_of, reply_with, reply_to_call, reply_to_read}
use Rattle.sd_loader.specs.Fresh.{xid_asked}
use Rattle.sd_loader.proofs.Lists.{some_same}

-- ---- outcomes have a spelling

abbrev Fine : Option Outcome → Type 0
Fine o = IfSome o IsOutcome

fine_if : (b : Bool) (x y : Option Outcome) → Fine x → Fine y → Fine (cond b x y)
fine_if true x y fx fy = fx
fine_if false x y fx fy = fy

fine_unless : (x y : Option Outcome) → Fine x → Fine y → Fine (unless_refused x y)
fine_unless None y fx fy = fy
fine_unless (Some o) y fx fy = fx

auth_fine : (cred : OpaqueAuth) → Fine (auth_refusal cred)
auth_fine cred =
    fine_if (nat_lt 1 cred.flavor) (Some (AuthError 5)) (cond (cred.flavor == 1 && is_none (spelled (ended unix) cred.body)) (Some (AuthError 1)) None) (omega arith, omega arith)
    (fine_if (cred.flavor == 1 && is_none (spelled (ended unix) cred.body)) (Some (AuthError 1)) None (omega arith, omega arith) tt)

refusal_fine : (p : Program) → IsWord p.vers → (prog vers proc_no : ℕ) → Fine (refusal p prog vers proc_no)
refusal_fine p word prog vers proc_no =
    fine_if (not (prog == p.prog)) (Some (ProgUnavail auth_null)) _ (omega arith, omega arith)
    (fine_if (not (vers == p.vers)) (Some (ProgMismatch auth_null p.vers p.vers)) _ ((omega arith, omega arith), word, word)
    (fine_if (p.skips proc_no || nat_lt p.last proc_no) (Some (ProcUnavail auth_null)) None (omega arith, omega arith) tt))

answered_fine : (p : Program) (args : Option Value) → Fine (answered p args)
answered_fine p None = (omega arith, omega arith)
answered_fine p (Some v) = of (p.gives v)
  where
    of : (o : Option (List ℕ)) → Fine (option_map (Success auth_null) o)
    of None = tt
    of (Some results) = (omega arith, omega arith)

outcome_fine : (p : Program) (call : Call) → IsWord p.vers → Fine (outcome_of p call)
outcome_fine p call word =
    fine_unless (auth_refusal call.cred) (accepted p call.prog call.vers call.proc_no call.args) (auth_fine call.cred)
    (fine_unless (refusal p call.prog call.vers call.proc_no) (answered p (spelled (p.args call.proc_no) call.args))
    (refusal_fine p word call.prog call.vers call.proc_no) (answered_fine p (spelled (p.args call.proc_no) call.args)))

-- ---- a reply has the xid of what was read, and an outcome that has a spelling

pub record IsReplyTo (r : Read) (reply : Reply) : Type 0 where
  pub xid : xid_asked r ≡ Some reply.xid
  pub outcome : IsOutcome reply.outcome

by_outcome : (xid : ℕ) (o : Option Outcome) (reply : Reply) → Fine o → option_map (reply_with xid) o ≡ Some reply → (xid ≡ reply.xid) × IsOutcome reply.outcome
by_outcome xid None reply fine e = absurd cc
by_outcome xid (Some o) reply fine e =
    let same : reply_with xid o ≡ reply = some_same (reply_with xid o) reply e in
    (ap (λ (r : Reply). r.xid) same, subst (λ (r : Reply). IsOutcome r.outcome) same fine)

abbrev Both : Option ℕ → Reply → Type 0
Both xid reply = (xid ≡ Some reply.xid) × IsOutcome reply.outcome

by_call : (p : Program) → IsWord p.vers → (call : Call) (reply : Reply) (b : Bool) → cond b (reply_to_call p call) None ≡ Some reply → Both (cond b (Some call.xid) None) reply
by_call p word call reply true e =
    let both = by_outcome call.xid (outcome_of p call) reply (outcome_fine p call word) e in
    (ap (λ (n : ℕ). Some n) both.0, both.1)
by_call p word call reply false e = absurd cc

pub is_reply : (p : Program) → IsWord p.vers → (r : Read) (reply : Reply) → reply_to_read p r ≡ Some reply → IsReplyTo r reply
is_reply p word (Ok read) reply e = let both = by_call p word (call_in read.0) reply (is_call read.0) e in record { xid = both.0; outcome = both.1 }
is_reply p word (Err (RpcVersion xid got)) reply e =
    let same : reply_with xid (RpcMismatch 2 2) ≡ reply = some_same _ reply e in
    record { xid = ap (λ (r : Reply). Some r.xid) same; outcome = subst (λ (r : Reply). IsOutcome r.outcome) same (omega arith, omega arith) }
is_reply p word (Err (Xdr why)) reply e = absurd cc
is_reply p word (Err (AuthLong at len)) reply e = absurd cc
is_reply p word (Err NoMemory) reply e = absurd cc
