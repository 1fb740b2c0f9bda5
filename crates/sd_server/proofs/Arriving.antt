-- The reply of a program, and what is asked of it, by how far a datagram comes.
use Rattle.std.proofs.Common.{◌≡◌, ℕ, Bool, true, false, cond, List, Option, Some, None, Result, Ok, Err, refl, sym, ap, ◌∙◌}
use Rattle.std.specs.Option.{option_map, option_and_then}
use Rattle.sd_xdr.specs.declared.error.MsgError.TheVariants.{Xdr, RpcVersion, AuthLong, NoMemory}
use Rattle.sd_xdr.specs.Kind.{Value}
use Rattle.sd_xdr.specs.Reading.{Read, start, reading}
use Rattle.sd_rpc_msg.specs.declared.message.Call.{Call}
use Rattle.sd_rpc_msg.specs.declared.message.Outcome.{Outcome}
use Rattle.sd_rpc_msg.specs.declared.message.Reply.{Reply}
use Rattle.sd_rpc_msg.specs.Layout.{message}
use Rattle.sd_services.specs.RpcCalls.{Program, spelled, is_call, call_in, auth_refusal, refusal, reply_with, answered, unless_refused, reply_to, reply_to_read, reply_to_call, accepted, asked, spelled_call, call_read, arguments_of, if_passed}
use Rattle.sd_server.specs.declared.coming.Coming.{Coming}
use Rattle.sd_server.specs.Coming.{Arrival, Nowhere, Refused, Calls, arrival, arrives, arrives_by, arrives_read, arrives_call, replied, asked_by, comes_as}

-- the same program with other answers
abbrev pub giving : Program → (Value → Option (List ℕ)) → Program
giving p g = record p { gives = g }

module _ (p : Program) (g : Value → Option (List ℕ)) where
  past_refusal : (call : Call) (o : Option Outcome) → option_map (reply_with call.xid) (unless_refused o (answered p (spelled (p.args call.proc_no) call.args))) ≡ replied p (arrives (giving p g) call o)
  past_refusal call None = refl
  past_refusal call (Some outcome) = refl

  past_auth : (call : Call) (o : Option Outcome) → option_map (reply_with call.xid) (unless_refused o (accepted p call.prog call.vers call.proc_no call.args)) ≡ replied p (arrives_by (giving p g) call o)
  past_auth call None = past_refusal call (refusal p call.prog call.vers call.proc_no)
  past_auth call (Some outcome) = refl

  read_so : (r : Read) → reply_to_read p r ≡ replied p (arrives_read (giving p g) r)
  read_so (Ok read) = of (is_call read.0)
    where
      of : (b : Bool) → cond b (reply_to_call p (call_in read.0)) None ≡ replied p (cond b (arrives_call (giving p g) (call_in read.0)) Nowhere)
      of true = past_auth (call_in read.0) (auth_refusal (call_in read.0).cred)
      of false = refl
  read_so (Err (RpcVersion xid got)) = refl
  read_so (Err (Xdr why)) = refl
  read_so (Err (AuthLong at len)) = refl
  read_so (Err NoMemory) = refl

  pub replies : (body : List ℕ) → reply_to p body ≡ replied p (arrival (giving p g) body)
  replies body = read_so (reading message (start body))

  -- the reply by how far it comes in the code
  pub replies_as : (body : List ℕ) (come : Coming) (reply : Option Reply) → arrival (giving p g) body ≡ comes_as (giving p g) come → reply ≡ replied p (comes_as (giving p g) come) → reply ≡ reply_to p body
  replies_as body come reply comes is = is ∙ ap (replied p) (sym comes) ∙ sym (replies body)

  args_refusal : (call : Call) (o : Option Outcome) → if_passed o (spelled (p.args call.proc_no) call.args) ≡ asked_by (arrives (giving p g) call o)
  args_refusal call None = refl
  args_refusal call (Some outcome) = refl

  args_auth : (call : Call) (o : Option Outcome) → if_passed o (if_passed (refusal p call.prog call.vers call.proc_no) (spelled (p.args call.proc_no) call.args)) ≡ asked_by (arrives_by (giving p g) call o)
  args_auth call None = args_refusal call (refusal p call.prog call.vers call.proc_no)
  args_auth call (Some outcome) = refl

  asked_so : (r : Read) → option_and_then (arguments_of p) (call_read r) ≡ asked_by (arrives_read (giving p g) r)
  asked_so (Ok read) = of (is_call read.0)
    where
      of : (b : Bool) → option_and_then (arguments_of p) (cond b (Some (call_in read.0)) None) ≡ asked_by (cond b (arrives_call (giving p g) (call_in read.0)) Nowhere)
      of true = args_auth (call_in read.0) (auth_refusal (call_in read.0).cred)
      of false = refl
  asked_so (Err (RpcVersion xid got)) = refl
  asked_so (Err (Xdr why)) = refl
  asked_so (Err (AuthLong at len)) = refl
  asked_so (Err NoMemory) = refl

  pub asks : (body : List ℕ) → asked p body ≡ asked_by (arrival (giving p g) body)
  asks body = asked_so (reading message (start body))
