-- A call that comes to a program, and how a server refuses or answers it (RFC 1057, section 8).
use Rattle.std.specs.Prelude.{ℕ, Bool, true, false, ◌&&◌, ◌||◌, ◌==◌, nat_lt, not, if◌then◌else◌, List, [], Option, Some, None, Ok, Err}
use Rattle.std.specs.Option.{option_map, option_and_then}
use Rattle.sd_xdr.specs.declared.error.MsgError.TheVariants.{Xdr, RpcVersion, AuthLong, NoMemory}
use Rattle.sd_xdr.specs.Kind.{whole, Kind, ended, Value, number_of, bytes_of, first, second}
use Rattle.sd_xdr.specs.Reading.{Read, start, reading}
use Rattle.sd_rpc_msg.specs.declared.message.OpaqueAuth.{OpaqueAuth}
use Rattle.sd_rpc_msg.specs.declared.message.Call.{Call}
use Rattle.sd_rpc_msg.specs.declared.message.Outcome.{Outcome}
use Rattle.sd_rpc_msg.specs.declared.message.Outcome.TheVariants.{Success, ProgUnavail, ProgMismatch, ProcUnavail, GarbageArgs, RpcMismatch, AuthError}
use Rattle.sd_rpc_msg.specs.declared.message.Reply.{Reply}
use Rattle.sd_rpc_msg.specs.Layout.{message}
use Rattle.sd_rpc_msg.specs.Unix.{unix}

-- ---- what bytes spell

-- what was read
abbrev pub value_read : Read → Option Value
value_read (Ok read) = Some read.0
value_read (Err why) = None

-- the value of a kind that the bytes, all of them, spell, if they spell one
abbrev pub spelled : Kind whole → List ℕ → Option Value
spelled K bs = value_read (reading K (start bs))

-- opaque_auth: flavor, body
abbrev pub auth_in : Value → OpaqueAuth
auth_in v = record { flavor = number_of (first v); body = bytes_of (second v) }

-- rpc_msg: xid, msg_type, which is 0 for a CALL
abbrev pub is_call : Value → Bool
is_call v = number_of (first (second v)) == 0

-- and then call_body: rpcvers, prog, vers, proc, cred, verf; the arguments are what follows
abbrev pub call_in : Value → Call
call_in v =
    let prog = second (second (second v)) in
    let vers = second prog in
    let proc_no = second vers in
    let cred = second proc_no in
    let verf = second cred in
    record {
      xid = number_of (first v);
      prog = number_of (first prog);
      vers = number_of (first vers);
      proc_no = number_of (first proc_no);
      cred = auth_in (first cred);
      verf = auth_in (first verf);
      args = bytes_of (second verf);
    }

-- ---- a program

-- Its number, its version, its last procedure (the first is 0) and which numbers before it are of none, the arguments of each, and
-- what it gives for what was read as arguments: results, or no reply at all.
pub record Program : Type 0 where
  pub prog : ℕ
  pub vers : ℕ
  pub last : ℕ
  pub skips : ℕ → Bool
  pub args : ℕ → Kind whole
  pub gives : Value → Option (List ℕ)

-- each number up to the last has a procedure
abbrev pub none_between : ℕ → Bool
none_between proc_no = false

-- the server's verifier is AUTH_NULL (section 9.1)
abbrev pub auth_null : OpaqueAuth
auth_null = record { flavor = 0; body = [] }

-- PROG_UNAVAIL, PROG_MISMATCH with the lowest and the highest version, or PROC_UNAVAIL: the first of these that holds
abbrev pub refusal : Program → ℕ → ℕ → ℕ → Option Outcome
refusal p prog vers proc_no =
    if not (prog == p.prog) then Some (ProgUnavail auth_null) else
    (if not (vers == p.vers) then Some (ProgMismatch auth_null p.vers p.vers) else
    (if p.skips proc_no || nat_lt p.last proc_no then Some (ProcUnavail auth_null) else None))

-- GARBAGE_ARGS where nothing was read as arguments
abbrev pub answered : Program → Option Value → Option Outcome
answered p None = Some (GarbageArgs auth_null)
answered p (Some args) = option_map (Success auth_null) (p.gives args)

abbrev pub unless_refused : Option Outcome → Option Outcome → Option Outcome
unless_refused (Some refused) outcome = Some refused
unless_refused None outcome = outcome

-- an accepted call of this program, version and procedure with these arguments
abbrev pub accepted : Program → ℕ → ℕ → ℕ → List ℕ → Option Outcome
accepted p prog vers proc_no args = unless_refused (refusal p prog vers proc_no) (answered p (spelled (p.args proc_no) args))

-- ---- a call

-- AUTH_TOOWEAK is 5: only AUTH_NULL and AUTH_UNIX are known. AUTH_BADCRED is 1: AUTH_UNIX without its credentials (section 9.2).
abbrev pub is_none : Option Value → Bool
is_none None = true
is_none (Some v) = false

abbrev pub auth_refusal : OpaqueAuth → Option Outcome
auth_refusal cred =
    if nat_lt 1 cred.flavor then Some (AuthError 5) else
    (if cred.flavor == 1 && is_none (spelled (ended unix) cred.body) then Some (AuthError 1) else None)

-- The credentials are looked at before the program. Nothing is asked of the caller's verifier.
abbrev pub outcome_of : Program → Call → Option Outcome
outcome_of p call = unless_refused (auth_refusal call.cred) (accepted p call.prog call.vers call.proc_no call.args)

abbrev pub reply_with : ℕ → Outcome → Reply
reply_with xid outcome = record { xid = xid; outcome = outcome }

abbrev pub reply_to_call : Program → Call → Option Reply
reply_to_call p call = option_map (reply_with call.xid) (outcome_of p call)

-- RPC_MISMATCH where the message reads up to the version of the protocol and that isn't 2. A reply, and what doesn't read
-- otherwise, is ignored.
abbrev pub reply_to_read : Program → Read → Option Reply
reply_to_read p (Ok read) = if is_call read.0 then reply_to_call p (call_in read.0) else None
reply_to_read p (Err (RpcVersion xid got)) = Some (reply_with xid (RpcMismatch 2 2))
reply_to_read p (Err (Xdr why)) = None
reply_to_read p (Err (AuthLong at len)) = None
reply_to_read p (Err NoMemory) = None

-- the reply to a datagram with this body, where there is one
abbrev pub reply_to : Program → List ℕ → Option Reply
reply_to p body = reply_to_read p (reading message (start body))

-- ---- calls that are not refused

abbrev pub call_read : Read → Option Call
call_read (Ok read) = if is_call read.0 then Some (call_in read.0) else None
call_read (Err why) = None

-- the call that the body of a datagram spells
abbrev pub spelled_call : List ℕ → Option Call
spelled_call body = call_read (reading message (start body))

abbrev pub if_passed : Option Outcome → Option Value → Option Value
if_passed (Some refused) args = None
if_passed None args = args

-- what is read as the arguments of a call, where it is refused neither for its credentials nor by the program
abbrev pub arguments_of : Program → Call → Option Value
arguments_of p call = if_passed (auth_refusal call.cred) (if_passed (refusal p call.prog call.vers call.proc_no) (spelled (p.args call.proc_no) call.args))

-- the same of the call that the body of a datagram spells
abbrev pub asked : Program → List ℕ → Option Value
asked p body = option_and_then (arguments_of p) (spelled_call body)
