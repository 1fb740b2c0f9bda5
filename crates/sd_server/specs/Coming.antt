-- How far the body of a datagram comes with an RPC program: it is no call, or it is refused, or it calls a procedure with arguments
-- (RFC 1057, section 8).
use Rattle.std.specs.Prelude.{◌≡◌, ◌≤◌, ℕ, false, List, Option, Some, None, Result, Ok, Err, if◌then◌else◌}
use Rattle.std.specs.Option.{option_map}
use Rattle.sd_xdr.specs.declared.error.MsgError.{MsgError}
use Rattle.sd_xdr.specs.declared.error.MsgError.TheVariants.{Xdr, RpcVersion, AuthLong, NoMemory}
use Rattle.sd_xdr.specs.Kind.{Value}
use Rattle.sd_xdr.specs.Reading.{Read, start, reading}
use Rattle.sd_rpc_msg.specs.declared.message.Call.{Call}
use Rattle.sd_rpc_msg.specs.declared.message.Outcome.{Outcome}
use Rattle.sd_rpc_msg.specs.declared.message.Outcome.TheVariants.{RpcMismatch}
use Rattle.sd_rpc_msg.specs.declared.message.Reply.{Reply}
use Rattle.sd_rpc_msg.specs.declared.message.Message.{Message}
use Rattle.sd_rpc_msg.specs.declared.message.Message.TheVariants.{Asked, Answered}
use Rattle.sd_rpc_msg.specs.Layout.{message, OutcomeFits}
use Rattle.sd_services.specs.RpcCalls.{Program, spelled, is_call, call_in, auth_refusal, refusal, reply_with, answered}
use Rattle.sd_server.specs.declared.coming.Coming as code
use Rattle.sd_server.specs.declared.coming.Coming.TheVariants as comes

pub data Arrival : Type 0 where
  Nowhere : Arrival
  Refused : (reply : Reply) → Arrival
  -- the arguments, where their bytes spell any
  Calls : (xid : ℕ) (args : Option Value) → Arrival

-- a call whose credentials pass, by what refuses the program, the version or the procedure
abbrev pub arrives : Program → Call → Option Outcome → Arrival
arrives p call (Some outcome) = Refused (reply_with call.xid outcome)
arrives p call None = Calls call.xid (spelled (p.args call.proc_no) call.args)

-- a call, by what refuses its credentials
abbrev pub arrives_by : Program → Call → Option Outcome → Arrival
arrives_by p call (Some outcome) = Refused (reply_with call.xid outcome)
arrives_by p call None = arrives p call (refusal p call.prog call.vers call.proc_no)

abbrev pub arrives_call : Program → Call → Arrival
arrives_call p call = arrives_by p call (auth_refusal call.cred)

abbrev pub arrives_read : Program → Read → Arrival
arrives_read p (Ok read) = if is_call read.0 then arrives_call p (call_in read.0) else Nowhere
arrives_read p (Err (RpcVersion xid got)) = Refused (reply_with xid (RpcMismatch 2 2))
arrives_read p (Err (Xdr why)) = Nowhere
arrives_read p (Err (AuthLong at len)) = Nowhere
arrives_read p (Err NoMemory) = Nowhere

abbrev pub arrival : Program → List ℕ → Arrival
arrival p body = arrives_read p (reading message (start body))

-- the reply of a program
abbrev pub replied : Program → Arrival → Option Reply
replied p Nowhere = None
replied p (Refused reply) = Some reply
replied p (Calls xid args) = option_map (reply_with xid) (answered p args)

-- what is asked of it
abbrev pub asked_by : Arrival → Option Value
asked_by Nowhere = None
asked_by (Refused reply) = None
asked_by (Calls xid args) = args

-- ---- as the code has it

abbrev pub comes_as : Program → code.Coming → Arrival
comes_as p comes.Nowhere = Nowhere
comes_as p (comes.Refused reply) = Refused reply
comes_as p (comes.Asks xid proc_no args) = Calls xid (spelled (p.args proc_no) args)

abbrev pub MayCome : Program → code.Coming → Type 0
MayCome p comes.Nowhere = Unit {0}
MayCome p (comes.Refused reply) = OutcomeFits reply.outcome
MayCome p (comes.Asks xid proc_no args) = (proc_no ≤ p.last) × (p.skips proc_no ≡ false)

-- how far a message that was read comes, or bytes that are none
abbrev pub ComesRead : Program → Result Message MsgError → Arrival → Type 0
ComesRead p (Ok (Asked call)) a = a ≡ arrives_call p call
ComesRead p (Ok (Answered other)) a = a ≡ Nowhere
ComesRead p (Err (RpcVersion xid got)) a = a ≡ Refused (reply_with xid (RpcMismatch 2 2))
ComesRead p (Err (Xdr why)) a = a ≡ Nowhere
ComesRead p (Err (AuthLong at len)) a = a ≡ Nowhere
ComesRead p (Err NoMemory) a = ⊥
