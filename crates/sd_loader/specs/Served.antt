-- What the server says to a call, by the definitions of its programs.
use Rattle.std.specs.Prelude.{◌≡◌, ◌⊎◌, ℕ, Some}
use Rattle.sd_outside.specs.declared.packet.Addr.{Addr}
use Rattle.sd_rpc_msg.specs.declared.message.Outcome.{Outcome}
use Rattle.sd_rpc_msg.specs.Layout.{outcome_value}
use Rattle.sd_config.specs.declared.config.Config.{Config}
use Rattle.sd_services.specs.Part.{ServerPart}
use Rattle.sd_services.specs.RpcCalls.{Program, outcome_of}
use Rattle.sd_services.specs.RpcReply.{program_at}
use Rattle.sd_services.specs.Failing.{nfs_failing}
use Rattle.sd_rpc_retry.specs.declared.calling.Ask.{Ask}
use Rattle.sd_rpc_retry.specs.declared.calling.Caller.{Caller}
use Rattle.sd_rpc_retry.specs.Calling.{Verdict, reply_says, verdict_of, call_for}

-- the program at a port of the server, with what the server holds at some time, or NFS while the disk fails
abbrev pub Serves : Config → ℕ → ℕ → Program → Type 0
Serves c from port program = ((part : ServerPart) × (program ≡ program_at c part from port)) ⊎ (program ≡ nfs_failing)

-- The verdict on the caller's next call is what such a program says to it.
pub record IsServers (c : Config) (caller : Caller) (dst : Addr) (what : Ask) (v : Verdict) : Type 0 where
  pub program : Program
  pub serves : Serves c caller.ip dst.port program
  pub outcome : Outcome
  pub given : outcome_of program (call_for caller.machine caller.next_xid dst what) ≡ Some outcome
  pub verdict : verdict_of what dst dst.ip (reply_says (outcome_value outcome)) ≡ Some v
