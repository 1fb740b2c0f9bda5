-- Which datagrams the RPC programs leave unanswered, and where their replies go.
use Rattle.std.proofs.Common.{◌≡◌, ℕ, true, List, [], Option, Some, None, sym, subst, arith, ◌⊎◌}
use Rattle.std.specs.List.{AllByRecursion}
use Rattle.std.specs.Option.{option_map}
use Rattle.sd_outside.specs.declared.packet.Addr.{Addr}
use Rattle.sd_outside.specs.declared.packet.Packet.{Packet}
use Rattle.sd_outside.specs.declared.packet.Packet.TheVariants.{Udp}
use Rattle.sd_rpc_msg.specs.declared.message.Reply.{Reply}
use Rattle.sd_config.specs.declared.config.Config.{Config}
use Rattle.sd_services.specs.Part.{ServerPart}
use Rattle.sd_services.specs.RpcCalls.{reply_to}
use Rattle.sd_nfs_msg.specs.Layout.{nfs_port}
use Rattle.sd_services.specs.RpcReply.{is_rpc_port, program_at, rpc_packet, as_packets, rpc_out}
use Rattle.sd_services.specs.Failing.{nfs_failing, failures_to}

-- the four ports
pub rpc_port_is : (port : ℕ) → is_rpc_port port ≡ true → (port ≡ 111) ⊎ (port ≡ 1016) ⊎ (port ≡ 1017) ⊎ (port ≡ 2049)
rpc_port_is port e = grind arith

-- what holds of every reply from this port to whom asked holds of what is sent
pub all_replies : (P : Packet → Type 0) (c : Config) (part : ServerPart) (from : Addr) (port : ℕ) (body : List ℕ) → ((sent : List ℕ) → P (Udp (record { ip = c.server.ip; port = port }) from sent)) → AllByRecursion P (rpc_out c part from port body)
all_replies P c part from port body so = of (reply_to (program_at c part from.ip port) body)
  where
    of : (o : Option Reply) → AllByRecursion P (as_packets (option_map (rpc_packet c port from) o))
    of None = tt
    of (Some reply) = (so _, tt)

-- and so of what is sent where the disk fails
pub all_failures : (P : Packet → Type 0) (c : Config) (from : Addr) (body : List ℕ) → ((sent : List ℕ) → P (Udp (record { ip = c.server.ip; port = nfs_port }) from sent)) → AllByRecursion P (failures_to c from body)
all_failures P c from body so = of (reply_to nfs_failing body)
  where
    of : (o : Option Reply) → AllByRecursion P (as_packets (option_map (rpc_packet c nfs_port from) o))
    of None = tt
    of (Some reply) = (so _, tt)

-- where nothing is answered, nothing is sent
pub no_reply : (P : Packet → Type 0) (c : Config) (part : ServerPart) (from : Addr) (port : ℕ) (body : List ℕ) → rpc_out c part from port body ≡ [] → AllByRecursion P (rpc_out c part from port body)
no_reply P c part from port body none = subst (λ (l : List Packet). AllByRecursion P l) (sym none) tt
