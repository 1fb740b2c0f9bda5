-- What a server does where its disk fails or where it stops, and what then becomes of its files.
use Rattle.std.specs.Prelude.{ℕ, Bool, true, false, List, [], Option, Some}
use Rattle.std.specs.Option.{option_map}
use Rattle.sd_outside.specs.declared.packet.Addr.{Addr}
use Rattle.sd_outside.specs.declared.packet.Packet.{Packet}
use Rattle.sd_outside.specs.declared.packet.Packet.TheVariants.{Frame, Udp}
use Rattle.sd_nfs_msg.specs.Layout.{result_bytes, nfs_port}
use Rattle.sd_config.specs.declared.config.Config.{Config}
use Rattle.sd_services.specs.Part.{Change}
use Rattle.sd_services.specs.Decisions.{err_io, refused}
use Rattle.sd_services.specs.NfsReply.{changed}
use Rattle.sd_services.specs.RpcCalls.{Program, reply_to}
use Rattle.sd_services.specs.NfsCalls.{nfs_giving, change_of}
use Rattle.sd_services.specs.RpcReply.{rpc_packet, as_packets}
use Rattle.sd_services.specs.Reply.{files_after}

-- ---- a call of NFS in which the disk fails (RFC 1094, section 2.3.1)

-- NFSERR_IO, a hard error, whatever is called
abbrev pub nfs_failing : Program
nfs_failing = nfs_giving (λ v. Some (result_bytes (refused err_io)))

abbrev pub failures_to : Config → Addr → List ℕ → List Packet
failures_to c from body = as_packets (option_map (rpc_packet c nfs_port from) (reply_to nfs_failing body))

-- the packets out
abbrev pub failure_out : Config → Packet → List Packet
failure_out c (Frame bytes) = []
failure_out c (Udp src dst body) = failures_to c src body

-- Either the packet's change becomes doubtful, or nothing was done.
abbrev pub doubt_then : Config → Bool → Option Change → Packet → Option Change
doubt_then c true doubt packet = change_of c packet
doubt_then c false doubt packet = doubt

-- A doubtful change is done whole or not at all.
abbrev pub files_settled : Bool → Option Change → List (List ℕ) → List (List ℕ)
files_settled true doubt files = changed doubt files
files_settled false doubt files = files

-- ---- a server that stops while it is given a packet

-- The packet's change was done, or it wasn't.
abbrev pub files_crashed : Config → Bool → List (List ℕ) → Packet → List (List ℕ)
files_crashed c true files packet = files_after c files packet
files_crashed c false files packet = files
