-- What a server does with a packet: the packets that it sends, and its part afterwards.
use Rattle.std.specs.Prelude.{ℕ, Bool, ◌==◌, ◌&&◌, ◌||◌, if◌then◌else◌, List, [], ◌∷◌, Option, Some, None, Result, Ok, Err}
use Rattle.sd_outside.specs.declared.packet.Addr.{Addr}
use Rattle.sd_outside.specs.declared.packet.Mac.{Mac}
use Rattle.sd_outside.specs.declared.packet.Packet.{Packet}
use Rattle.sd_outside.specs.declared.packet.Packet.TheVariants.{Frame, Udp}
use Rattle.sd_rarp.specs.declared.frame.RarpFrame.{RarpFrame}
use Rattle.sd_rarp.specs.declared.frame.RarpError.{RarpError}
use Rattle.sd_rarp.specs.Frame.{reading, frame_bytes}
use Rattle.sd_rarp.specs.Answer.{answer_of}
use Rattle.sd_config.specs.declared.config.Config.{Config}
use Rattle.sd_services.specs.Part.{ServerPart, Replied, silence}
use Rattle.sd_outside.specs.Bytes.{broadcast_ip}
use Rattle.sd_services.specs.Sessions.{tftp_reply}
use Rattle.sd_portmap.specs.Layout.{pmap_port}
use Rattle.sd_services.specs.RpcReply.{is_rpc_port, rpc_reply}
use Rattle.sd_services.specs.NfsReply.{changed}
use Rattle.sd_services.specs.NfsCalls.{change_of}

-- RFC 903: the server knows one hardware address, that of its client
abbrev pub rarp_table : Config → List (Mac × ℕ)
rarp_table c = (c.client.mac, c.client.ip) ∷ []

abbrev pub rarp_answer : Config → Result RarpFrame RarpError → Option RarpFrame
rarp_answer c (Ok frame) = answer_of (rarp_table c) (c.server.mac, c.server.ip) frame
rarp_answer c (Err why) = None

abbrev pub as_frame : Option RarpFrame → List Packet
as_frame None = []
as_frame (Some frame) = Frame (frame_bytes frame) ∷ []

abbrev pub rarp_out : Config → List ℕ → List Packet
rarp_out c bytes = as_frame (rarp_answer c (reading bytes))

-- The server listens at its own address; its portmapper hears broadcasts too (RFC 1057, appendix A).
abbrev pub is_heard : Config → Addr → Bool
is_heard c dst = (dst.ip == c.server.ip) || ((dst.ip == broadcast_ip) && (dst.port == pmap_port))

-- a datagram to this port
abbrev pub port_reply : Config → ℕ → ServerPart → Addr → ℕ → List ℕ → Replied
port_reply c tick part from port body = if is_rpc_port port then rpc_reply c part from port body else tftp_reply c tick part from port body

-- A frame is answered by the table, and leaves the server as it was. A datagram is answered by its port where the server hears it,
-- and else ignored. What it does to the files stands in `next_of`.
abbrev pub reply : Config → ℕ → ServerPart → Packet → Replied
reply c tick part (Frame bytes) = record { out = rarp_out c bytes; next = part }
reply c tick part (Udp src dst body) = if is_heard c dst then port_reply c tick part src dst.port body else silence part

-- the packets out
abbrev pub out_of : Config → ℕ → ServerPart → Packet → List Packet
out_of c tick part packet = (reply c tick part packet).out

-- the files with the change that a packet asks for, where it asks for one
abbrev pub files_after : Config → List (List ℕ) → Packet → List (List ℕ)
files_after c files packet = changed (change_of c packet) files

-- the server's part afterwards
abbrev pub next_of : Config → ℕ → ServerPart → Packet → ServerPart
next_of c tick part packet = record (reply c tick part packet).next { files = files_after c part.files packet }
