-- Which protocol a packet is of, as far as its ports tell.
use Rattle.std.specs.Prelude.{◌==◌, ℕ, Bool, ◌||◌, if◌then◌else◌}
use Rattle.sd_outside.specs.declared.packet.Addr.{Addr}
use Rattle.sd_outside.specs.declared.packet.Packet.{Packet}
use Rattle.sd_outside.specs.declared.packet.Packet.TheVariants.{Frame, Udp}
use Rattle.sd_show.specs.Shown.{is_tftp}
use Rattle.sd_view.specs.declared.protocols.Protocol.{Protocol}
use Rattle.sd_view.specs.declared.protocols.Protocol.TheVariants.{Rarp, Tftp, Portmap, Bootparams, Mount, Nfs, Other}

-- whether either port is this one
abbrev pub has_port : Addr → Addr → ℕ → Bool
has_port src dst port = src.port == port || dst.port == port

-- The portmapper has port 111 (RFC 1057, appendix A) and NFS port 2049 (RFC 1094, section 3.4); the server of this project serves
-- bootparams at 1016 and MOUNT at 1017.
abbrev pub rpc_protocol : Addr → Addr → Protocol
rpc_protocol src dst =
    if has_port src dst 111 then Portmap else
    (if has_port src dst 1016 then Bootparams else (if has_port src dst 1017 then Mount else (if has_port src dst 2049 then Nfs else Other)))

abbrev pub protocol_of : Packet → Protocol
protocol_of (Frame bytes) = Rarp
protocol_of (Udp src dst body) = if is_tftp src dst then Tftp else rpc_protocol src dst
