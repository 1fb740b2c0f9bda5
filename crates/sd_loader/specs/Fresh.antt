-- The calls and replies of a caller that may still come, by their xids (RFC 1057, section 8).
use Rattle.std.specs.Prelude.{◌≡◌, ℕ, ◌<◌, if◌then◌else◌, IsTrue, Option, Some, None, Ok, Err}
use Rattle.sd_outside.specs.declared.packet.Addr.{Addr}
use Rattle.sd_outside.specs.declared.packet.Packet.{Packet}
use Rattle.sd_outside.specs.declared.packet.Packet.TheVariants.{Frame, Udp}
use Rattle.sd_xdr.specs.declared.error.MsgError.TheVariants.{Xdr, RpcVersion, AuthLong, NoMemory}
use Rattle.sd_xdr.specs.Kind.{number_of, first}
use Rattle.sd_xdr.specs.Reading.{Read, start, reading}
use Rattle.sd_rpc_msg.specs.Layout.{message}
use Rattle.sd_config.specs.declared.config.Config.{Config}
use Rattle.sd_services.specs.RpcCalls.{is_call}
use Rattle.sd_services.specs.RpcReply.{is_rpc_port}
use Rattle.sd_link.specs.World.{World, Flying}
use Rattle.sd_link.specs.Steps.{IsDeliverable}

-- The xid of a call, also of one that is refused for the version of the protocol.
abbrev pub xid_asked : Read → Option ℕ
xid_asked (Ok read) = if is_call read.0 then Some (number_of (first read.0)) else None
xid_asked (Err (RpcVersion xid got)) = Some xid
xid_asked (Err (Xdr why)) = None
xid_asked (Err (AuthLong at len)) = None
xid_asked (Err NoMemory) = None

-- the xid of a reply
abbrev pub xid_answered : Read → Option ℕ
xid_answered (Ok read) = if is_call read.0 then None else Some (number_of (first read.0))
xid_answered (Err why) = None

-- the packet is a call with this xid from this address and port
abbrev pub IsCallFrom : Addr → ℕ → Packet → Type 0
IsCallFrom me xid (Frame bytes) = ⊥
IsCallFrom me xid (Udp src dst body) = (src ≡ me) × (xid_asked (reading message (start body)) ≡ Some xid)

-- the packet is a reply with this xid to there, from the port of the portmapper, of bootparams, of MOUNT or of NFS at the server
abbrev pub IsReplyTo : Config → Addr → ℕ → Packet → Type 0
IsReplyTo c me xid (Frame bytes) = ⊥
IsReplyTo c me xid (Udp src dst body) =
    (dst ≡ me) × (src.ip ≡ c.server.ip) × IsTrue (is_rpc_port src.port) × (xid_answered (reading message (start body)) ≡ Some xid)

-- Each call from there that may still come, and each reply to there, has an xid below this one.
pub record XidsBelow (c : Config) (me : Addr) (next : ℕ) (w : World) : Type 0 where
  pub calls : (id xid : ℕ) (f : Flying) → IsDeliverable c w id f → IsCallFrom me xid f.packet → xid < next
  pub replies : (id xid : ℕ) (f : Flying) → IsDeliverable c w id f → IsReplyTo c me xid f.packet → xid < next
