-- What was ever sent from one address and port.
use Rattle.std.specs.Prelude.{◌≡◌, ◌⊎◌, ◌<◌, ℕ, List, length, Some, Ok, slice_get}
use Rattle.sd_outside.specs.declared.packet.Addr.{Addr}
use Rattle.sd_outside.specs.declared.packet.Packet.TheVariants.{Udp}
use Rattle.sd_tftp.specs.declared.packet.TftpPacket.TheVariants.{Rrq}
use Rattle.sd_tftp.specs.Reading.{reading}
use Rattle.sd_link.specs.World.{World, Flying}

-- no TFTP request for another file was ever sent from there
abbrev pub AsksOnlyFor : Addr → List ℕ → World → Type 0
AsksOnlyFor me name w =
    (id : ℕ) (f : Flying) (to : Addr) (body asked mode : List ℕ) → slice_get w.flight id ≡ Some f → f.packet ≡ Udp me to body → reading body ≡ Ok (Rrq asked mode) → asked ≡ name

-- the ports of the portmapper, of bootparams, of MOUNT and of NFS
abbrev pub IsRpcPort : ℕ → Type 0
IsRpcPort port = (port ≡ 111) ⊎ (port ≡ 1016) ⊎ (port ≡ 1017) ⊎ (port ≡ 2049)

-- Every datagram to one of these ports that was ever sent from there is too short for a message: it has no xid and message type.
abbrev pub KeepsOffRpc : Addr → World → Type 0
KeepsOffRpc me w = (id : ℕ) (f : Flying) (to : Addr) (body : List ℕ) → slice_get w.flight id ≡ Some f → f.packet ≡ Udp me to body → IsRpcPort to.port → length body < 8
