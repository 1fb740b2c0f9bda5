-- Packets that need neither the swap file nor what a crash takes away, and their replies.
use Rattle.std.specs.Prelude.{◌≡◌, ℕ, ◌==◌, ◌&&◌, ◌||◌, Bool, true, false, List, length, map, Option, Some, None}
use Rattle.std.specs.Option.{option_map}
use Rattle.sd_outside.specs.declared.packet.Packet.{Packet}
use Rattle.sd_outside.specs.declared.packet.Packet.TheVariants.{Frame, Udp}
use Rattle.sd_mount.specs.declared.message.MountArgs.{MountArgs}
use Rattle.sd_mount.specs.declared.message.MountArgs.TheVariants as asks
use Rattle.sd_tftp.specs.Grammar.{tftp_port}
use Rattle.sd_config.specs.declared.config.Config.{Config}
use Rattle.sd_services.specs.Part.{ServerPart}
use Rattle.sd_services.specs.RpcCalls.{asked}
use Rattle.sd_services.specs.Sessions.{is_session_port}
use Rattle.sd_services.specs.MountReply.{mount_port, mount_to_ask, mount_args_in}
use Rattle.sd_services.specs.NfsCalls.{is_swap_access}
use Rattle.sd_services.specs.Reply.{out_of, next_of}
use Rattle.sd_server.specs.Access.{sizes_of}

-- the calls of MOUNT that read or change who mounted what (RFC 1094, appendix A)
abbrev pub uses_mounts : MountArgs → Bool
uses_mounts asks.Null = false
uses_mounts (asks.Mnt path) = true
uses_mounts asks.Dump = true
uses_mounts (asks.Umnt path) = true
uses_mounts asks.UmntAll = true
uses_mounts asks.Export = false

abbrev pub uses_mounts_in : Option MountArgs → Bool
uses_mounts_in None = false
uses_mounts_in (Some args) = uses_mounts args

-- the body of a datagram is such a call, and is not refused
abbrev pub asks_mounts : List ℕ → Bool
asks_mounts body = uses_mounts_in (option_map mount_args_in (asked mount_to_ask body))

-- a datagram to the server's TFTP (RFC 1350)
abbrev pub is_to_tftp : Config → Packet → Bool
is_to_tftp c (Frame bytes) = false
is_to_tftp c (Udp src dst body) = (dst.ip == c.server.ip) && ((dst.port == tftp_port) || is_session_port dst.port)

-- such a call of the server's MOUNT
abbrev pub is_of_mounts : Config → Packet → Bool
is_of_mounts c (Frame bytes) = false
is_of_mounts c (Udp src dst body) = (dst.ip == c.server.ip) && ((dst.port == mount_port) && asks_mounts body)

-- TFTP, MOUNT but for its procedures NULL and EXPORT, and a READ or WRITE of the swap file
abbrev pub needs_state : Config → Packet → Bool
needs_state c packet = is_swap_access c packet || (is_to_tftp c packet || is_of_mounts c packet)

-- What is given without any state: nothing for a packet that needs some, and else the packets that every server with this
-- configuration sends at every tick. Such a packet changes nothing in any server.
abbrev pub GivesStill : Config → Packet → Option (List Packet) → Type 0
GivesStill c packet None = needs_state c packet ≡ true
GivesStill c packet (Some out) =
    (needs_state c packet ≡ false) × ((tick : ℕ) (part : ServerPart) → map (λ file. length file) part.files ≡ sizes_of c → out ≡ out_of c tick part packet)
    × ((tick : ℕ) (part : ServerPart) → next_of c tick part packet ≡ part)
