-- What a client asks and learns by RARP (RFC 903).
use Rattle.std.specs.Prelude.{ℕ, [], Option, Some, None, Result, Ok, Err, if◌then◌else◌, replicate}
use Rattle.sd_outside.specs.declared.packet.Mac.{Mac}
use Rattle.sd_outside.specs.declared.packet.Packet.{Packet}
use Rattle.sd_outside.specs.declared.packet.Packet.TheVariants.{Frame, Udp}
use Rattle.sd_rarp.specs.declared.frame.RarpFrame.{RarpFrame}
use Rattle.sd_rarp.specs.declared.frame.RarpFrame.TheVariants.{Request, Reply}
use Rattle.sd_rarp.specs.declared.frame.RarpError.{RarpError}
use Rattle.sd_rarp.specs.Frame.{reading, frame_bytes}
use Rattle.sd_rarp.specs.Answer.{is_mac}
use Rattle.sd_link.specs.Tries.{Hearing}

-- all ones: everyone on the network
abbrev pub broadcast_mac : Mac
broadcast_mac = record { 0 = replicate 6 255 }

-- the client asks everyone for its own address, and puts its hardware address in source, sender and target
abbrev pub rarp_request : Mac → Packet
rarp_request mac = Frame (frame_bytes (Request broadcast_mac mac mac mac))

-- what a reply tells: one's own address, and that of the responder
pub record Learned : Type 0 where
  pub address : ℕ
  pub responder : ℕ

abbrev pub learned_in : Mac → Result RarpFrame RarpError → Option Learned
learned_in mac (Ok (Reply dst src sender sender_ip target target_ip)) = if is_mac target mac then Some (record { address = target_ip; responder = sender_ip }) else None
learned_in mac (Ok (Request dst src sender target)) = None
learned_in mac (Err why) = None

-- what a packet tells the one with this hardware address: a reply whose target it is
abbrev pub learned_from : Mac → Packet → Option Learned
learned_from mac (Frame bytes) = learned_in mac (reading bytes)
learned_from mac (Udp src dst body) = None

-- the client takes the first such packet, and sends nothing for the others
abbrev pub rarp_hearing : Mac → Hearing Learned
rarp_hearing mac = record { match = learned_from mac; replies = λ packet. [] }
