-- The text of a packet, as it is written and as it is read.
use Rattle.std.specs.Prelude.{◌≡◌, ℕ, ◌<◌, ◌≤◌, ◌^◌, List, [], ◌∷◌, ◌++◌, ◌⊎◌, length, codes}
use Rattle.std.specs.List.{join_with_byte}
use Rattle.hex.specs.Hex.{IsBytes}
use Rattle.sd_outside.specs.declared.packet.Addr.{Addr}
use Rattle.sd_outside.specs.declared.packet.Packet.{Packet}
use Rattle.sd_outside.specs.declared.packet.Packet.TheVariants.{Frame, Udp}
use Rattle.sd_text.specs.declared.error.PacketLineError.{PacketLineError}
use Rattle.sd_text.specs.declared.error.PacketLineError.TheVariants as errors
use Rattle.sd_text.specs.Texts.{Text, addr_text, fields, IsAddr}
use Rattle.sd_text.specs.Runs.{runs_text, IsRunsWithin}

-- ---- what is written

-- `frame BYTES`, or `udp ADDR ADDR BYTES` with the source first
abbrev pub packet_text : Packet → Text
packet_text (Frame bytes) = join_with_byte 32 (codes "frame" ∷ runs_text bytes ∷ [])
packet_text (Udp src dst body) = join_with_byte 32 (codes "udp" ∷ addr_text src ∷ addr_text dst ∷ runs_text body ∷ [])

-- what stands before the bytes of a datagram
abbrev pub head_of_udp : Addr → Addr → Text
head_of_udp src dst = codes "udp " ++ (addr_text src ++ (32 ∷ (addr_text dst ++ (32 ∷ []))))

-- ---- what is read

-- `frame BYTES`, at most 1,514 bytes
pub record IsFrameLine (args : List Text) (packet : Packet) : Type 0 where
  pub content : List ℕ
  pub bytes : Text
  pub text : args ≡ bytes ∷ []
  pub runs : IsRunsWithin 1514 bytes content
  pub means : packet ≡ Frame content

-- `udp ADDR ADDR BYTES`, the source first, at most 9,216 bytes
pub record IsUdpLine (args : List Text) (packet : Packet) : Type 0 where
  pub src : Addr
  pub dst : Addr
  pub content : List ℕ
  pub from : Text
  pub to : Text
  pub bytes : Text
  pub text : args ≡ from ∷ to ∷ bytes ∷ []
  pub is_src : IsAddr from src
  pub is_dst : IsAddr to dst
  pub runs : IsRunsWithin 9216 bytes content
  pub means : packet ≡ Udp src dst content

abbrev pub IsPacketLine : Text → Packet → Type 0
IsPacketLine line packet = (args : List Text) × (((fields line ≡ codes "frame" ∷ args) × IsFrameLine args packet) ⊎ ((fields line ≡ codes "udp" ∷ args) × IsUdpLine args packet))

-- what a refusal says of the text; out of memory says nothing
abbrev pub IsPacketLineError : Text → PacketLineError → Type 0
IsPacketLineError line errors.BadPacket = (packet : Packet) → IsPacketLine line packet → ⊥
IsPacketLineError line errors.NoMemory = Unit {0}

-- an address of the code
pub record AddrFits (a : Addr) : Type 0 where
  pub ip : a.ip < 2 ^ 32
  pub port : a.port < 2 ^ 16

-- a packet of the code, within the two limits
abbrev pub IsPacket : Packet → Type 0
IsPacket (Frame bytes) = IsBytes bytes × (length bytes ≤ 1514)
IsPacket (Udp src dst body) = AddrFits src × AddrFits dst × IsBytes body × (length body ≤ 9216)
