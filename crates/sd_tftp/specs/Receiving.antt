-- What a receiver does with a packet (RFC 1350, sections 2, 4, 5 and 6): which answer a packet gets, and what it changes.
use Rattle.std.specs.Prelude.{◌≡◌, ◌≢◌, ℕ, ◌+◌, ◌*◌, ◌≤◌, nat_lt, List, length, Option, Some, None, Bool, true, false}
use Rattle.sd_outside.specs.declared.packet.Addr.{Addr}
use Rattle.sd_tftp.specs.declared.packet.TftpPacket.{TftpPacket}
use Rattle.sd_tftp.specs.declared.packet.TftpPacket.TheVariants.{Block, Error}
use Rattle.sd_tftp.specs.declared.step.Step.{Step}
use Rattle.sd_tftp.specs.declared.step.Step.TheVariants.{Ignored, Stranger, Again, Took, Refused, Over}
use Rattle.sd_tftp.specs.Reception.{Reception, with_block, closed}

-- Section 4: the port of block 1 is the server's transfer identifier. Until it is known any port is right.
abbrev pub IsRightPort : Option ℕ → ℕ → Type 0
IsRightPort None port = Unit {0}
IsRightPort (Some peer) port = port ≡ peer

-- It goes on, and hears the server at this address and port.
pub record Hears (old : Reception) (from : Addr) : Type 0 where
  pub going : old.ended ≡ false
  pub ip : from.ip ≡ old.server
  pub port : IsRightPort old.peer from.port

-- the number of the block that it waits for
abbrev pub awaited : Reception → ℕ
awaited old = length old.blocks + 1

-- The packet is the awaited block, with these bytes. No packet has a block above 512 bytes.
pub record Brings (old : Reception) (from : Addr) (packet : TftpPacket) (body : List ℕ) : Type 0 where
  pub heard : Hears old from
  pub packet_is : packet ≡ Block (awaited old) body
  pub fits : length body ≤ 512

-- It takes the awaited block, and ACKs it. One below 512 bytes is the last.
pub record IsTaken (old : Reception) (from : Addr) (packet : TftpPacket) (to : Addr) (n : ℕ) (last : Bool) : Type 0 where
  pub body : List ℕ
  pub brings : Brings old from packet body
  pub to_is : to ≡ from
  pub number : n ≡ awaited old
  pub short : last ≡ nat_lt (length body) 512
  -- a further block has a number
  pub next : last ≡ false → n ≢ 65535

-- It takes the awaited block, which isn't the last and has the last number.
pub record IsTooMuch (old : Reception) (from : Addr) (packet : TftpPacket) (got : ℕ) : Type 0 where
  pub body : List ℕ
  pub brings : Brings old from packet body
  pub whole : length body ≡ 512
  pub number : awaited old ≡ 65535
  pub got_is : got ≡ 512 * 65535

-- Its peer sends the last block that was taken once more, so the ACK was lost or late: it is sent again.
pub record IsAgain (old : Reception) (from : Addr) (packet : TftpPacket) (to : Addr) (n : ℕ) : Type 0 where
  pub body : List ℕ
  pub going : old.ended ≡ false
  pub ip : from.ip ≡ old.server
  pub port : old.peer ≡ Some from.port
  pub packet_is : packet ≡ Block n body
  pub number : n ≡ length old.blocks
  pub to_is : to ≡ from

-- Section 5: an ERROR ends the transfer.
pub record IsRefused (old : Reception) (from : Addr) (packet : TftpPacket) (code_no : ℕ) : Type 0 where
  pub text : List ℕ
  pub heard : Hears old from
  pub packet_is : packet ≡ Error code_no text

-- Section 4: a block from another port of the server, which gets an ERROR 5 and disturbs nothing.
pub record IsStranger (old : Reception) (from : Addr) (packet : TftpPacket) (to : Addr) : Type 0 where
  pub n : ℕ
  pub body : List ℕ
  pub peer_port : ℕ
  pub going : old.ended ≡ false
  pub ip : from.ip ≡ old.server
  pub peer : old.peer ≡ Some peer_port
  pub other : from.port ≢ peer_port
  pub packet_is : packet ≡ Block n body
  pub to_is : to ≡ from

-- This answer fits the packet.
abbrev pub Fits : Reception → Addr → TftpPacket → Step → Type 0
Fits old from packet Ignored = ⊥
Fits old from packet (Stranger to) = IsStranger old from packet to
Fits old from packet (Again to n) = IsAgain old from packet to n
Fits old from packet (Took to n last) = IsTaken old from packet to n last
Fits old from packet (Refused code_no) = IsRefused old from packet code_no
Fits old from packet (Over got) = IsTooMuch old from packet got

-- What it answers, and what it is then. All else is ignored: where no other answer fits.
abbrev pub Receives : Reception → Addr → TftpPacket → Step → Reception → Type 0
Receives old from packet Ignored new = (new ≡ old) × ((says : Step) → Fits old from packet says → ⊥)
Receives old from packet (Stranger to) new = (new ≡ old) × IsStranger old from packet to
Receives old from packet (Again to n) new = (new ≡ old) × IsAgain old from packet to n
Receives old from packet (Took to n last) new = (t : IsTaken old from packet to n last) × (new ≡ with_block old from.port t.body last)
Receives old from packet (Refused code_no) new = (new ≡ closed old) × IsRefused old from packet code_no
Receives old from packet (Over got) new = (t : IsTooMuch old from packet got) × (new ≡ with_block old from.port t.body true)
