-- The same as Receiving, computed: what a receiver answers to a packet, and what it is then.
use Rattle.std.specs.Prelude.{◌≡◌, ℕ, ◌+◌, ◌*◌, nat_lt, ◌==◌, ◌&&◌, not, if◌then◌else◌, List, length, Option, Some, None, Bool, true, false, Result, Ok, Err}
use Rattle.sd_outside.specs.declared.packet.Addr.{Addr}
use Rattle.sd_tftp.specs.declared.packet.TftpPacket.{TftpPacket}
use Rattle.sd_tftp.specs.declared.packet.TftpPacket.TheVariants.{Rrq, Wrq, Block, Ack, Error}
use Rattle.sd_tftp.specs.declared.step.Step.{Step}
use Rattle.sd_tftp.specs.declared.step.Step.TheVariants.{Ignored, Stranger, Again, Took, Refused, Over}
use Rattle.sd_tftp.specs.Reception.{Reception, with_block, closed}

-- what it says, and what it is then
pub record Turn : Type 0 where
  pub says : Step
  pub becomes : Reception

abbrev pub ignored : Reception → Turn
ignored old = record { says = Ignored; becomes = old }

-- A block below 512 bytes is the last. Block 65,535 has no number after it.
abbrev pub taking : Reception → Addr → List ℕ → Turn
taking old from body =
    if nat_lt (length body) 512 then record { says = Took from (length old.blocks + 1) true; becomes = with_block old from.port body true } else
    (if length old.blocks + 1 == 65535 then record { says = Over (512 * 65535); becomes = with_block old from.port body true } else
    record { says = Took from (length old.blocks + 1) false; becomes = with_block old from.port body false })

abbrev pub refused : Reception → ℕ → Turn
refused old n = record { says = Refused n; becomes = closed old }

-- the block that it waits for; no packet has a longer one
abbrev pub is_awaited : Reception → ℕ → List ℕ → Bool
is_awaited old n body = (n == length old.blocks + 1) && not (nat_lt 512 (length body))

-- before the first block: block 1 or an ERROR, from any port of the server
abbrev pub first : Reception → Addr → TftpPacket → Turn
first old from (Block n body) = if is_awaited old n body then taking old from body else ignored old
first old from (Error n text) = refused old n
first old from (Ack n) = ignored old
first old from (Rrq filename mode_text) = ignored old
first old from (Wrq filename mode_text) = ignored old

-- from the peer: the awaited block, the last block taken once more, or an ERROR
abbrev pub from_peer : Reception → Addr → TftpPacket → Turn
from_peer old from (Block n body) =
    if is_awaited old n body then taking old from body else
    (if n == length old.blocks then record { says = Again from n; becomes = old } else ignored old)
from_peer old from (Error n text) = refused old n
from_peer old from (Ack n) = ignored old
from_peer old from (Rrq filename mode_text) = ignored old
from_peer old from (Wrq filename mode_text) = ignored old

-- from another port of the server, once the peer is known: a block is a stranger's
abbrev pub from_other : Reception → Addr → TftpPacket → Turn
from_other old from (Block n body) = record { says = Stranger from; becomes = old }
from_other old from (Error n text) = ignored old
from_other old from (Ack n) = ignored old
from_other old from (Rrq filename mode_text) = ignored old
from_other old from (Wrq filename mode_text) = ignored old

abbrev pub from_server : Reception → Addr → TftpPacket → Option ℕ → Turn
from_server old from packet None = first old from packet
from_server old from packet (Some source) = if from.port == source then from_peer old from packet else from_other old from packet

-- what a receiver does: nothing once it has ended, and nothing with a packet from elsewhere
unfoldable pub turn : Reception → Addr → TftpPacket → Turn
turn old from packet =
    if old.ended then ignored old else
    (if from.ip == old.server then from_server old from packet old.peer else ignored old)

-- memory is wanted for a block alone
abbrev pub TakesMemory : Step → Type 0
TakesMemory (Took to n last) = Unit {0}
TakesMemory (Over got) = Unit {0}
TakesMemory Ignored = ⊥
TakesMemory (Stranger to) = ⊥
TakesMemory (Again to n) = ⊥
TakesMemory (Refused n) = ⊥

-- what a call answers, and what the receiver is then: unchanged where memory ran out, which it does for a block alone
abbrev pub Does : {E : Type 0} → Turn → Reception → Reception → Result Step E → Type 0
Does owed old new (Ok answer) = (answer ≡ owed.says) × (new ≡ owed.becomes)
Does owed old new (Err e) = (new ≡ old) × TakesMemory owed.says
