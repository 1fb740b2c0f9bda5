-- The same as Sending, computed: what a sender answers to a packet and at a tick, and what it is then.
use Rattle.std.specs.Prelude.{ℕ, ◌+◌, nat_lt, ◌==◌, ◌&&◌, if◌then◌else◌, List, length, Bool}
use Rattle.sd_outside.specs.declared.packet.Addr.{Addr}
use Rattle.sd_tftp.specs.declared.packet.TftpPacket.{TftpPacket}
use Rattle.sd_tftp.specs.declared.packet.TftpPacket.TheVariants.{Rrq, Wrq, Block, Ack, Error}
use Rattle.sd_tftp.specs.declared.step.SenderStep.{SenderStep}
use Rattle.sd_tftp.specs.declared.step.SenderStep.TheVariants.{Ignored, Stranger, Next, Done}
use Rattle.sd_tftp.specs.declared.step.SenderTick.{SenderTick}
use Rattle.sd_tftp.specs.declared.step.SenderTick.TheVariants.{Rest, Resend, Ended}
use Rattle.sd_tftp.specs.Blocks.{block_at}
use Rattle.sd_tftp.specs.Transfer.{Transfer, moved, resent, over}

abbrev pub is_same : Addr → Addr → Bool
is_same a b = (a.ip == b.ip) && (a.port == b.port)

pub record Turn : Type 0 where
  pub says : SenderStep
  pub becomes : Transfer

pub record Tick : Type 0 where
  pub says : SenderTick
  pub becomes : Transfer

abbrev pub ignored : Transfer → Turn
ignored old = record { says = Ignored; becomes = old }

-- the present block is acknowledged: one below 512 bytes was the last
abbrev pub acknowledged : Transfer → ℕ → List ℕ → Turn
acknowledged old now file =
    if nat_lt (length (block_at file old.block)) 512 then record { says = Done; becomes = over old } else
    record { says = Next (old.block + 1); becomes = moved old now }

-- from the peer: an ACK of the present block alone moves on, and an ERROR ends
abbrev pub from_peer : Transfer → ℕ → TftpPacket → List ℕ → Turn
from_peer old now (Ack n) file = if n == old.block then acknowledged old now file else ignored old
from_peer old now (Error n text) file = record { says = Done; becomes = over old }
from_peer old now (Block n body) file = ignored old
from_peer old now (Rrq filename mode_text) file = ignored old
from_peer old now (Wrq filename mode_text) file = ignored old

-- from anyone else: a stranger is told so, unless it sends an ERROR
abbrev pub from_other : Addr → TftpPacket → SenderStep
from_other from (Error n text) = Ignored
from_other from (Ack n) = Stranger from
from_other from (Block n body) = Stranger from
from_other from (Rrq filename mode_text) = Stranger from
from_other from (Wrq filename mode_text) = Stranger from

-- what a sender does with a packet: nothing once it has ended
unfoldable pub turn : Transfer → ℕ → Addr → TftpPacket → List ℕ → Turn
turn old now from packet file =
    if old.ended then ignored old else
    (if is_same from old.peer then from_peer old now packet file else record { says = from_other from packet; becomes = old })

-- A block is due `wait` ticks after its last send. It is sent again, and after `tries` sends the transfer ends.
unfoldable pub tick : Transfer → ℕ → ℕ → ℕ → Tick
tick old now wait tries =
    if old.ended then record { says = Rest; becomes = old } else
    (if nat_lt now (old.sent_at + wait) then record { says = Rest; becomes = old } else
    (if nat_lt old.sends tries then record { says = Resend old.block; becomes = resent old now } else
    record { says = Ended; becomes = over old }))
