-- What a sender does with a packet and at a tick (RFC 1350, sections 2, 4, 5 and 6; RFC 1123, section 4.2.3.1).
use Rattle.std.specs.Prelude.{◌≡◌, ◌≢◌, ℕ, ◌+◌, ◌<◌, ◌≤◌, ◌⊎◌, List, [], ◌∷◌, length, true, false}
use Rattle.sd_outside.specs.declared.packet.Addr.{Addr}
use Rattle.sd_tftp.specs.declared.packet.TftpPacket.{TftpPacket}
use Rattle.sd_tftp.specs.declared.packet.TftpPacket.TheVariants.{Ack, Error}
use Rattle.sd_tftp.specs.declared.step.SenderStep.{SenderStep}
use Rattle.sd_tftp.specs.declared.step.SenderStep.TheVariants.{Ignored, Stranger, Next, Done}
use Rattle.sd_tftp.specs.declared.step.SenderTick.{SenderTick}
use Rattle.sd_tftp.specs.declared.step.SenderTick.TheVariants.{Rest, Resend, Ended}
use Rattle.sd_tftp.specs.Blocks.{block_at, IsShort}
use Rattle.sd_tftp.specs.Transfer.{Transfer, IsDue, moved, resent, over}

-- It goes on, and this comes from its peer: the address and the port (section 4).
abbrev pub Hears : Transfer → Addr → Type 0
Hears old from = (old.ended ≡ false) × (from ≡ old.peer)

-- Its peer acknowledges the present block.
abbrev pub IsAcked : Transfer → Addr → TftpPacket → Type 0
IsAcked old from packet = Hears old from × (packet ≡ Ack old.block)

-- Section 5: an ERROR from its peer ends the transfer.
abbrev pub IsBroken : Transfer → Addr → TftpPacket → Type 0
IsBroken old from packet = Hears old from × ((code_no : ℕ) × (text : List ℕ) × (packet ≡ Error code_no text))

-- Section 2: the present block was acknowledged and is whole, so the next is sent.
abbrev pub IsNext : Transfer → Addr → TftpPacket → List ℕ → ℕ → Type 0
IsNext old from packet file n = IsAcked old from packet × (512 ≤ length (block_at file old.block)) × (n ≡ old.block + 1)

-- Section 6: the last block was acknowledged.
abbrev pub IsDone : Transfer → Addr → TftpPacket → List ℕ → Type 0
IsDone old from packet file = (IsAcked old from packet × IsShort (block_at file old.block)) ⊎ IsBroken old from packet

-- Section 4: anything but an ERROR from anyone else, who gets an ERROR 5. No ERROR is answered.
pub record IsStranger (old : Transfer) (from : Addr) (packet : TftpPacket) (to : Addr) : Type 0 where
  pub going : old.ended ≡ false
  pub other : from ≢ old.peer
  pub no_error : (code_no : ℕ) (text : List ℕ) → packet ≢ Error code_no text
  pub to_is : to ≡ from

-- This answer fits the packet.
abbrev pub Fits : Transfer → Addr → TftpPacket → List ℕ → SenderStep → Type 0
Fits old from packet file Ignored = ⊥
Fits old from packet file (Stranger to) = IsStranger old from packet to
Fits old from packet file (Next n) = IsNext old from packet file n
Fits old from packet file Done = IsDone old from packet file

-- What it answers to a packet, and what it is then. All else is ignored: where no other answer fits.
abbrev pub Sends : Transfer → ℕ → Addr → TftpPacket → List ℕ → SenderStep → Transfer → Type 0
Sends old now from packet file Ignored new = (new ≡ old) × ((says : SenderStep) → Fits old from packet file says → ⊥)
Sends old now from packet file (Stranger to) new = (new ≡ old) × IsStranger old from packet to
Sends old now from packet file (Next n) new = (new ≡ moved old now) × IsNext old from packet file n
Sends old now from packet file Done new = (new ≡ over old) × IsDone old from packet file

-- What it answers at a tick, and what it is then: a block that is due is sent again, and after `tries` sends the transfer ends.
abbrev pub Ticks : Transfer → ℕ → ℕ → ℕ → SenderTick → Transfer → Type 0
Ticks old now wait tries Rest new = (new ≡ old) × ((old.ended ≡ true) ⊎ (now < old.sent_at + wait))
Ticks old now wait tries (Resend n) new = (new ≡ resent old now) × (old.ended ≡ false) × IsDue old.sent_at wait now × (old.sends < tries) × (n ≡ old.block)
Ticks old now wait tries Ended new = (new ≡ over old) × (old.ended ≡ false) × IsDue old.sent_at wait now × (tries ≤ old.sends)

-- the block that an answer sends
abbrev pub sent_by : SenderStep → List ℕ
sent_by (Next n) = n ∷ []
sent_by Ignored = []
sent_by (Stranger to) = []
sent_by Done = []
