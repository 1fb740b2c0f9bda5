-- What holds of packets, receivers and senders. The functions of src/laws.rt have these as their contracts.
use Rattle.std.specs.Prelude.{◌≡◌, ◌≢◌, ℕ, ◌+◌, ◌-◌, ◌⊎◌, ◌↔◌, ◌≤◌, List, [], ◌++◌, ◌∷◌, length, Ok, Err, false}
use Rattle.std.specs.List.{concat}
use Rattle.sd_outside.specs.Bytes.{IsBytes}
use Rattle.sd_outside.specs.declared.packet.Addr.{Addr}
use Rattle.sd_tftp.specs.declared.packet.TftpPacket.{TftpPacket}
use Rattle.sd_tftp.specs.declared.packet.TftpPacket.TheVariants.{Ack}
use Rattle.sd_tftp.specs.declared.packet.TftpError.{TftpError}
use Rattle.sd_tftp.specs.declared.step.Step.{Step}
use Rattle.sd_tftp.specs.declared.step.SenderStep.{SenderStep}
use Rattle.sd_tftp.specs.declared.step.SenderTick.{SenderTick}
use Rattle.sd_tftp.specs.Grammar.{Spells, Refuses, packet_bytes, HasSpelling, IsInRange}
use Rattle.sd_tftp.specs.Reading.{reading}
use Rattle.sd_tftp.specs.Blocks.{block_at, last_block, longest_file, AreBlocksOf, AreWhole, IsShort, EndsShort}
use Rattle.sd_tftp.specs.Reception.{Reception}
use Rattle.sd_tftp.specs.Receiving as receiving
use Rattle.sd_tftp.specs.Receiving.{Receives}
use Rattle.sd_tftp.specs.ReceiverTurn as receiver
use Rattle.sd_tftp.specs.Runs.{Arrival, Run, Holds, Carries, Course, numbers}
use Rattle.sd_tftp.specs.Transfer.{Transfer}
use Rattle.sd_tftp.specs.Sending.{Sends, Ticks, sent_by}
use Rattle.sd_tftp.specs.SenderTurn as sender

-- ---- packets

-- What bytes spell is read, and why they spell none is answered: reading by places is the grammar.
abbrev pub ReadingIsTheGrammar : Type 0
ReadingIsTheGrammar = (bs : List ℕ) → IsBytes bs →
    ((packet : TftpPacket) → Spells bs packet ↔ (reading bs ≡ Ok packet)) × ((e : TftpError) → Refuses bs e ↔ (reading bs ≡ Err e))

-- Bytes spell a packet or are refused.
abbrev pub EitherWay : Type 0
EitherWay = (bs : List ℕ) → IsBytes bs → ((packet : TftpPacket) × Spells bs packet) ⊎ ((e : TftpError) × Refuses bs e)

-- Bytes spell one packet, or are refused for one reason, and never both.
abbrev pub OnePacket : Type 0
OnePacket = (bs : List ℕ) (p q : TftpPacket) → Spells bs p → Spells bs q → p ≡ q

abbrev pub OneRefusal : Type 0
OneRefusal = (bs : List ℕ) (d e : TftpError) → Refuses bs d → Refuses bs e → d ≡ e

abbrev pub NeverBoth : Type 0
NeverBoth = (bs : List ℕ) (packet : TftpPacket) (e : TftpError) → Spells bs packet → Refuses bs e → ⊥

-- What is written for a packet is read as that packet, and as no other.
abbrev pub WrittenIsRead : Type 0
WrittenIsRead = (p q : TftpPacket) → HasSpelling p → IsInRange p → Spells (packet_bytes p) q ↔ (q ≡ p)

-- What is read has a spelling.
abbrev pub ReadHasSpelling : Type 0
ReadHasSpelling = (bs : List ℕ) (packet : TftpPacket) → Spells bs packet → HasSpelling packet × IsInRange packet

-- ---- files

-- The blocks of a file, from block 1 to one that is short, are the file.
abbrev pub BlocksAreTheFile : Type 0
BlocksAreTheFile = (file : List ℕ) (blocks : List (List ℕ)) → AreBlocksOf file 1 blocks → EndsShort blocks → concat blocks ≡ file

-- A file's blocks with one block more, which is the file's at the next number.
abbrev pub OneMoreBlock : Type 0
OneMoreBlock = (file : List ℕ) (n : ℕ) (blocks : List (List ℕ)) (body : List ℕ) →
    AreBlocksOf file n blocks → body ≡ block_at file (n + length blocks) → AreBlocksOf file n (blocks ++ body ∷ [])

-- The short blocks of a file are the last and all behind it. Its number has two bytes.
abbrev pub ShortFromTheLast : Type 0
ShortFromTheLast = (file : List ℕ) (n : ℕ) → 1 ≤ n → IsShort (block_at file n) ↔ (last_block file ≤ n)

abbrev pub NumbersSuffice : Type 0
NumbersSuffice = (file : List ℕ) → length file ≤ longest_file → last_block file ≤ 65535

-- ---- receivers

-- One answer fits a packet.
abbrev pub OneAnswer : Type 0
OneAnswer = (old : Reception) (from : Addr) (packet : TftpPacket) (s t : Step) → receiving.Fits old from packet s → receiving.Fits old from packet t → s ≡ t

-- Each packet has its answer, which leaves one receiver.
abbrev pub ReceivingIsTurn : Type 0
ReceivingIsTurn = (old : Reception) (from : Addr) (packet : TftpPacket) (says : Step) (new : Reception) →
    Receives old from packet says new ↔ ((says ≡ (receiver.turn old from packet).says) × (new ≡ (receiver.turn old from packet).becomes))

-- Whatever packets come to a receiver, the blocks that it took are blocks 1 to k of these packets, in this order, each once, and
-- all from one port of the server.
abbrev pub TakenInOrder : Type 0
TakenInOrder = (ip : ℕ) (arrivals : List Arrival) (now : Reception) → Run ip arrivals now →
    (port : ℕ) × Holds (let a : Addr = record { ip = ip; port = port } in a) 1 arrivals now.blocks

-- Until a receiver ends, each block that it took is whole. So a short one is its last.
abbrev pub WholeUntilTheEnd : Type 0
WholeUntilTheEnd = (ip : ℕ) (arrivals : List Arrival) (now : Reception) → Run ip arrivals now → now.ended ≡ false → AreWhole now.blocks

-- Where each block from the server is the file's, and a short one was taken, what was taken is the file.
abbrev pub TakenIsTheFile : Type 0
TakenIsTheFile = (file : List ℕ) (ip : ℕ) (arrivals : List Arrival) (now : Reception) → Run ip arrivals now → Carries file ip arrivals →
    AreBlocksOf file 1 now.blocks × (EndsShort now.blocks → concat now.blocks ≡ file)

-- ---- senders

-- Each packet has its answer, which leaves one sender, and so has each tick.
abbrev pub SendingIsTurn : Type 0
SendingIsTurn = (old : Transfer) (now : ℕ) (from : Addr) (packet : TftpPacket) (file : List ℕ) (says : SenderStep) (new : Transfer) →
    Sends old now from packet file says new ↔ ((says ≡ (sender.turn old now from packet file).says) × (new ≡ (sender.turn old now from packet file).becomes))

abbrev pub TicksIsTick : Type 0
TicksIsTick = (old : Transfer) (now wait tries : ℕ) (says : SenderTick) (new : Transfer) →
    Ticks old now wait tries says new ↔ ((says ≡ (sender.tick old now wait tries).says) × (new ≡ (sender.tick old now wait tries).becomes))

-- No sorcerer's apprentice (RFC 1123, section 4.2.3.1): an ACK of another block than the present one sends nothing and changes nothing.
abbrev pub OldAckNeverSends : Type 0
OldAckNeverSends = (old : Transfer) (now : ℕ) (from : Addr) (n : ℕ) (file : List ℕ) (says : SenderStep) (new : Transfer) →
    Sends old now from (Ack n) file says new → n ≢ old.block → (sent_by says ≡ []) × (new ≡ old)

-- Whatever comes to a sender, and however often, the blocks that it sends for a packet are 2, 3, .., each once.
abbrev pub EachBlockOnce : Type 0
EachBlockOnce = (to : Addr) (start : ℕ) (sent : List ℕ) (now : Transfer) → Course to start sent now →
    (sent ≡ numbers 2 (now.block - 1)) × (1 ≤ now.block) × (now.peer ≡ to)
