-- All that came to a receiver, and all that happened to a sender.
use Rattle.std.specs.Prelude.{◌≡◌, ℕ, zero, suc, ◌+◌, List, [], ◌∷◌, ◌++◌}
use Rattle.sd_outside.specs.declared.packet.Addr.{Addr}
use Rattle.sd_tftp.specs.declared.packet.TftpPacket.{TftpPacket}
use Rattle.sd_tftp.specs.declared.packet.TftpPacket.TheVariants.{Block}
use Rattle.sd_tftp.specs.declared.step.Step.{Step}
use Rattle.sd_tftp.specs.declared.step.SenderStep.{SenderStep}
use Rattle.sd_tftp.specs.declared.step.SenderTick.{SenderTick}
use Rattle.sd_tftp.specs.Blocks.{block_at}
use Rattle.sd_tftp.specs.Reception.{Reception, fresh}
use Rattle.sd_tftp.specs.Receiving.{Receives}
use Rattle.sd_tftp.specs.Transfer.{Transfer, begun}
use Rattle.sd_tftp.specs.Sending.{Sends, Ticks, sent_by}

abbrev pub Arrival : Type 0
Arrival = Addr × TftpPacket

-- A receiver of the server at this address is so after these packets came to it, the first of them first.
pub data Run (ip : ℕ) : List Arrival → Reception → Type 0 where
  run_begins : Run ip [] (fresh ip)
  run_goes_on : {arrivals : List Arrival} {old : Reception} {new : Reception} → Run ip arrivals old → (from : Addr) (packet : TftpPacket) (says : Step)
      → Receives old from packet says new → Run ip (arrivals ++ (from, packet) ∷ []) new

-- Some of the packets that came, in the order in which they came, are the blocks of these bytes: numbered one by one from a number
-- on, all from one address and port.
pub data Holds (source : Addr) : ℕ → List Arrival → List (List ℕ) → Type 0 where
  holds_none : {n : ℕ} (arrivals : List Arrival) → Holds source n arrivals []
  holds_block : {n : ℕ} {arrivals : List Arrival} {later : List (List ℕ)} (from : Addr) (body : List ℕ) → from.ip ≡ source.ip → from.port ≡ source.port
      → Holds source (n + 1) arrivals later → Holds source n ((from, Block n body) ∷ arrivals) (body ∷ later)
  holds_other : {n : ℕ} {arrivals : List Arrival} {bodies : List (List ℕ)} (a : Arrival) → Holds source n arrivals bodies → Holds source n (a ∷ arrivals) bodies

-- Each block that came from this address is the file's block with its number.
abbrev pub Carries : List ℕ → ℕ → List Arrival → Type 0
Carries file ip [] = Unit {0}
Carries file ip (a ∷ later) = (a.0.ip ≡ ip → (n : ℕ) (body : List ℕ) → a.1 ≡ Block n body → body ≡ block_at file n) × Carries file ip later

-- A sender that began so is so after packets and ticks came to it, and these are the blocks that it sent for a packet.
pub data Course (to : Addr) (start : ℕ) : List ℕ → Transfer → Type 0 where
  course_begins : Course to start [] (begun to start)
  course_packet : {sent : List ℕ} {old : Transfer} {new : Transfer} → Course to start sent old → (now : ℕ) (from : Addr) (packet : TftpPacket) (file : List ℕ) (says : SenderStep)
      → Sends old now from packet file says new → Course to start (sent ++ sent_by says) new
  course_tick : {sent : List ℕ} {old : Transfer} {new : Transfer} → Course to start sent old → (now wait tries : ℕ) (says : SenderTick)
      → Ticks old now wait tries says new → Course to start sent new

-- so many numbers, from this one on
abbrev pub numbers : ℕ → ℕ → List ℕ
numbers n zero = []
numbers n (suc k) = n ∷ numbers (n + 1) k
