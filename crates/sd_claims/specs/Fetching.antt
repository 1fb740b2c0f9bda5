-- How a client fetches a file by TFTP (RFC 1350).
use Rattle.std.specs.Prelude.{◌≡◌, ◌⊎◌, ℕ, ◌==◌, ◌&&◌, List, [], ◌∷◌, ◌++◌, length, codes, Option, Some, None, Result, Ok, Err, true, false, if◌then◌else◌}
use Rattle.std.specs.List.{concat}
use Rattle.sd_outside.specs.declared.packet.Addr.{Addr}
use Rattle.sd_outside.specs.declared.packet.Packet.{Packet}
use Rattle.sd_outside.specs.declared.packet.Packet.TheVariants.{Frame, Udp}
use Rattle.sd_tftp.specs.declared.packet.TftpPacket.{TftpPacket}
use Rattle.sd_tftp.specs.declared.packet.TftpPacket.TheVariants.{Rrq, Ack, Error}
use Rattle.sd_tftp.specs.declared.packet.TftpError.{TftpError}
use Rattle.sd_tftp.specs.declared.step.Step.TheVariants as step
use Rattle.sd_tftp.specs.declared.step.Step as answers
use Rattle.sd_tftp.specs.Grammar.{packet_bytes, tftp_port}
use Rattle.sd_tftp.specs.Reading.{reading}
use Rattle.sd_tftp.specs.Reception.{Reception, fresh}
use Rattle.sd_tftp.specs.ReceiverTurn.{Turn, turn, ignored}
use Rattle.sd_link.specs.Steps.{Step, Send}
use Rattle.sd_link.specs.Tries.{Hearing, beyond, Answered, Flooded, TimedOut, Failed, FailsToSend}

-- what is fetched: by which address and port, from which address, under which name, and how patiently
pub record Fetch : Type 0 where
  pub me : Addr
  pub server : ℕ
  pub name : List ℕ
  pub tries : ℕ
  pub wait : ℕ

-- ---- what the client sends

-- a packet of the client's
abbrev pub tftp_from : Addr → Addr → TftpPacket → Packet
tftp_from me to packet = Udp me to (packet_bytes packet)

-- the request for the file, in mode octet
abbrev pub read_request : Fetch → Packet
read_request f = tftp_from f.me (record { ip = f.server; port = tftp_port }) (Rrq f.name (codes "octet"))

abbrev pub acknowledge : Addr → Addr → ℕ → Packet
acknowledge me to n = tftp_from me to (Ack n)

-- `Unknown transfer ID', with an empty message
abbrev pub turn_away : Addr → Addr → Packet
turn_away me to = tftp_from me to (Error 5 [])

-- What is sent until the next block comes: the request, or the ACK of the last block.
abbrev pub asked_by : Fetch → Reception → Option ℕ → Packet
asked_by f r None = read_request f
asked_by f r (Some port) = acknowledge f.me (record { ip = r.server; port = port }) (length r.blocks)

abbrev pub request_of : Fetch → Reception → Packet
request_of f r = asked_by f r r.peer

-- ---- what it makes of the packets that it gets

abbrev pub turn_by : Reception → Addr → Result TftpPacket TftpError → Turn
turn_by r from (Ok packet) = turn r from packet
turn_by r from (Err why) = ignored r

-- what a receiver does with a packet: nothing unless it is a datagram to its own address and port
abbrev pub turn_on : Addr → Reception → Packet → Turn
turn_on me r (Frame bytes) = ignored r
turn_on me r (Udp src dst body) = if (dst.ip == me.ip) && (dst.port == me.port) then turn_by r src (reading body) else ignored r

-- the awaited block and an ERROR that counts match
abbrev pub progress : answers.Step → Turn → Option Turn
progress (step.Took to n last) t = Some t
progress (step.Refused code) t = Some t
progress (step.Over got) t = Some t
progress (step.Again to n) t = None
progress (step.Stranger to) t = None
progress step.Ignored t = None

-- the last block once more is acknowledged once more, and a block of a stranger gets an ERROR
abbrev pub courtesy : Addr → answers.Step → List Packet
courtesy me (step.Again to n) = acknowledge me to n ∷ []
courtesy me (step.Stranger to) = turn_away me to ∷ []
courtesy me (step.Took to n last) = []
courtesy me (step.Refused code) = []
courtesy me (step.Over got) = []
courtesy me step.Ignored = []

abbrev pub fetch_hearing : Addr → Reception → Hearing Turn
fetch_hearing me r = record { match = λ packet. progress (turn_on me r packet).says (turn_on me r packet); replies = λ packet. courtesy me (turn_on me r packet).says }

-- ---- what comes of it

-- The next turn of the transfer comes within the tries of its request. The receiver takes a block from the server's address
-- alone, and every block after the first from the port of the first.
abbrev pub Brings : (List Step → Type 0) → Fetch → Reception → Turn → List Step → Type 0
Brings settled f r t part = Answered settled (request_of f r) (fetch_hearing f.me r) f.tries f.wait t part

-- A block that isn't the last came.
abbrev pub IsBlock : answers.Step → Type 0
IsBlock says = (to : Addr) × (n : ℕ) × (says ≡ step.Took to n false)

-- block after block came, none of them the last
pub data Takes (settled : List Step → Type 0) (f : Fetch) : List Step → Reception → Type 0 where
  takes_none : Takes settled f [] (fresh f.server)
  takes_block : (part more : List Step) (r : Reception) (t : Turn) → Takes settled f part r → Brings (beyond settled part) f r t more → IsBlock t.says → Takes settled f (part ++ more) t.becomes

-- the last block came and was acknowledged, and the joined blocks are these bytes
pub record Fetched (settled : List Step → Type 0) (f : Fetch) (bytes : List ℕ) (part : List Step) : Type 0 where
  pub before : List Step
  pub last : List Step
  pub taken : Reception
  pub final : Turn
  pub to : Addr
  pub number : ℕ
  pub takes : Takes settled f before taken
  pub brings : Brings (beyond settled before) f taken final last
  pub says : final.says ≡ step.Took to number true
  pub joined : bytes ≡ concat final.becomes.blocks
  pub cut : part ≡ before ++ (last ++ Send (acknowledge f.me to number) ∷ [])

-- after so many blocks this came
pub record Stops (settled : List Step → Type 0) (f : Fetch) (why : (List Step → Type 0) → Reception → List Step → Type 0) (part : List Step) : Type 0 where
  pub before : List Step
  pub last : List Step
  pub taken : Reception
  pub takes : Takes settled f before taken
  pub stopped : why (beyond settled before) taken last
  pub cut : part ≡ before ++ last

-- no block and no ERROR came within the tries of a request
abbrev pub FetchTimedOut : (List Step → Type 0) → Fetch → List Step → Type 0
FetchTimedOut settled f = Stops settled f (λ still r last. TimedOut still (request_of f r) (fetch_hearing f.me r) f.tries f.wait last)

-- a try got a flood
abbrev pub FetchFlooded : (List Step → Type 0) → Fetch → List Step → Type 0
FetchFlooded settled f = Stops settled f (λ still r last. Flooded still (request_of f r) (fetch_hearing f.me r) f.tries f.wait last)

-- the last block came, and its ACK couldn't be sent
pub record FailsToFinish (settled : List Step → Type 0) (f : Fetch) (r : Reception) (part : List Step) : Type 0 where
  pub block : List Step
  pub failed : List Step
  pub final : Turn
  pub to : Addr
  pub number : ℕ
  pub brings : Brings settled f r final block
  pub says : final.says ≡ step.Took to number true
  pub fails : FailsToSend (acknowledge f.me to number) failed
  pub cut : part ≡ block ++ failed

-- the network failed within the tries of a request, or at the ACK of the last block
abbrev pub FetchFailed : (List Step → Type 0) → Fetch → List Step → Type 0
FetchFailed settled f = Stops settled f (λ still r last. Failed still (request_of f r) (fetch_hearing f.me r) f.tries f.wait last ⊎ FailsToFinish still f r last)

-- an ERROR with this code came
abbrev pub FetchRefused : ℕ → (List Step → Type 0) → Fetch → List Step → Type 0
FetchRefused code settled f = Stops settled f (λ still r last. (t : Turn) × Brings still f r t last × (t.says ≡ step.Refused code))

-- the last number came and the file goes on; so many bytes came
abbrev pub FetchTooLarge : ℕ → (List Step → Type 0) → Fetch → List Step → Type 0
FetchTooLarge size settled f = Stops settled f (λ still r last. (t : Turn) × Brings still f r t last × (t.says ≡ step.Over size))
