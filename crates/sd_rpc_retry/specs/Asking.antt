-- What one try of a request shows, and all of them.
use Rattle.std.specs.Prelude.{◌≡◌, ℕ, ◌<◌, ◌≤◌, List, [], ◌∷◌, length, Some, None}
use Rattle.sd_outside.specs.declared.packet.Packet.{Packet}
use Rattle.sd_link.specs.Steps.{Step, Send, History, world_of, whole_record, run}
use Rattle.sd_config.specs.Events.{fates_of}
use Rattle.sd_link.specs.Parts.{got_in, ticks_in}
use Rattle.sd_link.specs.Lawful.{SendsSettled}
use Rattle.sd_link.specs.Link.{NothingWaits, IsSettledBy}
use Rattle.sd_link.specs.Tries.{Hearing, AreUnmatched, RepliesAtOnce, EndsMatched, EndsWithPacket, Answered, Flooded, TimedOut, FailsToHear, FailsToAsk, Failed, flood_limit}
use Rattle.sd_rpc_retry.specs.Lasting.{StaysBefore}
use Rattle.sd_rpc_retry.specs.declared.asking.Look.{Look}
use Rattle.sd_rpc_retry.specs.declared.asking.Look.TheVariants.{Match, Reply, Other}
use Rattle.sd_rpc_retry.specs.declared.asking.Heard.{Heard}
use Rattle.sd_rpc_retry.specs.declared.asking.Heard.TheVariants as heard
use Rattle.sd_rpc_retry.specs.declared.asking.Asked.{Asked}
use Rattle.sd_rpc_retry.specs.declared.asking.Asked.TheVariants as asked

-- ---- a packet

-- what was made of a packet: what is found shows what the match gives
abbrev pub Looks : {S T : Type 0} → Hearing S → (T → S) → Packet → Look T → Type 0
Looks h shows packet (Match found) = (h.match packet ≡ Some (shows found)) × (h.replies packet ≡ [])
Looks h shows packet (Reply sent) = (h.match packet ≡ None) × (h.replies packet ≡ sent ∷ [])
Looks h shows packet Other = (h.match packet ≡ None) × (h.replies packet ≡ [])

abbrev pub IsNoMatch : {T : Type 0} → Look T → Type 0
IsNoMatch (Match found) = ⊥
IsNoMatch (Reply sent) = Unit {0}
IsNoMatch Other = Unit {0}

-- ---- which answers they are

abbrev pub IsNotFound : {T : Type 0} → Heard T → Type 0
IsNotFound (heard.Found x) = ⊥
IsNotFound heard.Nothing = Unit {0}
IsNotFound heard.Flood = Unit {0}
IsNotFound heard.Fault = Unit {0}

abbrev pub IsNoAnswer : {T : Type 0} → Asked T → Type 0
IsNoAnswer (asked.Answer x) = ⊥
IsNoAnswer asked.Timeout = Unit {0}
IsNoAnswer asked.Flood = Unit {0}
IsNoAnswer asked.Fault = Unit {0}

-- what was found is what some packet means
abbrev pub IsFound : {S T : Type 0} → Hearing S → (T → S) → Heard T → Type 0
IsFound h shows (heard.Found x) = (packet : Packet) × (h.match packet ≡ Some (shows x))
IsFound h shows heard.Nothing = Unit {0}
IsFound h shows heard.Flood = Unit {0}
IsFound h shows heard.Fault = Unit {0}

-- an answer is what some packet means
abbrev pub IsAnswer : {S T : Type 0} → Hearing S → (T → S) → Asked T → Type 0
IsAnswer h shows (asked.Answer x) = (packet : Packet) × (h.match packet ≡ Some (shows x))
IsAnswer h shows asked.Timeout = Unit {0}
IsAnswer h shows asked.Flood = Unit {0}
IsAnswer h shows asked.Fault = Unit {0}

-- ---- the steps after a send

-- the client sends at once what it sends for the packets that it gets, and nothing else
abbrev pub IsReplied : {S : Type 0} → Hearing S → List Step → Type 0
IsReplied h rest = RepliesAtOnce h.replies rest

abbrev pub Found : {S T : Type 0} → Hearing S → (T → S) → ℕ → Heard T → History → List Step → Type 0
Found h shows until (heard.Found x) old part = IsReplied h part × EndsMatched h.match (shows x) part × (length (got_in part) ≤ flood_limit)
Found h shows until heard.Nothing old part =
    IsReplied h part × AreUnmatched h.match (got_in part) × (until ≤ (run old.config (world_of old) part).tick) × (length (got_in part) < flood_limit) × IsSettledBy old part
Found h shows until heard.Flood old part = IsReplied h part × AreUnmatched h.match (got_in part) × (length (got_in part) ≡ flood_limit) × EndsWithPacket h.replies part
Found h shows until heard.Fault old part = FailsToHear h part × AreUnmatched h.match (got_in part)

-- what was heard until a tick
pub record Hears {S T : Type 0} (h : Hearing S) (shows : T → S) (until : ℕ) (what : Heard T) (old : History) (part : List Step) : Type 0 where
  pub ticks : StaysBefore until old part
  pub found : Found h shows until what old part

-- ---- one try

pub record IsTry {S : Type 0} (request : Packet) (h : Hearing S) (wait : ℕ) (ended : List Step → Type 0) (part : List Step) : Type 0 where
  pub rest : List Step
  pub cut : part ≡ Send request ∷ rest
  pub replied : IsReplied h rest
  pub short : ticks_in rest ≤ wait
  pub most : length (got_in rest) ≤ flood_limit
  pub ending : ended rest

-- a try in vain
pub record IsVain {S : Type 0} (h : Hearing S) (wait : ℕ) (rest : List Step) : Type 0 where
  pub unmatched : AreUnmatched h.match (got_in rest)
  pub waited : ticks_in rest ≡ wait
  pub calm : length (got_in rest) < flood_limit

-- a try that got a flood
pub record IsFlooded {S : Type 0} (h : Hearing S) (rest : List Step) : Type 0 where
  pub unmatched : AreUnmatched h.match (got_in rest)
  pub many : length (got_in rest) ≡ flood_limit
  pub ends : EndsWithPacket h.replies rest

-- a try in which the network failed
pub record IsFailed {S : Type 0} (request : Packet) (h : Hearing S) (wait : ℕ) (part : List Step) : Type 0 where
  pub failed : FailsToAsk request h part
  pub unmatched : AreUnmatched h.match (got_in part)
  pub short : ticks_in part ≤ wait

abbrev pub Tried : {S T : Type 0} → Packet → Hearing S → (T → S) → ℕ → Heard T → History → List Step → Type 0
Tried request h shows wait (heard.Found x) old part = IsTry request h wait (EndsMatched h.match (shows x)) part
Tried request h shows wait heard.Nothing old part = IsTry request h wait (IsVain h wait) part × IsSettledBy old part
Tried request h shows wait heard.Flood old part = IsTry request h wait (IsFlooded h) part
Tried request h shows wait heard.Fault old part = IsFailed request h wait part

-- ---- all tries

-- nothing is sent for a packet
abbrev pub IsSilent : {S : Type 0} → Hearing S → Type 0
IsSilent h = (packet : Packet) → h.replies packet ≡ []

-- the client sends only where nothing waits
abbrev pub SendsIn : History → List Step → Type 0
SendsIn old part = SendsSettled old.config (fates_of old.events) (world_of old) (whole_record old) part

-- what came of a request
abbrev pub Came : {S T : Type 0} → Packet → Hearing S → (T → S) → ℕ → ℕ → Asked T → History → List Step → Type 0
Came request h shows tries wait (asked.Answer x) old part = Answered (IsSettledBy old) request h tries wait (shows x) part
Came request h shows tries wait asked.Timeout old part = TimedOut (IsSettledBy old) request h tries wait part
Came request h shows tries wait asked.Flood old part = Flooded (IsSettledBy old) request h tries wait part
Came request h shows tries wait asked.Fault old part = Failed (IsSettledBy old) request h tries wait part

-- how the asking ended, where nothing waited at its start
abbrev pub EndsSettled : {T : Type 0} → Asked T → History → List Step → Type 0
EndsSettled (asked.Answer x) old part = SendsIn old part
EndsSettled asked.Timeout old part = SendsIn old part × IsSettledBy old part
EndsSettled asked.Flood old part = SendsIn old part
EndsSettled asked.Fault old part = Unit {0}

pub record IsAsked {S T : Type 0} (request : Packet) (h : Hearing S) (shows : T → S) (tries wait : ℕ) (what : Asked T) (old : History) (part : List Step) : Type 0 where
  pub came : Came request h shows tries wait what old part
  pub ended : IsSilent h → NothingWaits old → EndsSettled what old part
