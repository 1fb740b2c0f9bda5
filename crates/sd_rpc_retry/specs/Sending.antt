-- When a request was sent, and how often.
use Rattle.std.specs.Prelude.{◌≡◌, ◌⊎◌, ℕ, zero, suc, ◌+◌, ◌*◌, ◌-◌, ◌^◌, ◌<◌, ◌≤◌, min, List, [], ◌∷◌, replicate, Result, Ok, Err, Option}
use Rattle.std.specs.List.{AllByRecursion}
use Rattle.sd_link.specs.Link.{Moves}
use Rattle.sd_outside.specs.declared.errors.NoMemory.{NoMemory}
use Rattle.sd_outside.specs.declared.packet.Packet.{Packet}
use Rattle.sd_config.specs.declared.config.Config.{Config}
use Rattle.sd_link.specs.World.{World}
use Rattle.sd_link.specs.Steps.{Step, Send, History, after, world_of}
use Rattle.sd_link.specs.Parts.{sends_in}
use Rattle.sd_link.specs.Tries.{Hearing, flood_limit}
use Rattle.sd_rpc_retry.specs.declared.asking.Heard.{Heard}
use Rattle.sd_rpc_retry.specs.declared.asking.Heard.TheVariants as heard
use Rattle.sd_rpc_retry.specs.declared.asking.Asked.{Asked}
use Rattle.sd_rpc_retry.specs.declared.asking.Asked.TheVariants as asked
use Rattle.sd_rpc_retry.specs.declared.asking.Tally.{Tally}
use Rattle.sd_rpc_retry.specs.Asking.{IsSilent}

-- ---- over a link that tells

-- the ticks at which the client sends in these steps
abbrev pub send_ticks : Config → World → List Step → List ℕ
send_ticks c w [] = []
send_ticks c w (Send packet ∷ steps) = w.tick ∷ send_ticks c (after c w (Send packet)) steps
send_ticks c w (step ∷ steps) = send_ticks c (after c w step) steps

-- so many ticks: the first is this one, and each other one comes so long after the one before it
abbrev pub every : ℕ → ℕ → ℕ → List ℕ
every wait tick zero = []
every wait tick (suc count) = tick ∷ every wait (tick + wait) count

-- The client sends this packet so often, and nothing else: at once, and again each time that so many ticks have passed.
pub record SentEvery (packet : Packet) (wait count : ℕ) (old : History) (part : List Step) : Type 0 where
  pub packets : sends_in part ≡ replicate count packet
  pub ticks : send_ticks old.config (world_of old) part ≡ every wait (world_of old).tick count

-- all of so many sends went out, or all but the last
abbrev pub SentAbout : Packet → ℕ → ℕ → History → List Step → Type 0
SentAbout packet wait count old part =
    SentEvery packet wait count old part ⊎ ((fewer : ℕ) × (fewer + 1 ≡ count) × SentEvery packet wait fewer old part)

-- What was sent, by what came of it. Where the link failed or memory was wanting, the last send may not have gone out.
abbrev pub SentFor : {T : Type 0} → Packet → ℕ → ℕ → Result (Asked T) NoMemory → History → List Step → Type 0
SentFor packet wait count (Ok (asked.Answer x)) old part = SentEvery packet wait count old part
SentFor packet wait count (Ok asked.Timeout) old part = SentEvery packet wait count old part
SentFor packet wait count (Ok asked.Flood) old part = SentEvery packet wait count old part
SentFor packet wait count (Ok asked.Fault) old part = SentAbout packet wait count old part
SentFor packet wait count (Err none) old part = SentAbout packet wait count old part

-- the tick of the last of so many sends, of which the first is at once
abbrev pub IsLastOf : ℕ → Tally → History → Type 0
IsLastOf wait tally old = 0 < tally.sends → tally.last + wait ≡ (world_of old).tick + tally.sends * wait

pub record IsTallied {S T : Type 0} (packet : Packet) (h : Hearing S) (wait : ℕ) (tally : Tally) (what : Result (Asked T) NoMemory) (old : History) (part : List Step) : Type 0 where
  pub last : IsLastOf wait tally old
  pub sent : IsSilent h → SentFor packet wait tally.sends what old part

-- The link fails once where the answer is its fault, and else never.
abbrev pub asked_fails : {T : Type 0} → Result (Asked T) NoMemory → ℕ
asked_fails (Ok (asked.Answer x)) = 0
asked_fails (Ok asked.Timeout) = 0
asked_fails (Ok asked.Flood) = 0
asked_fails (Ok asked.Fault) = 1
asked_fails (Err none) = 0

abbrev pub IsAskedFault : {T : Type 0} → Asked T → Type 0
IsAskedFault asked = asked_fails (Ok asked) ≡ 1

-- ---- a wait, and one try

-- the same of these
abbrev pub heard_fails : {T : Type 0} → Result (Heard T) NoMemory → ℕ
heard_fails (Ok (heard.Found x)) = 0
heard_fails (Ok heard.Nothing) = 0
heard_fails (Ok heard.Flood) = 0
heard_fails (Ok heard.Fault) = 1
heard_fails (Err none) = 0

abbrev pub IsHeardFault : {T : Type 0} → Heard T → Type 0
IsHeardFault heard = heard_fails (Ok heard) ≡ 1

-- the client sends nothing but for what it gets
abbrev pub IsStill : {S : Type 0} → Hearing S → History → List Step → Type 0
IsStill h old part = IsSilent h → sends_in part ≡ []

-- it sends this at once, if at all, and then nothing more
abbrev pub SendsAtOnce : Packet → List Step → Type 0
SendsAtOnce packet part = (sends_in part ≡ []) ⊎ ((rest : List Step) × (part ≡ Send packet ∷ rest) × (sends_in rest ≡ []))

abbrev pub IsStillButFor : {S : Type 0} → Packet → Hearing S → History → List Step → Type 0
IsStillButFor packet h old part = IsSilent h → SendsAtOnce packet part

-- ---- whatever comes of it

-- of each packet that the client sends in these steps P holds
abbrev pub SendsOnly : (Packet → Type 0) → Option History → Option History → Type 0
SendsOnly P old new = Moves old new (λ h part. AllByRecursion P (sends_in part))

-- what is sent for some packet
abbrev pub IsReply : {S : Type 0} → Hearing S → Packet → Type 0
IsReply h sent = (packet : Packet) × (h.replies packet ≡ sent ∷ [])

-- the request, or what is sent for some packet
abbrev pub IsAsking : {S : Type 0} → Packet → Hearing S → Packet → Type 0
IsAsking request h sent = (sent ≡ request) ⊎ IsReply h sent

-- ---- over every link

-- The count rose so often. One that stands at the greatest u64 counts as risen.
abbrev pub RoseBy : ℕ → ℕ → ℕ → Type 0
RoseBy times before now = min (before + times) (2 ^ 64 - 1) ≤ now

-- how many packets were handed out for it
abbrev pub HandedFor : {T : Type 0} → Asked T → ℕ → ℕ → Type 0
HandedFor (asked.Answer x) before now = RoseBy 1 before now
HandedFor asked.Timeout before now = before ≤ now
HandedFor asked.Flood before now = RoseBy flood_limit before now
HandedFor asked.Fault before now = before ≤ now

abbrev pub HandedIn : {T : Type 0} → Heard T → ℕ → ℕ → Type 0
HandedIn (heard.Found x) before now = RoseBy 1 before now
HandedIn heard.Nothing before now = before ≤ now
HandedIn heard.Flood before now = RoseBy flood_limit before now
HandedIn heard.Fault before now = before ≤ now

-- how long it waited
abbrev pub WaitedFor : {T : Type 0} → ℕ → Asked T → ℕ → ℕ → Type 0
WaitedFor long (asked.Answer x) before now = before ≤ now
WaitedFor long asked.Timeout before now = before + long ≤ now
WaitedFor long asked.Flood before now = before ≤ now
WaitedFor long asked.Fault before now = before ≤ now

abbrev pub WaitedIn : {T : Type 0} → ℕ → Heard T → ℕ → Type 0
WaitedIn until (heard.Found x) now = Unit {0}
WaitedIn until heard.Nothing now = until ≤ now
WaitedIn until heard.Flood now = Unit {0}
WaitedIn until heard.Fault now = Unit {0}
