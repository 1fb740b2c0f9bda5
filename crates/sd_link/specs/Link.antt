-- What each call of a link does to the history that it tells.
use Rattle.std.specs.Prelude.{◌≡◌, ◌⊎◌, ℕ, ◌+◌, ◌-◌, ◌^◌, ◌<◌, ◌≤◌, min, max, length, List, [], ◌∷◌, ◌++◌, Option, Some, None, Result, Ok, Err, IsErrOf, IfSome}
use Rattle.sd_outside.specs.declared.packet.Packet.{Packet}
use Rattle.sd_outside.specs.Causes.{Rose}
use Rattle.sd_link.specs.declared.link.LinkError.{LinkError}
use Rattle.sd_link.specs.declared.link.LinkError.TheVariants.{Failed, NoMemory}
use Rattle.sd_config.specs.declared.config.Config.{Config}
use Rattle.sd_link.specs.World.{World}
use Rattle.sd_config.specs.Events.{fates_of}
use Rattle.sd_config.specs.Plan.{plan_of}
use Rattle.sd_link.specs.Lawful.{AllGot, Settles, Rests, EndsAtRest}
use Rattle.sd_link.specs.Steps.{Step, Tick, Send, Get, Fail, History, after, run, record_of, AllAllowed, world_of, whole_record, IsLawfulSoFar}
use Rattle.sd_link.specs.Parts.{sends_in, got_in, fails_in}
use Rattle.sd_link.specs.Printing.{record_text}

-- The history goes on by this part, each of whose steps may happen where it stands, under the same configuration and events.
pub record GoesOn (old new : History) (part : List Step) : Type 0 where
  pub config : new.config ≡ old.config
  pub events : new.events ≡ old.events
  pub steps : new.steps ≡ old.steps ++ part
  pub allowed : AllAllowed old.config (world_of old) part

-- A link that tells goes on telling, and its history goes on by a part of which P holds.
abbrev pub Moves : Option History → Option History → (History → List Step → Type 0) → Type 0
Moves None None P = Unit {0}
Moves (Some old) (Some new) P = (part : List Step) × GoesOn old new part × P old part
Moves None (Some new) P = ⊥
Moves (Some old) None P = ⊥

-- no tick and no id passes this
abbrev pub last_tick : ℕ
last_tick = 2 ^ 62

-- Each step was one that may happen, and the world to which they lead is within these bounds.
pub record IsReached (h : History) : Type 0 where
  pub lawful : IsLawfulSoFar h
  pub tick : (world_of h).tick ≤ last_tick
  pub ids : length (world_of h).flight ≤ last_tick

-- the tick that a told history stands at
abbrev pub IsNow : Option History → ℕ → Type 0
IsNow told now = IfSome told (λ h. now ≡ (world_of h).tick)

-- A send: the packet goes into flight, and nothing else happens. One that failed is a failure, after the packet went out or without it.
abbrev pub Sends : Packet → Result (Unit {0}) LinkError → History → List Step → Type 0
Sends packet (Ok done) old part = part ≡ Send packet ∷ []
Sends packet (Err NoMemory) old part = part ≡ []
Sends packet (Err Failed) old part = (part ≡ Fail ∷ []) ⊎ (part ≡ Send packet ∷ Fail ∷ [])

-- each tick of the part begins before this one
abbrev pub TicksBefore : ℕ → Config → World → List Step → Type 0
TicksBefore until c w [] = Unit {0}
TicksBefore until c w (Tick ∷ steps) = (w.tick < until) × TicksBefore until c (after c w Tick) steps
TicksBefore until c w (step ∷ steps) = TicksBefore until c (after c w step) steps

-- nothing that is due to the client still waits
abbrev pub NothingWaits : History → Type 0
NothingWaits h = AllGot h.config (fates_of h.events) (world_of h) (whole_record h)

-- and so it is after this part
abbrev pub IsSettledBy : History → List Step → Type 0
IsSettledBy old part = Settles old.config (fates_of old.events) (world_of old) (whole_record old) part

-- the server and strangers are done with the tick at which the history stands
abbrev pub IsAtRest : History → Type 0
IsAtRest h = EndsAtRest h.config (plan_of h.events) h.steps

-- and so it is after this part
abbrev pub IsAtRestBy : History → List Step → Type 0
IsAtRestBy old part = Rests old.config (plan_of old.events) (run old.config (world_of old) part) (whole_record old ++ record_of old.config (world_of old) part)

-- What came of the waiting: a packet is got by the last step alone. None is got where none is handed out, and then the
-- tick is reached and nothing that is due still waits. Where the waiting failed, that is the last step.
abbrev pub Hands : ℕ → Result (Option Packet) LinkError → History → List Step → Type 0
Hands until (Ok (Some packet)) old part = (before : List Step) × (id : ℕ) × (part ≡ before ++ Get id packet ∷ []) × (got_in before ≡ [])
Hands until (Ok None) old part = (got_in part ≡ []) × (until ≤ (run old.config (world_of old) part).tick) × IsSettledBy old part
Hands until (Err Failed) old part = (before : List Step) × (part ≡ before ++ Fail ∷ []) × (got_in part ≡ [])
Hands until (Err NoMemory) old part = got_in part ≡ []

-- a receive that failed is one failure, and there is no other
abbrev pub failures : Result (Option Packet) LinkError → ℕ
failures (Ok handed) = 0
failures (Err Failed) = 1
failures (Err NoMemory) = 0

-- a wait until this tick: the client sends nothing, and no tick passes from then on
pub record Receives (until : ℕ) (result : Result (Option Packet) LinkError) (old : History) (part : List Step) : Type 0 where
  pub silent : sends_in part ≡ []
  pub ticks : TicksBefore until old.config (world_of old) part
  pub hands : Hands until result old part
  pub fails : fails_in part ≡ failures result

-- `Failed` comes only where the count of faults rose
pub record LinkCause {T : Type 0} (before now : ℕ) (result : Result T LinkError) : Type 0 where
  pub later : before ≤ now
  pub failed : IsErrOf result Failed → Rose before now

-- one more packet was handed out, until the count stands at the greatest u64
abbrev pub Counts : ℕ → ℕ → Result (Option Packet) LinkError → Type 0
Counts before now (Ok (Some packet)) = now ≡ max before (min (before + 1) (2 ^ 64 - 1))
Counts before now (Ok None) = now ≡ before
Counts before now (Err why) = now ≡ before

-- what a drain adds to the text is what it gave
abbrev pub Drains : List ℕ → List ℕ → List ℕ → List ℕ → Type 0
Drains old new text_old text_new = (added : List ℕ) × (new ≡ old ++ added) × (text_new ≡ text_old ++ added)

-- all that happened was drained, where it is told
abbrev pub IsDrained : Option History → List ℕ → Type 0
IsDrained told drained = IfSome told (λ h. drained ≡ record_text (whole_record h))
