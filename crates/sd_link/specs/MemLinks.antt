-- What a link in memory holds, and what its calls do to it.
use Rattle.std.specs.Prelude.{◌≡◌, ◌⊎◌, ℕ, ◌+◌, ◌-◌, ◌^◌, ◌<◌, ◌≤◌, min, max, List, [], ◌∷◌, Contains}
use Rattle.sd_outside.specs.declared.packet.Packet.{Packet}
use Rattle.sd_link.specs.Link.{last_tick}

pub record MemLinkView : Type 0 where
  -- the packets that are left, in order, each with the tick from which it is handed out
  pub inbox : List (ℕ × Packet)
  -- the present tick
  pub tick : ℕ
  -- the numbers of the calls of send and recv that are planned to fail, counted from 0
  pub fail : List ℕ
  -- how many of these calls were made
  pub calls : ℕ
  -- how many of them failed
  pub faults : ℕ
  -- how many packets were handed out
  pub handed : ℕ

-- one more; a count stands still at the greatest u64
abbrev pub one_more : ℕ → ℕ
one_more count = min (count + 1) (2 ^ 64 - 1)

-- the next call is planned to fail
abbrev pub IsPlanned : MemLinkView → Type 0
IsPlanned link = Contains link.fail link.calls

-- where a waiting until this tick ends: at the tick of the first packet, unless that is later
abbrev pub ending : ℕ → List (ℕ × Packet) → ℕ
ending until [] = until
ending until (first ∷ rest) = min until first.0

-- a waiting fails where that was planned, or where it would need a tick past the last
abbrev pub FailsToWait : ℕ → MemLinkView → Type 0
FailsToWait until link = IsPlanned link ⊎ (last_tick < ending until link.inbox)

-- a call that failed does nothing
abbrev pub failed : MemLinkView → MemLinkView
failed link = record link { calls = one_more link.calls; faults = one_more link.faults }

-- a packet was sent
abbrev pub sent : MemLinkView → MemLinkView
sent link = record link { calls = one_more link.calls }

-- the first packet that is left was handed out: its tick is this one at most, and it is reached
pub record HandedOut (until : ℕ) (old new : MemLinkView) (packet : Packet) : Type 0 where
  pub tick : ℕ
  pub rest : List (ℕ × Packet)
  pub first : old.inbox ≡ (tick, packet) ∷ rest
  pub due : tick ≤ until
  pub becomes : new ≡ record old { inbox = rest; tick = max old.tick tick; calls = one_more old.calls; handed = one_more old.handed }

-- no packet that is left comes first until this tick
abbrev pub NoneIsDue : ℕ → List (ℕ × Packet) → Type 0
NoneIsDue until [] = Unit {0}
NoneIsDue until (first ∷ rest) = until < first.0

-- the first packet was taken out at this tick
pub record IsTaken (until : ℕ) (old new : MemLinkView) (packet : Packet) : Type 0 where
  pub tick : ℕ
  pub rest : List (ℕ × Packet)
  pub first : old.inbox ≡ (tick, packet) ∷ rest
  pub due : tick ≤ until
  pub becomes : new ≡ record old { inbox = rest; handed = one_more old.handed }

-- nothing came until this tick, which is reached
pub record WaitedOut (until : ℕ) (old new : MemLinkView) : Type 0 where
  pub none : NoneIsDue until old.inbox
  pub becomes : new ≡ record old { tick = max old.tick until; calls = one_more old.calls }
