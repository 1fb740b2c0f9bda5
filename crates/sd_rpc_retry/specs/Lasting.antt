-- How long a call lasts, and how often the link fails in it, whatever comes of it.
use Rattle.std.specs.Prelude.{◌≡◌, ℕ, ◌≤◌, List, Option}
use Rattle.sd_link.specs.Steps.{Step, History, world_of}
use Rattle.sd_link.specs.Parts.{ticks_in, fails_in}
use Rattle.sd_link.specs.Link.{TicksBefore, Moves}

-- no tick passes from this one on
abbrev pub StaysBefore : ℕ → History → List Step → Type 0
StaysBefore until old part = TicksBefore until old.config (world_of old) part

-- a link that tells goes on telling, and at most so many ticks pass
abbrev pub Lasts : ℕ → Option History → Option History → Type 0
Lasts most old new = Moves old new (λ h part. ticks_in part ≤ most)

-- a link that tells goes on telling, and fails so often
abbrev pub Fails : ℕ → Option History → Option History → Type 0
Fails count old new = Moves old new (λ h part. fails_in part ≡ count)

-- the most ticks that a request lasts: 64 tries of 1,000
abbrev pub most_asking_ticks : ℕ
most_asking_ticks = 64000
