-- The faults that are planned for a disk, its stop and its room.
use Rattle.std.specs.Prelude.{◌≡◌, ◌⊎◌, ℕ, Bool, ◌+◌, ◌-◌, ◌<◌, ◌≤◌, List, length, Option, Some, None, if◌then◌else◌, IsSomeAnd, IsTrue, ◌↔◌}
use Rattle.std.specs.Option.{option_map}
use Rattle.sd_outside.specs.Plan.{later}

pub record Plan : Type 0 where
  -- for each change that is planned to fail, how many changes come before it
  pub changes : List ℕ
  -- the same of reads
  pub reads : List ℕ
  -- where one is set, how many changes it still lets pass
  pub stop : Option ℕ
  -- how many changes can still be kept
  pub room : ℕ

-- so many changes and reads were made
pub record Uses (changes reads : ℕ) (old new : Plan) : Type 0 where
  pub changes_left : new.changes ≡ later changes old.changes
  pub reads_left : new.reads ≡ later reads old.reads
  pub stop_left : new.stop ≡ option_map (λ n. n - changes) old.stop
  pub room_left : old.room ≤ new.room + changes
  pub room_kept : new.room ≤ old.room

-- a number was taken out of one of the lists
abbrev pub TakesNumber : Plan → Plan → Type 0
TakesNumber old new = length new.changes + length new.reads < length old.changes + length old.reads

-- the stop refuses one of so many changes, or there is no room for one
abbrev pub Refuses : ℕ → Plan → Type 0
Refuses n plan = IsSomeAnd plan.stop (λ left. left < n) ⊎ (plan.room < n)

-- both are told, and related, or none is told
abbrev pub Both : {A : Type 0} → (A → A → Type 0) → Option A → Option A → Type 0
Both R None None = Unit {0}
Both R None (Some new) = ⊥
Both R (Some old) None = ⊥
Both R (Some old) (Some new) = R old new

-- Calls made at most so many changes and reads, and a fault came only where a number was taken out of a list,
-- unless the stop refused a change or there was no room.
pub record Makes (most_changes most_reads : ℕ) (failed : Type 0) (old new : Plan) : Type 0 where
  pub changes : ℕ
  pub reads : ℕ
  pub few_changes : changes ≤ most_changes
  pub few_reads : reads ≤ most_reads
  pub uses : Uses changes reads old new
  pub planned : failed → TakesNumber old new ⊎ Refuses changes old

-- more bytes than a disk keeps of one write, at a disk that tells its crashes
abbrev pub TooLong : Bool → ℕ → Type 0
TooLong tells bytes = IsTrue tells × (8256 < bytes)

-- One change or read of a disk. It fails exactly where a number was taken out of a list, the stop refuses it, there is no
-- room for it, or it is too long.
pub record Answers (changes reads : ℕ) (too_long failed : Type 0) (old new : Plan) : Type 0 where
  pub uses : Uses changes reads old new
  pub fails : failed ↔ (TakesNumber old new ⊎ Refuses changes old ⊎ too_long)

-- a moment was named: there is room for at least 64 changes
pub record Begins (old new : Plan) : Type 0 where
  pub changes : new.changes ≡ old.changes
  pub reads : new.reads ≡ old.reads
  pub stop : new.stop ≡ old.stop
  pub room : 64 ≤ new.room

-- a stop was set, at a disk that tells its crashes
pub record Stops (tells : Bool) (passes : ℕ) (old new : Plan) : Type 0 where
  pub changes : new.changes ≡ old.changes
  pub reads : new.reads ≡ old.reads
  pub room : new.room ≡ old.room
  pub stop : new.stop ≡ (if tells then Some passes else old.stop)

-- the stop was taken away
pub record Restarts (old new : Plan) : Type 0 where
  pub changes : new.changes ≡ old.changes
  pub reads : new.reads ≡ old.reads
  pub stop : new.stop ≡ None
