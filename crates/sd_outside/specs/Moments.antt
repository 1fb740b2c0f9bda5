-- The moments of a disk in memory: what it held at each, from the changes that it keeps, and what a crash could leave there.
use Rattle.std.specs.Prelude.{◌≡◌, ℕ, ◌+◌, ◌%◌, ◌≤◌, List, [], ◌∷◌, length, replicate, take, get_or, Bool, true, false, Option, Some, None, ◌↔◌, if◌then◌else◌, ◌==◌}
use Rattle.sd_outside.specs.Ranges.{put}

-- the bytes, and which of them were written since the last sync
pub record State : Type 0 where
  pub bytes : List ℕ
  pub unsynced : List Bool

pub data Change : Type 0 where
  Write : (at : ℕ) (bytes : List ℕ) → Change
  Sync : Change

abbrev pub after : Change → State → State
after (Write at bytes) state = record { bytes = put at bytes state.bytes; unsynced = put at (replicate (length bytes) true) state.unsynced }
after Sync state = record { bytes = state.bytes; unsynced = replicate (length state.unsynced) false }

-- the state after some changes, the first of them first
abbrev pub replay : List Change → State → State
replay [] state = state
replay (change ∷ changes) state = replay changes (after change state)

-- What a crash may leave: each byte that was written since the last sync may be any, and the others stay.
pub record MayLeave (state : State) (image : List ℕ) : Type 0 where
  pub size : length image ≡ length state.bytes
  pub stays : (place : ℕ) → get_or state.unsynced place false ≡ false → get_or image place 0 ≡ get_or state.bytes place 0

-- which bytes were written since the last sync, and all bytes as they were then
pub record Unsynced : Type 0 where
  pub marks : List Bool
  pub synced : List ℕ

-- n bytes from a place on were written
abbrev pub marked : ℕ → ℕ → Unsynced → Unsynced
marked at n old = record old { marks = put at (replicate n true) old.marks }

-- all bytes are synced
abbrev pub all_synced : List ℕ → Unsynced
all_synced bytes = record { marks = replicate (length bytes) false; synced = bytes }

-- a crash may leave any bytes where something is unsynced, and leaves the others as they are
pub record LeavesUnsynced (bytes : List ℕ) (unsynced : Unsynced) (may_leave : List ℕ → Type 0) : Type 0 where
  pub marks_size : length unsynced.marks ≡ length bytes
  pub synced_size : length unsynced.synced ≡ length bytes
  pub each : (image : List ℕ) → may_leave image ↔ MayLeave (record { bytes = bytes; unsynced = unsynced.marks }) image

-- what it may have left at some moment, counted in the changes since the named one
abbrev pub MightHaveLeft : State → List Change → ℕ → List ℕ → Type 0
MightHaveLeft named changes since image = (moment : ℕ) × (since ≤ moment) × (moment ≤ length changes) × MayLeave (replay (take moment changes) named) image

-- what an outcome of a crash makes of an unsynced byte: old, new, new at even places and old at odd ones, or A5
abbrev pub pick : ℕ → ℕ → ℕ → ℕ → ℕ
pick outcome place old new =
    if outcome == 0 then old
    else if outcome == 1 then new
    else if outcome == 2 then (if place % 2 == 0 then new else old)
    else 0xa5

-- what it makes of the bytes from a place on
abbrev pub picked : ℕ → ℕ → List ℕ → List ℕ → List Bool → List ℕ
picked outcome place (old ∷ olds) (new ∷ news) (true ∷ marks) = pick outcome place old new ∷ picked outcome (place + 1) olds news marks
picked outcome place (old ∷ olds) (new ∷ news) (false ∷ marks) = new ∷ picked outcome (place + 1) olds news marks
picked outcome place [] news marks = []
picked outcome place (old ∷ olds) [] marks = []
picked outcome place (old ∷ olds) (new ∷ news) [] = []

-- what an outcome of a crash leaves of these bytes, where it is told which of them are unsynced; else they stay
abbrev pub crashed : ℕ → List ℕ → Option Unsynced → List ℕ
crashed outcome bytes None = bytes
crashed outcome bytes (Some unsynced) = picked outcome 0 unsynced.synced bytes unsynced.marks
