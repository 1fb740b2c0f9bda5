-- What the parts of a disk in memory keep.
use Rattle.std.specs.Prelude.{◌≡◌, ◌⊎◌, ℕ, ◌+◌, ◌<◌, ◌≤◌, List, length, get_or, Bool, false}
use Rattle.sd_outside.specs.Moments.{State, Change}
use Rattle.sd_outside.specs.Moments.Change.{Write, Sync}
use Rattle.sd_outside.specs.declared.range.Span.{Span}

-- the bytes of a disk with those that are unsynced, and the bytes at the last sync
pub record SurfaceView : Type 0 where
  pub state : State
  pub synced : List ℕ

-- what a disk held at the named moment, and the changes since
pub record HistoryView : Type 0 where
  pub named : State
  pub changes : List Change

abbrev pub Outside : Span → ℕ → Type 0
Outside span place = (place < span.start) ⊎ (span.end ≤ place)

-- the change doesn't write that place
abbrev pub Spares : ℕ → Change → Type 0
Spares place (Write at bytes) = (place < at) ⊎ (at + length bytes ≤ place)
Spares place Sync = Unit {0}

abbrev pub SparedBy : ℕ → List Change → ℕ → Type 0
SparedBy n changes place = (k : ℕ) → k < n → Spares place (get_or changes k Sync)

-- where the change ends
abbrev pub end_of : Change → ℕ
end_of (Write at bytes) = at + length bytes
end_of Sync = 0

-- the changes lie in a disk of that length
abbrev pub AllFit : ℕ → List Change → Type 0
AllFit size changes = (k : ℕ) → k < length changes → end_of (get_or changes k Sync) ≤ size

-- A list was made equal to another, but for some places that were left alone.
pub record Refreshed {A : Type 0} (left : ℕ → Type 0) (from old new : List A) : Type 0 where
  pub size : length new ≡ length old
  pub each : (place : ℕ) (d : A) → (get_or new place d ≡ get_or from place d) ⊎ (left place × (get_or new place d ≡ get_or old place d))

-- All that is unsynced lies in the span. The other bytes are those of the last sync.
pub record IsSurface (bytes synced : List ℕ) (unsynced : List Bool) (dirty : Span) : Type 0 where
  pub synced_size : length synced ≡ length bytes
  pub unsynced_size : length unsynced ≡ length bytes
  pub ordered : dirty.start ≤ dirty.end
  pub inside : dirty.end ≤ length bytes
  pub covered : (place : ℕ) → Outside dirty place → get_or unsynced place false ≡ false
  pub clean : (place : ℕ) → get_or unsynced place false ≡ false → get_or synced place 0 ≡ get_or bytes place 0

-- Two states differ at no place that the changes spare and that lies outside of the span.
pub record Near (changes : List Change) (span : Span) (one other : State) : Type 0 where
  pub size : length one.bytes ≡ length other.bytes
  pub unsynced_size : length one.unsynced ≡ length other.unsynced
  pub bytes : (place : ℕ) → SparedBy (length changes) changes place → Outside span place → get_or one.bytes place 0 ≡ get_or other.bytes place 0
  pub unsynced : (place : ℕ) → SparedBy (length changes) changes place → Outside span place → get_or one.unsynced place false ≡ get_or other.unsynced place false
