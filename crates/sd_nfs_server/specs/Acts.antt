-- What an act on the store answers.
use Rattle.std.specs.Prelude.{◌≡◌, ◌⊎◌, ℕ, ◌≤◌, ◌==◌, ◌&&◌, not, is_some, List, Bool, true, false, Option, Some, None, IsSome}
use Rattle.sd_outside.specs.Causes.{Rose}
use Rattle.sd_stable_disk.specs.Files.{Stored, files, may_hold, IsEither}
use Rattle.sd_stable_disk.specs.declared.errors.OpenError.{OpenError}
use Rattle.sd_stable_disk.specs.declared.errors.OpenError.TheVariants.{DiskFault, NoMemory, Damaged, Version}
use Rattle.sd_nfs_server.specs.declared.acts.Acted.{Acted}

-- the image is refused at that place; its version stands at place 8
abbrev pub place_of : OpenError → Option ℕ
place_of DiskFault = None
place_of NoMemory = None
place_of (Damaged at) = Some at
place_of (Version got) = Some 8

-- the place that recovery refused, of a store that had to be brought up
abbrev pub damaged_in : Bool → Option OpenError → Option ℕ
damaged_in true refusal = None
damaged_in false None = None
damaged_in false (Some error) = place_of error

-- the store was down, and its recovery was refused
abbrev pub is_refused : Bool → Option OpenError → Bool
is_refused up refusal = not up && is_some refusal

-- a refusal of recovery
abbrev pub acted_of : OpenError → Acted
acted_of error = record { status = 5; damaged = place_of error }

abbrev pub is_done : Acted → Bool
is_done acted = acted.status == 0

-- a call of the disk failed
pub record IsFault (acted : Acted) : Type 0 where
  pub status : acted.status ≡ 5
  pub whole : acted.damaged ≡ None

-- The store was down, and holds the files that it held. A crash leaves them, or what one could leave before.
abbrev pub StayedDown : {D : Type 0} → (D → Option (List ℕ)) → (D → List ℕ → Type 0) → Stored D → Stored D → Type 0
StayedDown seen may_leave old new =
    (old.up ≡ false) × (files seen new ≡ files seen old)
    × ((left : Option (List (List ℕ))) → may_hold may_leave new left → may_hold may_leave old left ⊎ (left ≡ files seen old))

-- each crash leaves the files as they were, or with these bytes in one of them
abbrev pub LeavesEither : ℕ → ℕ → List ℕ → Option (List (List ℕ)) → (Option (List (List ℕ)) → Type 0) → Type 0
LeavesEither file at bytes old may_hold = (left : Option (List (List ℕ))) → may_hold left → IsEither file at bytes old left

-- A write that failed leaves one doubt at a time: where recovery was refused, what a crash could leave before; else the file before
-- or after this write.
abbrev pub LeavesOneDoubt : {D : Type 0} → (D → Option (List ℕ)) → (D → List ℕ → Type 0) → ℕ → ℕ → List ℕ → Stored D → Stored D → Bool → Type 0
LeavesOneDoubt seen may_leave file at bytes old new true = StayedDown seen may_leave old new
LeavesOneDoubt seen may_leave file at bytes old new false = LeavesEither file at bytes (files seen old) (may_hold may_leave new)

-- Why an act answers what it does, by the disk's count before and after it.
pub record HasReason (told : Type 0) (before now : ℕ) (acted : Acted) : Type 0 where
  pub status : (acted.status ≡ 0) ⊎ (acted.status ≡ 5)
  pub later : before ≤ now
  pub done : acted.status ≡ 0 → (now ≡ before) × (acted.damaged ≡ None)
  -- over a disk that tells what a read gives, 5 comes only with a fault that was counted
  pub counted : acted.status ≡ 5 → told → (acted.damaged ≡ None) × Rose before now
  -- over any disk, only with such a fault or a damaged image
  pub refused : acted.status ≡ 5 → Rose before now ⊎ IsSome acted.damaged
