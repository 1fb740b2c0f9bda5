-- A store as its callers see it: files, and what a crash leaves of them.
use Rattle.std.specs.Prelude.{◌≡◌, ◌⊎◌, ℕ, ◌+◌, ◌≤◌, List, length, Bool, true, false, Option, IfSome, IsSomeAnd, IsOk, Ok, Err}
use Rattle.std.specs.Option.{option_and_then, option_map}
use Rattle.sd_outside.specs.Ranges.{part}
use Rattle.sd_outside.specs.Causes.{Rose}
use Rattle.sd_outside.specs.Disk.{Only}
use Rattle.sd_stable_disk.specs.Image.{sizes_told, opens, held, total, is_open, written, AreSizes}
use Rattle.sd_stable_disk.specs.declared.errors.OpenError.{OpenError}
use Rattle.sd_stable_disk.specs.declared.errors.OpenError.TheVariants.{DiskFault, NoMemory, Damaged, Version}

-- a store: its disk, the sizes of its files, whether it is up, and what the latest recovery was refused for, if it was
pub record Stored (D : Type 0) : Type 0 where
  pub disk : D
  pub sizes : List ℕ
  pub up : Bool
  pub refusal : Option OpenError

-- the files, where the disk tells what a read gives
abbrev pub files : {D : Type 0} → (D → Option (List ℕ)) → Stored D → Option (List (List ℕ))
files seen store = option_and_then held (seen store.disk)

-- what a crash now may leave: files, or an image that is refused
abbrev pub may_hold : {D : Type 0} → (D → List ℕ → Type 0) → Stored D → Option (List (List ℕ)) → Type 0
may_hold may_leave store left = (image : List ℕ) × may_leave store.disk image × (held image ≡ left)

-- what a crash since a moment might have left
abbrev pub held_since : {D : Type 0} → (D → ℕ → List ℕ → Type 0) → Stored D → ℕ → Option (List (List ℕ)) → Type 0
held_since left_since store since left = (image : List ℕ) × left_since store.disk since image × (held image ≡ left)

-- an outcome of a crash holds the files, as they were or with these bytes in one of them
abbrev pub IsEither : ℕ → ℕ → List ℕ → Option (List (List ℕ)) → Option (List (List ℕ)) → Type 0
IsEither file at bytes old left = (left ≡ old) ⊎ (left ≡ option_map (written file at bytes) old)

-- each crash now leaves these files
abbrev pub OnlyHolds : Option (List (List ℕ)) → (Option (List (List ℕ)) → Type 0) → Type 0
OnlyHolds files may_hold = (left : Option (List (List ℕ))) → may_hold left → left ≡ files

-- the image opens as what a read gave
abbrev pub OpensAs : Option (List ℕ) → List ℕ → Type 0
OpensAs seen image = IsSomeAnd seen (λ old. opens image ≡ opens old)

-- what a read gives tells these sizes
abbrev pub TellsSizes : Option (List ℕ) → List ℕ → Type 0
TellsSizes seen sizes = IfSome seen (λ image. sizes_told (length image) (part 0 512 image) ≡ Ok sizes)

abbrev pub IsShut : Option (List ℕ) → Type 0
IsShut seen = IfSome seen (λ image. is_open image ≡ false)

-- what a read gives is refused for this, where that is what is said
abbrev pub IsRefused : Option (List ℕ) → OpenError → Type 0
IsRefused seen DiskFault = Unit {0}
IsRefused seen NoMemory = Unit {0}
IsRefused seen (Damaged at) = IfSome seen (λ image. opens image ≡ Err (Damaged at))
IsRefused seen (Version got) = IfSome seen (λ image. opens image ≡ Err (Version got))

-- a disk fault comes only where the count rose, and what else is answered leaves it
pub record HasFault (before now : ℕ) (fails : Type 0) : Type 0 where
  pub later : before ≤ now
  pub calm : (fails → ⊥) → now ≡ before
  pub failed : fails → Rose before now

-- What holds of each store. Where it is up, nothing waits in its journal, and all is on the disk.
pub record IsSound {D : Type 0} (size : D → ℕ) (seen : D → Option (List ℕ)) (may_leave : D → List ℕ → Type 0) (disk : D) (sizes : List ℕ) (up : Bool) : Type 0 where
  pub sizes_fit : AreSizes sizes
  pub whole : size disk ≡ 16384 + total sizes
  pub told : TellsSizes (seen disk) sizes
  pub readable : IfSome (seen disk) (λ image. IsOk (opens image))
  pub settled : up ≡ true → Only (seen disk) (may_leave disk)
  pub shut : up ≡ true → IsShut (seen disk)
