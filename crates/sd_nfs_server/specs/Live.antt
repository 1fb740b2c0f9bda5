-- Live files by their numbers.
use Rattle.std.specs.Prelude.{◌≡◌, ◌≢◌, ℕ, ◌⊎◌, ◌≤◌, List, length, Option, Some, None, IsSome}
use Rattle.sd_services.specs.Files.{Exported, Place, handle}

-- a file of the root export by its number, or the swap export's one file
abbrev pub IsLive : Exported → Place → Type 0
IsLive files place = ((place.0 ≡ 0) × (1 ≤ place.1) × (place.1 ≤ length files.root)) ⊎ ((place.0 ≡ 1) × (place.1 ≡ 1) × IsSome files.swap)

-- the live file whose handle the bytes are; none where they are the handle of none
abbrev pub Finds : Exported → List ℕ → Option Place → Type 0
Finds files bytes (Some place) = IsLive files place × (bytes ≡ handle place.0 place.1)
Finds files bytes None = (place : Place) → IsLive files place → bytes ≢ handle place.0 place.1
