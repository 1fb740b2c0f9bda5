-- What was read of an input.
use Rattle.std.specs.Prelude.{◌≡◌, ℕ, List, [], ◌++◌, Option, Some, None}

-- all of what was told, to its end
abbrev pub IsAll : Option (List ℕ) → Option (List ℕ) → List ℕ → Type 0
IsAll None left text = Unit {0}
IsAll (Some all) left text = (text ≡ all) × (left ≡ Some [])
