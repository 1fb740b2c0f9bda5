-- What was read of an input.
use Rattle.std.specs.Prelude.{◌≡◌, ◌⊎◌, ℕ, ◌<◌, List, [], ◌++◌, length, Option, Some, None}
use Rattle.sd_outside.specs.Streams.{IsPrefixOf}
use Rattle.sd_script.specs.Limits.{input_limit}

-- all of what was told, to its end, or a prefix of it that passes the limit
abbrev pub IsRead : Option (List ℕ) → Option (List ℕ) → List ℕ → Type 0
IsRead None left text = Unit {0}
IsRead (Some all) left text = ((text ≡ all) × (left ≡ Some [])) ⊎ (IsPrefixOf text all × (input_limit < length text))
