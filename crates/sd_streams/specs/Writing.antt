-- A writing that was cut short.
use Rattle.std.specs.Prelude.{◌≡◌, ℕ, List, ◌++◌, Option, Some, None}
use Rattle.sd_outside.specs.Streams.{Gains, IsPrefixOf}

-- the sink gained a prefix of the bytes
abbrev pub GainsPrefix : Option (List ℕ) → Option (List ℕ) → List ℕ → Type 0
GainsPrefix old new bytes = (prefix : List ℕ) × IsPrefixOf prefix bytes × Gains old new prefix

-- the sink gained bytes of which P holds
abbrev pub GainsSome : Option (List ℕ) → Option (List ℕ) → (List ℕ → Type 0) → Type 0
GainsSome old new P = (out : List ℕ) × Gains old new out × P out

-- Where the source tells the text, the sink gained bytes that have to do with it as P says.
abbrev pub Writes : Option (List ℕ) → Option (List ℕ) → Option (List ℕ) → (List ℕ → List ℕ → Type 0) → Type 0
Writes None old new P = Unit {0}
Writes (Some text) old new P = GainsSome old new (P text)
