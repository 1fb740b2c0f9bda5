-- Histories: lists of entries, each of a caller with a number.
use Rattle.std.specs.Prelude.{◌≡◌, ℕ, ◌==◌, List, [], ◌∷◌, ◌++◌, length, filter, Option, None, Some, nat_le, if◌then◌else◌}

module _ {E : Type 0} where
  -- the history begins with what was seen
  abbrev pub StartsWith : List E → List E → Type 0
  StartsWith history seen = (rest : List E) × (history ≡ seen ++ rest)

  -- of two beginnings of one history the longer one
  abbrev pub longer : List E → List E → List E
  longer xs ys = if nat_le (length xs) (length ys) then ys else xs

  -- one entry, or none
  abbrev pub entries : Option E → List E
  entries None = []
  entries (Some e) = e ∷ []

  -- the entries of one caller, in their order
  abbrev pub calls_by : (E → ℕ) → ℕ → List E → List E
  calls_by caller by history = filter (λ e. caller e == by) history

  -- the entry, where there is one, is this caller's
  abbrev pub IsBy : (E → ℕ) → ℕ → Option E → Type 0
  IsBy caller by None = Unit {0}
  IsBy caller by (Some e) = caller e ≡ by
