-- The lines of a text, which is the list of its bytes.
use Rattle.std.specs.Prelude.{ℕ, ◌==◌, List, [], ◌∷◌, if◌then◌else◌}
use Rattle.std.specs.List.{onto_first, before_first}

-- each line with its line feed, which the last may lack
abbrev pub lines : List ℕ → List (List ℕ)
lines [] = []
lines (b ∷ text) = if b == 10 then (b ∷ []) ∷ lines text else onto_first b (lines text)

abbrev pub without_feed : List ℕ → List ℕ
without_feed line = before_first (λ b. b == 10) line
