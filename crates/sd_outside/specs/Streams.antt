-- What one call of a source takes, and what one call of a sink adds, where the object tells its bytes.
use Rattle.std.specs.Prelude.{◌≡◌, ℕ, List, [], ◌++◌, take, Option, Some, None, Result, Ok, Err}

-- some first elements of the whole list, all of them or none too
abbrev pub IsPrefixOf : {A : Type 0} → List A → List A → Type 0
IsPrefixOf {A} prefix whole = (rest : List A) × (prefix ++ rest ≡ whole)

-- A source that tells its bytes goes on telling, and it gave these, in one read or in several.
abbrev pub Gave : Option (List ℕ) → Option (List ℕ) → List ℕ → Type 0
Gave None None text = Unit {0}
Gave (Some all) (Some left) text = all ≡ text ++ left
Gave None (Some left) text = ⊥
Gave (Some all) None text = ⊥

-- `Ok n` takes the next n bytes, none only at the end. A refusal leaves the source as it was.
abbrev pub Takes : {E : Type 0} → Option (List ℕ) → Option (List ℕ) → Result ℕ E → List ℕ → Type 0
Takes None None result into = Unit {0}
Takes (Some old) (Some new) (Ok n) into = (old ≡ take n into ++ new) × (n ≡ 0 → old ≡ [])
Takes (Some old) (Some new) (Err e) into = new ≡ old
Takes None (Some new) result into = ⊥
Takes (Some old) None result into = ⊥

-- What a sink tells after it took these bytes: what it told before with them at its end, or nothing any more.
-- A sink that once tells nothing tells nothing from then on.
abbrev pub Gains : Option (List ℕ) → Option (List ℕ) → List ℕ → Type 0
Gains old None bytes = Unit {0}
Gains (Some old) (Some new) bytes = new ≡ old ++ bytes
Gains None (Some new) bytes = ⊥

-- `Ok n` appends the first n bytes, at least one where there is one. `Failed` leaves the bytes written as they were.
abbrev pub Adds : {E : Type 0} → Option (List ℕ) → Option (List ℕ) → Result ℕ E → List ℕ → Type 0
Adds old new (Ok n) bytes = Gains old new (take n bytes) × (n ≡ 0 → bytes ≡ [])
Adds old new (Err e) bytes = new ≡ old
