-- Calls that are planned to fail: a list with, for each of them, how many calls come before it.
use Rattle.std.specs.Prelude.{ℕ, ◌+◌, ◌-◌, ◌^◌, min, List, [], ◌∷◌, nat_lt, if◌then◌else◌, Contains, Result, Ok, Err}

-- the very next call is planned to fail
abbrev pub FailsNext : List ℕ → Type 0
FailsNext plan = Contains plan 0

-- what is left of the plan after n calls: those that were made are taken out, and the others are nearer
abbrev pub later : ℕ → List ℕ → List ℕ
later n [] = []
later n (k ∷ ks) = if nat_lt k n then later n ks else (k - n) ∷ later n ks

-- the count of faults after a call that answered this; it stands still at the greatest u64
abbrev pub counted : {T E : Type 0} → ℕ → Result T E → ℕ
counted faults (Ok value) = faults
counted faults (Err error) = min (faults + 1) (2 ^ 64 - 1)
