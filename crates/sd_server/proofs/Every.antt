-- What holds of each.
use Rattle.std.proofs.Common.{◌≡◌, zero, suc, ◌<◌, List, [], ◌∷◌, arith}
use Rattle.std.specs.List.{All, AllByRecursion}

pub all_of : {A : Type 0} (P : A → Type 0) (xs : List A) → All P xs → AllByRecursion P xs
all_of P [] all = tt
all_of P (x ∷ xs) all = (all 0 x (omega arith), all_of P xs (λ k d lt. all (suc k) d (omega arith)))
