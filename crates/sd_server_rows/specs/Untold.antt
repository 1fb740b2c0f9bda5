-- A disk that tells nothing, for the tests.
use Rattle.std.specs.Prelude.{◌≡◌, List, ℕ, Some, None, is_some}
use Rattle.std.proofs.Common.{ap}
use Rattle.std.proofs.lemmas.Bool.{false≢true}

-- it tells no bytes
pub nothing : {P : Type 0} {bytes : List ℕ} → None ≡ Some bytes → P
nothing told = absurd (false≢true (ap is_some told))
