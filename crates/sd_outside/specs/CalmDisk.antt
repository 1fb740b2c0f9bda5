-- What a disk that never fails tells of its faults.
use Rattle.std.specs.Prelude.{◌≡◌, ℕ, List, [], length, Option, Some, None, false, IsTrue}
use Rattle.std.proofs.Common.{sym, ap}
use Rattle.std.proofs.lemmas.Bool.{false≢true}
use Rattle.sd_outside.specs.DiskPlan.{Plan}

-- no fault is planned, no stop is set, and there is always room
abbrev pub calm_plan : Plan
calm_plan = record { changes = []; reads = []; stop = None; room = 64 }

length_told : Option (List ℕ) → ℕ
length_told None = 0
length_told (Some bytes) = length bytes

pub same_length : (told bytes : List ℕ) → Some told ≡ Some bytes → length bytes ≡ length told
unfolding length_told
same_length told bytes same = sym (ap length_told same)

pub never : {P : Type 0} → IsTrue false → P
never says = absurd (false≢true says)
