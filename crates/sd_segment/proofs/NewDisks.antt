-- A disk with the files of the start.
use Rattle.std.proofs.Common.{◌≡◌, ℕ, zero, suc, ◌<◌, ◌≤◌, List, [], ◌∷◌, get_or, Some, ap, arith}
use Rattle.std.specs.Result.{result_ok}
use Rattle.sd_stable_disk.specs.Image.{held, holds, rounded, total, zero_files, AreSizes}

one_room : (size : ℕ) → size ≤ 33554432 → total (size ∷ []) ≤ 50331648
unfolding rounded
one_room size most = omega (arith, most)

pub one_size : (size : ℕ) → 8192 ≤ size → size ≤ 33554432 → AreSizes (size ∷ [])
one_size size least most = record { few = omega arith; each = each; room = one_room size most }
  where
    each : (file : ℕ) → file < 1 → (0 < get_or (size ∷ []) file 0) × (get_or (size ∷ []) file 0 ≤ 33554432)
    each zero below = (omega (arith, least), most)
    each (suc file) below = absurd (omega (arith, below))

pub no_size : AreSizes []
no_size = record { few = omega arith; each = λ file below. absurd (omega (arith, below)); room = omega arith }

pub held_so : (image sizes : List ℕ) → holds image (zero_files sizes) → held image ≡ Some (zero_files sizes)
held_so image sizes is = ap result_ok is
