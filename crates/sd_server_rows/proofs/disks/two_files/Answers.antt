use Rattle.std.proofs.Common.{◌≤◌, ◌<◌, ℕ, zero, suc, [], ◌∷◌, get_or, arith}
use Rattle.sd_stable_disk.specs.Image.{rounded, total}
use Rattle.sd_server_rows.proofs.disks.two_files.Goals as goal

each : (file : ℕ) → file < 2 → (0 < get_or (8192 ∷ 16384 ∷ []) file 0) × (get_or (8192 ∷ 16384 ∷ []) file 0 ≤ 33554432)
each zero below = (omega arith, omega arith)
each (suc zero) below = (omega arith, omega arith)
each (suc (suc file)) below = absurd (omega (arith, below))

room : total (8192 ∷ 16384 ∷ []) ≤ 50331648
unfolding rounded
room = omega arith

pub image_of-requires : goal.image_of-requires
image_of-requires c = record { few = omega arith; each = each; room = room }
