use Rattle.std.proofs.Common.{◌≤◌, ◌<◌, ℕ, zero, suc, [], ◌∷◌, get_or, arith}
use Rattle.sd_stable_disk.specs.Image.{rounded, total}
use Rattle.sd_server_rows.proofs.disks.one_file.Goals as goal

each : (file : ℕ) → file < 1 → (0 < get_or (16384 ∷ []) file 0) × (get_or (16384 ∷ []) file 0 ≤ 33554432)
each zero below = (omega arith, omega arith)
each (suc file) below = absurd (omega (arith, below))

room : total (16384 ∷ []) ≤ 50331648
unfolding rounded
room = omega arith

pub image_of-requires : goal.image_of-requires
image_of-requires c = record { few = omega arith; each = each; room = room }
