use Rattle.std.proofs.Common.{arith}
use Rattle.sd_boot.proofs.Imaging.{one_size}
use Rattle.sd_boot_rows.proofs.programs.images.one_file.Goals as goal

pub image_of-requires : goal.image_of-requires
image_of-requires c = one_size 16384 (omega arith) (omega arith)
