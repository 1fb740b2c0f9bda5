use Rattle.sd_mount.proofs.Mounted.{removed_is_gone as law}
use Rattle.sd_mount.proofs.laws.removed_is_gone.Goals as goal

pub returns : goal.returns
returns c = law
