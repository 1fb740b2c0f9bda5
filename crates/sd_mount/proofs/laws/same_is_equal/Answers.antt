use Rattle.sd_mount.proofs.Mounted.{same_is_equal as law}
use Rattle.sd_mount.proofs.laws.same_is_equal.Goals as goal

pub returns : goal.returns
returns c = law
