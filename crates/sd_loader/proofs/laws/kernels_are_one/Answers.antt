use Rattle.sd_loader.proofs.WalkLaws.{kernels_are_one as law}
use Rattle.sd_loader.proofs.laws.kernels_are_one.Goals as goal

pub returns : goal.returns
returns c = law
