use Rattle.sd_loader.proofs.WalkLaws.{walks_are_one as law}
use Rattle.sd_loader.proofs.laws.walks_are_one.Goals as goal

pub returns : goal.returns
returns c = law
