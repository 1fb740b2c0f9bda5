use Rattle.sd_show.proofs.OneLine.{either_packed}
use Rattle.sd_show.proofs.laws.either_packed.Goals as goal

pub returns : goal.returns
returns c = either_packed
