use Rattle.sd_show.proofs.EitherWay as lemmas
use Rattle.sd_show.proofs.laws.either_way.Goals as goal

pub returns : goal.returns
returns c = lemmas.either_way
