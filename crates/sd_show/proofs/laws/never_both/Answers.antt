use Rattle.sd_show.proofs.OneShown.{never_both}
use Rattle.sd_show.proofs.laws.never_both.Goals as goal

pub returns : goal.returns
returns c = never_both
