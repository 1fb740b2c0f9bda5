use Rattle.sd_show.proofs.ShownAgain.{packed_is_shown}
use Rattle.sd_show.proofs.laws.packed_is_shown.Goals as goal

pub returns : goal.returns
returns c = packed_is_shown
