use Rattle.sd_show.proofs.ShownAgain.{shown_is_packed}
use Rattle.sd_show.proofs.laws.shown_is_packed.Goals as goal

pub returns : goal.returns
returns c = shown_is_packed
