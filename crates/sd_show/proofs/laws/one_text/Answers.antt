use Rattle.sd_show.proofs.OneShown.{one_text}
use Rattle.sd_show.proofs.laws.one_text.Goals as goal

pub returns : goal.returns
returns c = one_text
