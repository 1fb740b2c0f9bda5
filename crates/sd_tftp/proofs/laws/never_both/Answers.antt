use Rattle.sd_tftp.proofs.Whole as lemmas
use Rattle.sd_tftp.proofs.laws.never_both.Goals as goal

pub returns : goal.returns
returns c = lemmas.never_both
