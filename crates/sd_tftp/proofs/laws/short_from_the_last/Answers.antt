use Rattle.sd_tftp.proofs.Pieces as lemmas
use Rattle.sd_tftp.proofs.laws.short_from_the_last.Goals as goal

pub returns : goal.returns
returns c = lemmas.short_from_the_last
