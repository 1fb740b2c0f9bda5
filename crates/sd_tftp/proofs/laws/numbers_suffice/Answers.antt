use Rattle.sd_tftp.proofs.Pieces as lemmas
use Rattle.sd_tftp.proofs.laws.numbers_suffice.Goals as goal

pub returns : goal.returns
returns c = lemmas.numbers_suffice
