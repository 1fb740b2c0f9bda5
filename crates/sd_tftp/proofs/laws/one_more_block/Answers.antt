use Rattle.sd_tftp.proofs.Pieces as lemmas
use Rattle.sd_tftp.proofs.laws.one_more_block.Goals as goal

pub returns : goal.returns
returns c = lemmas.one_more_block
