use Rattle.sd_tftp.proofs.Again as lemmas
use Rattle.sd_tftp.proofs.laws.each_block_once.Goals as goal

pub returns : goal.returns
returns c = lemmas.each_block_once
