use Rattle.sd_tftp.proofs.Again as lemmas
use Rattle.sd_tftp.proofs.laws.ticks_is_tick.Goals as goal

pub returns : goal.returns
returns c = lemmas.ticks_is_tick
