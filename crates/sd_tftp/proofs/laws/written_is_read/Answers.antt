use Rattle.sd_tftp.proofs.Written as lemmas
use Rattle.sd_tftp.proofs.laws.written_is_read.Goals as goal

pub returns : goal.returns
returns c = lemmas.written_is_read
