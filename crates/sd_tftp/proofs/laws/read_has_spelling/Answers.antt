use Rattle.sd_tftp.proofs.Written as lemmas
use Rattle.sd_tftp.proofs.laws.read_has_spelling.Goals as goal

pub returns : goal.returns
returns c = lemmas.read_has_spelling
