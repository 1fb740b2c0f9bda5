use Rattle.sd_tftp.proofs.Taken as lemmas
use Rattle.sd_tftp.proofs.laws.taken_is_the_file.Goals as goal

pub returns : goal.returns
returns c = lemmas.taken_is_the_file
