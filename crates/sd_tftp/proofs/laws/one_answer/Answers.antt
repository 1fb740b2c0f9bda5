use Rattle.sd_tftp.proofs.Receives as lemmas
use Rattle.sd_tftp.proofs.laws.one_answer.Goals as goal

pub returns : goal.returns
returns c = lemmas.one_answer
