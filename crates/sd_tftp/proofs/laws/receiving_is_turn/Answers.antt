use Rattle.sd_tftp.proofs.Receives as lemmas
use Rattle.sd_tftp.proofs.laws.receiving_is_turn.Goals as goal

pub returns : goal.returns
returns c = lemmas.receiving_is_turn
