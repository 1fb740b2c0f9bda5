use Rattle.sd_tftp.proofs.Acks as lemmas
use Rattle.sd_tftp.proofs.laws.sending_is_turn.Goals as goal

pub returns : goal.returns
returns c = lemmas.sending_is_turn
