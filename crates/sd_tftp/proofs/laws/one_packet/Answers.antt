use Rattle.sd_tftp.proofs.Whole as lemmas
use Rattle.sd_tftp.proofs.laws.one_packet.Goals as goal

pub returns : goal.returns
returns c = lemmas.one_packet
