use Rattle.sd_show.proofs.OneLine.{one_packet}
use Rattle.sd_show.proofs.laws.one_packet.Goals as goal

pub returns : goal.returns
returns c = one_packet
