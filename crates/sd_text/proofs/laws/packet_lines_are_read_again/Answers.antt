use Rattle.sd_text.proofs.PacketLemmas.{one_packet}
use Rattle.sd_text.proofs.Deciding.{packet_way}
use Rattle.sd_text.proofs.ReadBack.{packet_again}
use Rattle.sd_text.proofs.laws.packet_lines_are_read_again.Goals as goal

pub returns : goal.returns
returns c = record { one = one_packet; either = packet_way; again = packet_again }
