use Rattle.sd_rpc_msg.proofs.Told.{written_is_read_again}
use Rattle.sd_rpc_msg.proofs.laws.written_is_read.Goals as goal

pub returns : goal.returns
returns c = written_is_read_again
