use Rattle.sd_nfs_msg.proofs.Read.{result_written_is_read_of}
use Rattle.sd_nfs_msg.proofs.laws.result_written_is_read.Goals as goal

pub returns : goal.returns
returns c = result_written_is_read_of
