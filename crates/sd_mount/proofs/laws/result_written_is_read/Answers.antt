use Rattle.sd_mount.proofs.Read.{result_written_is_read_of}
use Rattle.sd_mount.proofs.laws.result_written_is_read.Goals as goal

pub returns : goal.returns
returns c = result_written_is_read_of
