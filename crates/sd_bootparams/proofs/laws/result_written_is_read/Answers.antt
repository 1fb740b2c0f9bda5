use Rattle.sd_bootparams.proofs.Read.{result_written_is_read_of}
use Rattle.sd_bootparams.proofs.laws.result_written_is_read.Goals as goal

pub returns : goal.returns
returns c = result_written_is_read_of
