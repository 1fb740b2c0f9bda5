use Rattle.sd_mount.proofs.Read.{args_written_are_read_of}
use Rattle.sd_mount.proofs.laws.args_written_are_read.Goals as goal

pub returns : goal.returns
returns c = args_written_are_read_of
