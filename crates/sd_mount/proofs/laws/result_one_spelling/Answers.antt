use Rattle.sd_mount.proofs.Read.{result_one_spelling_of}
use Rattle.sd_mount.proofs.laws.result_one_spelling.Goals as goal

pub returns : goal.returns
returns c = result_one_spelling_of
