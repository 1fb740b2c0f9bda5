use Rattle.sd_mount.proofs.Read.{args_one_spelling_of}
use Rattle.sd_mount.proofs.laws.args_one_spelling.Goals as goal

pub returns : goal.returns
returns c = args_one_spelling_of
