use Rattle.sd_nfs_msg.proofs.Read.{result_one_spelling_of}
use Rattle.sd_nfs_msg.proofs.laws.result_one_spelling.Goals as goal

pub returns : goal.returns
returns c = result_one_spelling_of
