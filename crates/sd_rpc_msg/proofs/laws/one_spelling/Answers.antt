use Rattle.sd_rpc_msg.proofs.Told.{one_spelling_of}
use Rattle.sd_rpc_msg.proofs.laws.one_spelling.Goals as goal

pub returns : goal.returns
returns c = one_spelling_of
