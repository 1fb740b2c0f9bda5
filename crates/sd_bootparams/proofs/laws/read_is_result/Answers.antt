use Rattle.sd_bootparams.proofs.Read.{read_is_result_of}
use Rattle.sd_bootparams.proofs.laws.read_is_result.Goals as goal

pub returns : goal.returns
returns c = read_is_result_of
