use Rattle.sd_bootparams.proofs.Read.{read_are_args_of}
use Rattle.sd_bootparams.proofs.laws.read_are_args.Goals as goal

pub returns : goal.returns
returns c = read_are_args_of
