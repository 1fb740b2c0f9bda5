use Rattle.sd_bootparams.proofs.Twice.{clients_differ_of}
use Rattle.sd_bootparams.proofs.laws.clients_differ.Goals as goal

pub returns : goal.returns
returns c = clients_differ_of
