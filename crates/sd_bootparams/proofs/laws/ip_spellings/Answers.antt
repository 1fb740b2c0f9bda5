use Rattle.sd_bootparams.proofs.Ip.{ip_spellings_of}
use Rattle.sd_bootparams.proofs.laws.ip_spellings.Goals as goal

pub returns : goal.returns
returns c = ip_spellings_of
