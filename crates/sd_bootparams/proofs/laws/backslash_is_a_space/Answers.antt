use Rattle.sd_bootparams.proofs.Unbroken.{backslash_is_a_space}
use Rattle.sd_bootparams.proofs.laws.backslash_is_a_space.Goals as goal

pub returns : goal.returns
returns c = backslash_is_a_space
