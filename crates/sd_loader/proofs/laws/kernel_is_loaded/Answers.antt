use Rattle.sd_loader.proofs.KernelLaw.{kernel_is_loaded as law}
use Rattle.sd_loader.proofs.laws.kernel_is_loaded.Goals as goal

pub returns : goal.returns
returns c = law
