use Rattle.std.proofs.Common.{Option, None, sym, subst}
use Rattle.std.specs.Prelude.{IfOk, IfSome}
use Rattle.sd_config.specs.declared.config.SwapLine.{SwapLine}
use Rattle.sd_config.specs.Config.{IsSwap}
use Rattle.sd_boot.specs.Images.{IsNewImage}
use Rattle.sd_boot.proofs.Imaging.{one_size, new_so}
use Rattle.sd_boot.proofs.images.new_image.Goals as goal

pub image_of-requires : goal.image_of-requires
image_of-requires c =
    let is : IsSwap c.in-Some.swap = subst (λ (o : Option SwapLine). IfSome o IsSwap) c.in-Some.is c.requires in
    one_size c.in-Some.swap.size is.size.0 is.size.1

pub returns-in-None : goal.returns-in-None
returns-in-None c =
    subst (λ (o : Option SwapLine). IfOk c.image_of-in-None.result (IsNewImage o)) (sym c.in-None.is)
    (new_so None c.image_of-in-None.result c.image_of-in-None.ensures.image c.image_of-in-None.ensures.holds)
