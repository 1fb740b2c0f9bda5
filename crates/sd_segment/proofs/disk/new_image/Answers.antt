use Rattle.std.proofs.Common.{Option, subst}
use Rattle.std.specs.Prelude.{IfSome}
use Rattle.sd_config.specs.declared.config.SwapLine.{SwapLine}
use Rattle.sd_config.specs.Config.{IsSwap}
use Rattle.sd_segment.proofs.NewDisks.{one_size}
use Rattle.sd_segment.proofs.disk.new_image.Goals as goal

pub image_of-requires : goal.image_of-requires
image_of-requires c =
    let is : IsSwap c.in-Some.swap = subst (λ (o : Option SwapLine). IfSome o IsSwap) c.in-Some.is c.requires in
    one_size c.in-Some.swap.size is.size.0 is.size.1
