use Rattle.std.proofs.Common.{◌∙◌}
use Rattle.sd_outside.proofs.PlanLaws.{later-zero}
use Rattle.sd_outside.proofs.planned.Planned.new.Goals as goal

pub returns : goal.returns
returns c = later-zero _ ∙ c.in_ok-from_slice.ensures.items
