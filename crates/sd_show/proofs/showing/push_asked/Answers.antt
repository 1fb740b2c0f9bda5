use Rattle.std.proofs.Common.{sym, refl, ◌∙◌}
use Rattle.sd_show.specs.Messages.{bare}
use Rattle.sd_show.proofs.showing.push_asked.Goals as goal

pub returns-in_ok-push_other-in-None : goal.returns-in_ok-push_other-in-None
returns-in_ok-push_other-in-None c = (bare c.args.call.now.args, (refl, λ k h. c.in-None.ensures k (h ∙ sym c.procedure_of.ensures)), c.in_ok-push_other-in-None.ensures)
