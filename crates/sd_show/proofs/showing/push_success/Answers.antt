use Rattle.std.proofs.Common.{Option, sym, subst, refl}
use Rattle.sd_show.specs.declared.procedures.Known.{Known}
use Rattle.sd_show.specs.Messages.{bare}
use Rattle.sd_show.specs.Saying.{AreResultsOf}
use Rattle.sd_show.proofs.showing.push_success.Goals as goal

pub returns-in_ok-push_raw-in-None : goal.returns-in_ok-push_raw-in-None
returns-in_ok-push_raw-in-None c =
    let bs = c.args.bytes.now in
    (bare bs, subst (λ (a : Option Known). AreResultsOf a bs (bare bs)) (sym c.in-None.is) refl, c.in_ok-push_raw-in-None.ensures)
