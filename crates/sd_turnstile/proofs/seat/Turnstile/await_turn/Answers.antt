use Rattle.std.proofs.Common.{rules, ◌<◌, ◌∙◌, ap, sym, subst}
use Rattle.sd_turnstile.proofs.Looking.{looks}
use Rattle.sd_turnstile.proofs.seat.Turnstile.await_turn.Goals as goal

pub load-found-requires : goal.load-found-requires
load-found-requires g c =
    let i = c.loop.invariant in (
      search rules,
      search rules,
      looks _ _ _ _ _ _ _ _ _ _ (ap (λ m. m.0.stage) i.2 ∙ c.requires.waits.0) (subst (λ m. 0 < m.0.parts) (sym i.2) c.requires.waits.1) (c.requires.told.0 ∙ sym i.1) c.requires.told.1,
    )
