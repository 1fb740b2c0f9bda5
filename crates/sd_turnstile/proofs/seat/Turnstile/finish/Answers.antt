use Rattle.std.proofs.Common.{rules, ◌<◌, ◌∷◌, ◌∙◌, ap, sym, subst, Some}
use Rattle.atomic_table.specs.Table.{rest}
use Rattle.sd_turnstile.proofs.Advancing.{advances}
use Rattle.sd_turnstile.proofs.seat.Turnstile.finish.Goals as goal

pub fetch_add-requires : goal.fetch_add-requires
fetch_add-requires g c =
    let now = c.exchange.ensures.3 in
    let turn = c.requires.turn in (
      search rules,
      search rules,
      advances _ _ _ _ _ _ _ _ _ _ (ap (λ m. m.0.stage) now ∙ turn.0.1) (subst (λ m. 0 < m.0.parts) (sym now) turn.2)
          (ap (λ m. m.1) now ∙ ap (λ l. (0, Some c.args.object) ∷ rest l) turn.1) (search rules) (search rules),
    )
