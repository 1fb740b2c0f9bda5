use Rattle.std.proofs.Common.{rules, ◌∷◌, ◌∙◌, ap, sym, Some}
use Rattle.atomic_table.specs.Table.{rest}
use Rattle.sd_turnstile.proofs.seat.Turnstile.enter_told.Goals as goal

pub exchange-requires : goal.exchange-requires
exchange-requires g c =
    let took = c.await_turn.ensures.took in
    let slots = ap (λ m. m.1) took.now ∙ ap (λ m. (0, Some took.object) ∷ m.1) c.draw-ticket.ensures.drew ∙ ap (λ l. (0, Some took.object) ∷ l) c.requires.idle.1 in
    (search rules, (Some took.object, slots ∙ ap (λ l. (0, Some took.object) ∷ rest l) (sym slots)))
