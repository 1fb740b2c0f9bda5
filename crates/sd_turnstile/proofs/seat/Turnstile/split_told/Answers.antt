use Rattle.std.proofs.Common.{rules, ℕ, sym, subst}
use Rattle.atomic_table.specs.Table.{Splits}
use Rattle.sd_turnstile.specs.Order.{InOrder}
use Rattle.sd_turnstile.specs.Plays.{first_part, new_part}
use Rattle.sd_turnstile.proofs.Splitting.{splits}
use Rattle.sd_turnstile.proofs.seat.Turnstile.split_told.Goals as goal

pub split_seat-requires : goal.split_seat-requires
split_seat-requires g c =
    let key = c.args.self.now.table.shared.key in
    let id = c.args.place.now.id in
    let v = c.args.place.now.me.0 in (
      search rules,
      search rules,
      subst (λ (n : ℕ). Splits (InOrder g.O.Held.caller g.O.Held.leads key.object.value key.seats) id v (first_part v) (new_part n v)) (sym c.requires.told)
          (splits _ _ _ _ id v c.requires.idle.0 c.requires.idle.1),
    )
