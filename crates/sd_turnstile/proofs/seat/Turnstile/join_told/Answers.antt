use Rattle.std.proofs.Common.{rules, ℕ, sym, subst}
use Rattle.atomic_table.specs.Table.{Joins}
use Rattle.sd_turnstile.specs.Order.{spent, InOrder}
use Rattle.sd_turnstile.specs.Plays.{with_both}
use Rattle.sd_turnstile.proofs.Joining.{joins}
use Rattle.sd_turnstile.proofs.seat.Turnstile.join_told.Goals as goal

pub join_seat-requires : goal.join_seat-requires
join_seat-requires g c =
    let key = c.args.self.now.table.shared.key in
    let id = c.args.place.now.id in
    let v = c.args.place.now.me.0 in
    let other = c.args.other.id in
    let u = c.args.other.me.0 in (
      c.requires.table.0,
      c.requires.table.1,
      c.requires.idle.2,
      search rules,
      subst (λ (n : ℕ). Joins (InOrder g.O.Held.caller g.O.Held.leads key.object.value key.seats) id v other u (with_both n v u) spent) (sym c.requires.told)
          (joins _ _ _ _ id v other u c.requires.parts.0 c.requires.parts.1 c.requires.idle.0 c.requires.idle.1 c.requires.settled.0 c.requires.settled.1),
    )
