use Rattle.std.proofs.Common.{rules, ◌≡◌, ◌∙◌, ap, sym, subst, Some, [], ◌∷◌, Option, List, ◌<◌, ◌^◌}
use Rattle.atomic_table.specs.Table.{opening}
use Rattle.sd_turnstile.specs.Order.{InOrder, first_view}
use Rattle.sd_turnstile.proofs.Beginning.{begins}
use Rattle.sd_turnstile.proofs.seat.Turnstile.new.Goals as goal

pub new-requires : goal.new-requires
new-requires g c =
    let one : c.push_reserved.new.self.items ≡ Some c.args.object ∷ [] = search rules in
    let few : c.args.seats < 2 ^ 32 = search rules in
    let x0 = c.of.result.value in
    let is : c.push_reserved.new.self.items ≡ Some x0 ∷ [] = one ∙ ap (λ y. Some y ∷ []) (sym c.of.ensures) in
    subst (λ (l : List (Option g.row.O.Denot)). InOrder g.O.Held.caller g.O.Held.leads x0 c.args.seats (opening (0 ∷ 0 ∷ []) l (first_view c.args.seats))) (sym is)
    (begins g.O.Held.caller g.O.Held.leads x0 c.args.seats c.requires few (g.O.Held.stays x0))
