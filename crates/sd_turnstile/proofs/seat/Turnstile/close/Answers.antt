use Rattle.std.proofs.Common.{rules, ◌≡◌, ◌∙◌, ap, sym, subst, arith, refl, ◌<◌}
use Rattle.std.specs.Prelude.{IsSome}
use Rattle.sd_turnstile.specs.declared.view.View.{View}
use Rattle.sd_turnstile.proofs.Beginning.{ended}
use Rattle.sd_turnstile.proofs.seat.Turnstile.close.Goals as goal

pub unwrap-requires : goal.unwrap-requires
unwrap-requires g c =
    let same = c.into_place.ensures in
    let counted = c.args.seat.counted in
    let every : c.args.seat.parts ≡ c.args.self.seats = search rules in
    let all = ap (λ p. p.me.0.parts) same ∙ counted.0 ∙ every ∙ sym c.args.self.sized.2 in
    let some_part : 0 < c.into_place.result.me.0.parts = omega (arith, counted.0, counted.1, ap (λ p. p.me.0.parts) same) in
    let x = ended _ _ _ _ _ _ _ _ c.take-object.result (ap (λ p. p.me.0.stage) same ∙ c.requires.idle.0) (ap (λ p. p.me.0.told) same ∙ c.args.seat.settled) all some_part c.close_with-closed.ensures.values.2 c.take-object.ensures.value in
    subst IsSome (sym x.1) refl

pub returns-clause-object : goal.returns-clause-object
returns-clause-object g c =
    let same = c.into_place.ensures in
    let counted = c.args.seat.counted in
    let every : c.args.seat.parts ≡ c.args.self.seats = search rules in
    let all = ap (λ p. p.me.0.parts) same ∙ counted.0 ∙ every ∙ sym c.args.self.sized.2 in
    let some_part : 0 < c.into_place.result.me.0.parts = omega (arith, counted.0, counted.1, ap (λ p. p.me.0.parts) same) in
    let x = ended _ _ _ _ _ _ _ _ c.take-object.result (ap (λ p. p.me.0.stage) same ∙ c.requires.idle.0) (ap (λ p. p.me.0.told) same ∙ c.args.seat.settled) all some_part c.close_with-closed.ensures.values.2 c.take-object.ensures.value in
    let is : x.0 ≡ c.unwrap.result = cc (x.1, c.unwrap.ensures) in
    let start = c.args.self.table.shared.key.object.value in
    subst (λ (v : View g.row.O-Entry.Denot). g.O.Held.leads start v.seen c.unwrap.result) (ap (λ p. p.me.0) same)
    (subst (λ (y : g.row.O.Denot). g.O.Held.leads start c.into_place.result.me.0.seen y) is x.2)
