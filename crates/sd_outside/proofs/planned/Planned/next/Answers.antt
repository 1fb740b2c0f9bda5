use Rattle.std.proofs.Common.{◌≡◌, ◌+◌, List, ℕ, [], length, get_or, inl, inr, sym, ◌∙◌, ap, arith}
use Rattle.std.proofs.lemmas.Bool.{cases_Bool}
use Rattle.std.specs.List.{list_any}
use Rattle.std.specs.Prelude.{nat_eq}
use Rattle.sd_outside.specs.Plan.{later}
use Rattle.sd_outside.proofs.PlanLaws.{was_planned, later-add, later_none, drops, stays}
use Rattle.sd_outside.proofs.planned.Planned.next.Goals as goal

pub returns-then-self-clause-fails : goal.returns-then-self-clause-fails
returns-then-self-clause-fails c = was_planned c.self.inside.made c.self.inside.numbers.items c.deref.result.now _ _ c.deref.ensures.value c.self.view_is c.is_among-fails.ensures.value

-- the greatest number was the last that a call can have
pub returns-then-self-clause-left : goal.returns-then-self-clause-left
returns-then-self-clause-left c =
    let numbers = c.self.inside.numbers.items in
    let made = c.self.inside.made in
    let none : later (made + 1) numbers ≡ [] = later_none (made + 1) numbers (λ i. omega (arith, ap (λ (l : List ℕ). get_or l i 0) c.deref.ensures.value, c.is_among-fails.ensures.small i, c.if-self.true)) in
    ap (later made) c.clear.ensures.items ∙ sym none ∙ later-add made 1 numbers ∙ ap (later 1) c.self.view_is

pub returns-else-self-clause-fails : goal.returns-else-self-clause-fails
returns-else-self-clause-fails c = was_planned c.self.inside.made c.self.inside.numbers.items c.deref.result.now _ _ c.deref.ensures.value c.self.view_is c.is_among-fails.ensures.value

pub returns-else-self-clause-left : goal.returns-else-self-clause-left
returns-else-self-clause-left c = later-add c.self.inside.made 1 c.self.inside.numbers.items ∙ ap (later 1) c.self.view_is

pub returns-then-self-clause-taken : goal.returns-then-self-clause-taken
returns-then-self-clause-taken c =
    let numbers = c.self.inside.numbers.items in
    let made = c.self.inside.made in
    let none : later (made + 1) numbers ≡ [] = later_none (made + 1) numbers (λ i. omega (arith, ap (λ (l : List ℕ). get_or l i 0) c.deref.ensures.value, c.is_among-fails.ensures.small i, c.if-self.true)) in
    let there : c.is_among-fails.result ≡ list_any (λ k. nat_eq k made) numbers = c.is_among-fails.ensures.value ∙ ap (λ (l : List ℕ). list_any (λ k. nat_eq k made) l) c.deref.ensures.value in
    let left : length (later made c.clear.new.self.items) ≡ 0 = ap (λ (l : List ℕ). length (later made l)) c.clear.ensures.items in (
      λ says. omega (arith, left, drops made numbers (sym there ∙ says), ap length c.self.view_is),
      λ fewer. elim (cases_Bool c.is_among-fails.result) [
        | inl says ↦ says
        | inr not ↦ absurd (omega (arith, fewer, ap length none, stays made numbers (sym there ∙ not), ap length c.self.view_is))
      ],
    )

pub returns-else-self-clause-taken : goal.returns-else-self-clause-taken
returns-else-self-clause-taken c =
    let numbers = c.self.inside.numbers.items in
    let made = c.self.inside.made in
    let there : c.is_among-fails.result ≡ list_any (λ k. nat_eq k made) numbers = c.is_among-fails.ensures.value ∙ ap (λ (l : List ℕ). list_any (λ k. nat_eq k made) l) c.deref.ensures.value in (
      λ says. omega (arith, drops made numbers (sym there ∙ says), ap length c.self.view_is),
      λ fewer. elim (cases_Bool c.is_among-fails.result) [
        | inl says ↦ says
        | inr not ↦ absurd (omega (arith, fewer, stays made numbers (sym there ∙ not), ap length c.self.view_is))
      ],
    )
