-- Splitting a seat keeps the rule.
use Rattle.std.proofs.Common.{◌≡◌, ℕ, ◌+◌, ◌<◌, List, [], ◌∷◌, ◌++◌, length, set, refl, sym, ap, ◌∙◌, subst, ⊎_elim, arith, length-append, length-set, Option, inr}
use mathlib.Core.Option.{some}
use lib.ListN.{get_elem?}
use Rattle.atomic_table.specs.Table.{State, Splits}
use Rattle.atomic_table.proofs.Lists.{at_longer}
use Rattle.sd_turnstile.specs.declared.view.Stage.TheVariants.{Idle}
use Rattle.sd_turnstile.specs.declared.view.View.{View}
use Rattle.sd_turnstile.specs.History.{calls_by}
use Rattle.sd_turnstile.specs.Order.{tickets, turns, ticket_of, Fits, total, InOrder}
use Rattle.sd_turnstile.specs.Plays.{first_part, new_part}
use Rattle.sd_turnstile.proofs.Lists.{at_end, at_less, all_set, total-append, total-set, longer_same, calls_none}
use Rattle.sd_turnstile.proofs.Ordered.{known_set, held_still, apart_still}

module _ {O E : Type 0} (caller : E → ℕ) (leads : O → List E → O → Type 0) (x0 : O) (seats : ℕ) where
  abbrev Rule : State (Option O) (View E) → Type 0
  Rule = InOrder caller leads x0 seats

  abbrev V : Type 0
  V = View E

  pub splits : (id : ℕ) (v : V) → v.stage ≡ Idle → 1 < v.parts → Splits Rule id v (first_part v) (new_part id v)
  splits id v idle more s r at =
      let w : V = first_part v in
      let n : V = new_part id v in
      let known_still = known_set r.history s.views id v w at (λ p k. (omega (arith, more), k)) r.known in
      let vs : List V = set s.views id w in
      let mine = r.each_seat id v at in
      let none_mine : tickets v.stage ≡ 0 = ap tickets idle in
      let both : (f : V → ℕ) → total f (vs ++ n ∷ []) + f v ≡ total f s.views + f w + f n = λ f. omega (arith, total-append f vs (n ∷ []), total-set f s.views id v w at) in
      let ts = both (λ (u : V). tickets u.stage) in
      let us = both (λ (u : V). turns u.stage) in
      let ps = both (λ (u : V). u.parts) in
      let long : length vs ≡ length s.views = length-set s.views id w in
      let spread : (P : ℕ → V → Type 0) → ((j : ℕ) (u : V) → get_elem? vs j ≡ some u → P j u) → P (length s.views) n → (j : ℕ) (u : V) → get_elem? (vs ++ n ∷ []) j ≡ some u → P j u
      = λ P old new j u e. ⊎_elim (λ (t : get_elem? vs j ≡ some u). old j u t)
      (λ (t : (j ≡ length vs) × (n ≡ u)). subst (λ (z : ℕ × V). P z.0 z.1) (λ i. (sym (t.0 ∙ long) i, t.1 i)) new)
      (at_end vs n u j e) in
      record {
        history = r.history;
        drawn = r.drawn;
        served = r.served;
        wide = r.wide;
        deep = r.deep;
        next = r.next;
        now = r.now;
        bounded = r.bounded;
        parts = omega (arith, r.parts);
        counted = omega (arith, r.counted);
        held = λ k lo hi. let h = held_still caller leads x0 seats s r id v w at refl refl k lo hi in (h.0, h.1, at_longer vs (n ∷ []) h.0 h.1 h.2, h.3, h.4);
        apart = spread (λ i a. (j : ℕ) (b : V) → get_elem? (vs ++ n ∷ []) j ≡ some b → tickets a.stage ≡ 1 → tickets b.stage ≡ 1 → ticket_of a.stage ≡ ticket_of b.stage → i ≡ j)
            (λ i a e. spread (λ j b. tickets a.stage ≡ 1 → tickets b.stage ≡ 1 → ticket_of a.stage ≡ ticket_of b.stage → i ≡ j)
            (λ j b e'. apart_still caller leads x0 seats s r id v w at refl refl i a e j b e') (λ _ z _. absurd (omega arith)))
            (λ j b _ z _ _. absurd (omega arith));
        one_turn = omega (arith, r.one_turn);
        each_seat = spread (λ j u. Fits caller r.history r.drawn r.served j u)
            (all_set (λ j u. Fits caller r.history r.drawn r.served j u) s.views id w
            record {
              begins = mine.begins;
              told_begins = mine.told_begins;
              theirs = mine.theirs;
              mine = λ _. mine.mine (omega arith);
              mine_seen = λ _. mine.mine_seen (omega arith);
              live = inr (omega arith);
              has_part = omega arith;
              queued = mine.queued;
              turn = mine.turn;
            }
            (λ j u ne e. r.each_seat j u e))
            record {
              begins = mine.begins;
              told_begins = mine.begins;
              theirs = ((λ same. absurd (omega (arith, at_less s.views id v at))), ap (calls_by caller id) (longer_same v.seen) ∙ mine.mine_seen (omega arith));
              mine = λ _. r.unmade (length s.views) (omega arith);
              mine_seen = λ _. calls_none caller (length s.views) r.history v.seen mine.begins (r.unmade (length s.views) (omega arith));
              live = inr (omega arith);
              has_part = omega arith;
              queued = λ z. absurd (omega arith);
              turn = λ z. absurd (omega arith);
            };
        known = (known_still.0, known_still.1, at_longer vs (n ∷ []) known_still.0 known_still.1 known_still.2, known_still.3, known_still.4);
        unmade = λ j l. r.unmade j (omega (arith, length-append vs (n ∷ [])));
        home = λ z. r.home (omega arith);
        away = λ z. r.away (omega arith);
      }
