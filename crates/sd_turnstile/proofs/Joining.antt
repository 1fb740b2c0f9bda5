-- Joining a seat keeps the rule.
use Rattle.std.proofs.Common.{◌≡◌, ◌≢◌, ◌⊎◌, ℕ, ◌+◌, ◌<◌, List, set, refl, sym, ap, ◌∙◌, subst, arith, length-set, Option, None, inl, inr}
use mathlib.Core.Logic.{dite}
use mathlib.Core.Option.{some, some-injective}
use native.Mathlib.Decide.{ℕ_discrete}
use lib.ListN.{get_elem?}
use Rattle.atomic_table.specs.Table.{State, Joins}
use Rattle.atomic_table.proofs.Lists.{set_else}
use Rattle.sd_turnstile.specs.declared.view.Stage.TheVariants.{Idle}
use Rattle.sd_turnstile.specs.declared.view.View.{View}
use Rattle.sd_turnstile.specs.History.{longer}
use Rattle.sd_turnstile.specs.Order.{tickets, turns, ticket_of, spent, heard, Fits, total, IsKnown, InOrder}
use Rattle.sd_turnstile.specs.Plays.{with_both}
use Rattle.sd_turnstile.proofs.Lists.{set_there, all_set, total-set, longer_begins, calls_between}
use Rattle.sd_turnstile.proofs.Ordered.{seen_whole, same_seat, held_still, apart_still}

module _ {O E : Type 0} (caller : E → ℕ) (leads : O → List E → O → Type 0) (x0 : O) (seats : ℕ) where
  abbrev Rule : State (Option O) (View E) → Type 0
  Rule = InOrder caller leads x0 seats

  abbrev V : Type 0
  V = View E

  -- the history is known after one seat has taken another in, where it knows what both did
  known_both : (s : State (Option O) (View E)) (r : Rule s) (id : ℕ) (v : V) (other : ℕ) (u w : V) → get_elem? s.views id ≡ some v → get_elem? s.views other ≡ some u → ¬ (other ≡ id)
      → ((v.seen ≡ r.history) ⊎ (heard v.told ≡ r.history) → (0 < w.parts) × ((w.seen ≡ r.history) ⊎ (heard w.told ≡ r.history)))
      → ((u.seen ≡ r.history) ⊎ (heard u.told ≡ r.history) → (0 < w.parts) × ((w.seen ≡ r.history) ⊎ (heard w.told ≡ r.history)))
      → IsKnown r.history (set (set s.views id w) other spent)
  known_both s r id v other u w at there apart by_mine by_theirs =
      let k = r.known in
      let K : V → Type 0 = λ x. (x.seen ≡ r.history) ⊎ (heard x.told ≡ r.history) in
      let here : get_elem? (set (set s.views id w) other spent) id ≡ some w = set_else (set s.views id w) other id spent (λ same. apart (sym same)) ∙ set_there s.views id v w at in
      dite (ℕ_discrete k.0 id)
      (λ same. let now = by_mine (subst K (sym (same_seat caller leads x0 seats s id k.0 v k.1 at k.2 same)) k.4) in (id, w, here, now.0, now.1))
      (λ ne. dite (ℕ_discrete k.0 other)
      (λ same. let now = by_theirs (subst K (sym (same_seat caller leads x0 seats s other k.0 u k.1 there k.2 same)) k.4) in (id, w, here, now.0, now.1))
      (λ ne'. (k.0, k.1, set_else (set s.views id w) other k.0 spent ne' ∙ (set_else s.views id k.0 w ne ∙ k.2), k.3, k.4)))

  pub joins : (id : ℕ) (v : V) (other : ℕ) (u : V) → 0 < v.parts → 0 < u.parts → v.stage ≡ Idle → u.stage ≡ Idle → v.told ≡ None → u.told ≡ None → Joins Rule id v other u (with_both other v u) spent
  joins id v other u some_part their_part idle idle' untold untold' s r at apart there =
      let w : V = with_both other v u in
      let vs : List V = set s.views id w in
      let mine = r.each_seat id v at in
      let there' : get_elem? s.views other ≡ some u = sym (set_else s.views id other w apart) ∙ there in
      let theirs = r.each_seat other u there' in
      let none_mine : tickets v.stage ≡ 0 = ap tickets idle in
      let none_theirs : tickets u.stage ≡ 0 = ap tickets idle' in
      let longest = longer_begins r.history v.seen u.seen mine.begins theirs.begins in
      let quiet : turns u.stage ≡ 0 = ap turns idle' in
      let both : (f : V → ℕ) → total f (set vs other spent) + f u + f v ≡ total f s.views + f w + f spent = λ f. omega (arith, total-set f vs other u spent there, total-set f s.views id v w at) in
      let ts = both (λ (x : V). tickets x.stage) in
      let us = both (λ (x : V). turns x.stage) in
      let ps = both (λ (x : V). x.parts) in
      record {
        history = r.history;
        drawn = r.drawn;
        served = r.served;
        wide = r.wide;
        deep = r.deep;
        next = r.next;
        now = r.now;
        bounded = r.bounded;
        parts = omega (arith, r.parts);
        counted = omega (arith, r.counted);
        held = λ k lo hi. let h = held_still caller leads x0 seats s r id v w at refl refl k lo hi in
            let ne : h.0 ≢ other = λ same. absurd (omega (arith, h.3, ap (λ (x : V). tickets x.stage) (some-injective u h.1 (sym there ∙ (ap (get_elem? vs) (sym same) ∙ h.2))))) in
            (h.0, h.1, set_else vs other h.0 spent ne ∙ h.2, h.3, h.4);
        apart = all_set (λ i a. (j : ℕ) (b : V) → get_elem? (set vs other spent) j ≡ some b → tickets a.stage ≡ 1 → tickets b.stage ≡ 1 → ticket_of a.stage ≡ ticket_of b.stage → i ≡ j) vs other spent
            (λ j b _ z _ _. absurd (omega arith))
            (λ i a ne e. all_set (λ j b. tickets a.stage ≡ 1 → tickets b.stage ≡ 1 → ticket_of a.stage ≡ ticket_of b.stage → i ≡ j) vs other spent
            (λ _ z _. absurd (omega arith))
            (λ j b ne' e'. apart_still caller leads x0 seats s r id v w at refl refl i a e j b e'));
        one_turn = omega (arith, r.one_turn);
        each_seat = all_set (λ j x. Fits caller r.history r.drawn r.served j x) vs other spent
            record {
              begins = (r.history, refl);
              told_begins = (r.history, refl);
              theirs = tt;
              mine = λ z. absurd (omega arith);
              mine_seen = λ z. absurd (omega arith);
              live = inl refl;
              has_part = omega arith;
              queued = λ z. absurd (omega arith);
              turn = λ z. absurd (omega arith);
            }
            (λ j x _ e'. all_set (λ k y. Fits caller r.history r.drawn r.served k y) s.views id w
            record {
              begins = mine.begins;
              told_begins = theirs.begins;
              theirs = (apart, calls_between caller other r.history (longer v.seen u.seen) u.seen u.own longest.0 longest.2 (theirs.mine their_part) (theirs.mine_seen their_part));
              mine = λ _. mine.mine some_part;
              mine_seen = λ _. mine.mine_seen some_part;
              live = inr (omega arith);
              has_part = omega (arith, mine.has_part);
              queued = mine.queued;
              turn = mine.turn;
            }
            (λ k y _ e. r.each_seat k y e) j x e');
        known = known_both s r id v other u w at there' apart (λ z. (omega (arith, some_part), inl (seen_whole r.history v untold mine.begins z))) (λ z. (omega (arith, some_part), inr (seen_whole r.history u untold' theirs.begins z)));
        unmade = λ j l. r.unmade j (omega (arith, length-set vs other (spent {E = E}), length-set s.views id w));
        home = λ z. r.home (omega arith);
        away = λ z. r.away (omega arith);
      }
