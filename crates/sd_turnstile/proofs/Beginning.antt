-- The rule holds at the opening, and a seat that has all parts finds the object at home.
use Rattle.std.proofs.Common.{◌≡◌, ℕ, zero, suc, ◌^◌, ◌<◌, ◌⊎◌, List, [], ◌∷◌, refl, sym, ap, ◌∙◌, subst, ⊎_elim, arith, Option, Some, None, inl, inr}
use mathlib.Core.Logic.{dite}
use mathlib.Core.Option.{some, some-injective, some-ne-none}
use native.Mathlib.Decide.{ℕ_discrete}
use lib.ListN.{get_elem?}
use Rattle.atomic_table.specs.Table.{State, opening, Final, Seen}
use Rattle.sd_turnstile.specs.declared.view.Stage.TheVariants.{Idle}
use Rattle.sd_turnstile.specs.declared.view.View.{View}
use Rattle.sd_turnstile.specs.History.{calls_by}
use Rattle.sd_turnstile.specs.Order.{tickets, turns, first_view, heard, Fits, InOrder}
use Rattle.sd_turnstile.proofs.Lists.{terms_le, total_none}
use Rattle.sd_turnstile.proofs.Ordered.{turn_or_none, seen_whole, same_seat}

module _ {O E : Type 0} (caller : E → ℕ) (leads : O → List E → O → Type 0) (x0 : O) (seats : ℕ) where
  abbrev St : Type 0
  St = State (Option O) (View E)

  abbrev Rule : State (Option O) (View E) → Type 0
  Rule = InOrder caller leads x0 seats

  abbrev V : Type 0
  V = View E

  pub begins : 0 < seats → seats < 2 ^ 32 → leads x0 [] x0 → Rule (opening (0 ∷ 0 ∷ []) (Some x0 ∷ []) (first_view seats))
  begins one_part few stays = record {
    history = [];
    drawn = 0;
    served = 0;
    wide = refl;
    deep = refl;
    next = refl;
    now = refl;
    bounded = few;
    parts = omega arith;
    counted = refl;
    held = λ k lo hi. absurd (omega arith);
    apart = λ i v e j w e' z. absurd (omega (arith, only_idle i v e));
    one_turn = omega arith;
    each_seat = λ by v e. first_fits by v e;
    known = (0, first_view seats, refl, one_part, inl refl);
    unmade = λ by l. refl;
    home = λ _. (x0, refl, stays);
    away = λ z. absurd (omega arith);
  }
    where
      only_idle : (i : ℕ) (v : V) → get_elem? (first_view {E = E} seats ∷ []) i ≡ some v → tickets v.stage ≡ 0
      only_idle zero v e = ap (λ (x : V). tickets x.stage) (sym (some-injective (first_view seats) v e))
      only_idle (suc i) v e = absurd (some-ne-none v (sym e))

      first_fits : (by : ℕ) (v : V) → get_elem? (first_view {E = E} seats ∷ []) by ≡ some v → Fits caller [] 0 0 by v
      first_fits zero v e = subst (λ (x : V). Fits caller [] 0 0 0 x) (some-injective (first_view seats) v e) record {
        begins = ([], refl);
        told_begins = ([], refl);
        theirs = tt;
        mine = λ _. refl;
        mine_seen = λ _. refl;
        live = inr one_part;
        has_part = omega arith;
        queued = λ z. absurd (omega arith);
        turn = λ z. absurd (omega arith);
      }
      first_fits (suc by) v e = absurd (some-ne-none v (sym e))

  -- where a seat that is in no turn has all parts, nobody else has a turn: the object is at home
  pub rests : (s : St) (r : Rule s) (id : ℕ) (v : V) → get_elem? s.views id ≡ some v → v.stage ≡ Idle → v.parts ≡ seats
      → (x : O) × (get_elem? s.homes 0 ≡ some (some (Some x))) × leads x0 r.history x
  rests s r id v at idle all = r.home (total_none (λ (u : V). turns u.stage) s.views (λ j u e.
      dite (ℕ_discrete j id)
      (λ same. ap (λ (x : V). turns x.stage) (sym (same_seat caller leads x0 seats s id j v u at e same)) ∙ ap turns idle)
      (λ ne.
      let f = r.each_seat j u e in let p = r.parts in let has = f.has_part in
      let sum = terms_le (λ (x : V). x.parts) s.views id j v u ne at e in
      ⊎_elim (λ (z : turns u.stage ≡ 0). z) (λ (z : (turns u.stage ≡ 1) × (tickets u.stage ≡ 1)). absurd (omega (arith, z.1))) (turn_or_none u.stage))))

  -- a seat that has all parts has seen the whole history
  has_seen_all : (s : St) (r : Rule s) (id : ℕ) (v : V) → get_elem? s.views id ≡ some v → v.told ≡ None → v.parts ≡ seats → v.seen ≡ r.history
  has_seen_all s r id v at untold all =
      let k = r.known in
      dite (ℕ_discrete k.0 id)
      (λ same.
      let is : v ≡ k.1 = same_seat caller leads x0 seats s id k.0 v k.1 at k.2 same in
      seen_whole r.history v untold (r.each_seat id v at).begins (subst (λ (x : V). (x.seen ≡ r.history) ⊎ (heard x.told ≡ r.history)) (sym is) k.4))
      (λ ne. let sum = terms_le (λ (x : V). x.parts) s.views id k.0 v k.1 ne at k.2 in absurd (omega (arith, r.parts, k.3)))

  -- what is in the slot at the end, where such a seat is left
  pub ended : (id : ℕ) (v : V) (ws : List ℕ) (xs : List (Option O)) (got : Option O) → v.stage ≡ Idle → v.told ≡ None → v.parts ≡ seats → 0 < v.parts → Final (Seen Rule id v) ws xs → get_elem? xs 0 ≡ some got
      → (x : O) × (got ≡ Some x) × leads x0 v.seen x × (calls_by caller id v.seen ≡ v.own)
  ended id v ws xs got idle untold all some_part f here =
      let r : Rule f.0 = f.1.0 in
      let x = rests f.0 r id v f.1.1 idle all in
      let mine = r.each_seat id v f.1.1 in
      (x.0, some-injective got (Some x.0) (sym here ∙ f.4 0 (Some x.0) x.1), subst (λ (l : List E). leads x0 l x.0) (sym (has_seen_all f.0 r id v f.1.1 untold all)) x.2, mine.mine_seen some_part)
