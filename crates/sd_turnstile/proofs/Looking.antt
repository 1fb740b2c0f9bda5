-- Looking at the ticket that is served keeps the rule: a seat whose ticket it is has its turn.
use Rattle.std.proofs.Common.{◌≡◌, ℕ, ◌<◌, List, [], set, get_or, refl, sym, ap, ◌∙◌, subst, arith, append-nil, length-set, Option, Some, None, inl, inr}
use Rattle.std.specs.Prelude.{IfSome}
use mathlib.Core.Logic.{dite}
use mathlib.Core.Option.{none}
use native.Mathlib.Decide.{ℕ_discrete}
use lib.Seq.{set-get_or}
use Rattle.atomic_table.specs.Table.{State, Me, step, keeps, takes, Allows}
use Rattle.atomic_table.proofs.Lists.{set_here}
use Rattle.sd_turnstile.specs.declared.view.Stage.TheVariants.{Waiting, Serving}
use Rattle.sd_turnstile.specs.declared.view.View.{View}
use Rattle.sd_turnstile.specs.History.{calls_by}
use Rattle.sd_turnstile.specs.Order.{tickets, turns, ticket_of, view, Fits, all_turns, InOrder}
use Rattle.sd_turnstile.specs.Plays.{looked}
use Rattle.sd_turnstile.proofs.Lists.{set_there, all_set, total-set}
use Rattle.sd_turnstile.proofs.Ordered.{held_still, apart_still, nobody_turns, unmoved}

module _ {O E : Type 0} (caller : E → ℕ) (leads : O → List E → O → Type 0) (x0 : O) (seats : ℕ) where
  abbrev M : Type 0
  M = Me (Option O) (View E)

  abbrev Rule : State (Option O) (View E) → Type 0
  Rule = InOrder caller leads x0 seats

  abbrev V : Type 0
  V = View E

  pub looks : (slots id by t : ℕ) (start : Option O) (m : M) → m.0.stage ≡ Waiting t → 0 < m.0.parts → by ≡ id → start ≡ Some x0
      → Allows Rule slots id m 1 (λ n. n) (looked caller leads by start (step slots 1 0 0 none) m)
  looks slots id by t start m waits some_part me opened s r _ at _ =
      let n : ℕ = get_or s.words 1 0 in
      dite (ℕ_discrete n (ticket_of m.0.stage))
      (λ yes_mine.
      let one : tickets m.0.stage ≡ 1 = ap tickets waits in
      let none_yet : turns m.0.stage ≡ 0 = ap turns waits in
      let nobody : all_turns s.views ≡ 0 = nobody_turns caller leads x0 seats s r id m.0 at one none_yet (sym yes_mine ∙ r.now) in
      let there = r.home nobody in
      let x : O = there.0 in
      let w : V = view m.0.parts r.history m.0.own None (Serving n) in
      let mine = r.each_seat id m.0 at in
      let deep = r.deep in
      let ts = total-set (λ (v : V). tickets v.stage) s.views id m.0 w at in
      let us = total-set (λ (v : V). turns v.stage) s.views id m.0 w at in
      let ps = total-set (λ (v : V). v.parts) s.views id m.0 w at in (
        w,
        takes 0 (Some x),
        there.1,
        subst (λ (ws : List ℕ). Rule record { words = ws; homes = set s.homes 0 none; views = set s.views id w }) (sym (set-get_or s.words 1 0)) record {
          history = r.history;
          drawn = r.drawn;
          served = r.served;
          wide = r.wide;
          deep = length-set s.homes 0 none ∙ r.deep;
          next = r.next;
          now = r.now;
          bounded = r.bounded;
          parts = omega (arith, r.parts);
          counted = omega (arith, r.counted);
          held = held_still caller leads x0 seats s r id m.0 w at (sym one) yes_mine;
          apart = apart_still caller leads x0 seats s r id m.0 w at (sym one) yes_mine;
          one_turn = omega arith;
          each_seat = all_set (λ j v. Fits caller r.history r.drawn r.served j v) s.views id w
              record {
                begins = ([], sym (append-nil r.history));
                told_begins = (r.history, refl);
                theirs = tt;
                mine = mine.mine;
                mine_seen = mine.mine;
                live = inr some_part;
                has_part = omega (arith, mine.has_part);
                queued = λ _. let q = mine.queued one in (q.0, q.1, q.2, yes_mine ∙ q.3);
                turn = λ _. (r.now, refl);
              }
              (λ j u ne e. r.each_seat j u e);
          known = (id, w, set_there s.views id m.0 w at, some_part, inl refl);
          unmade = λ j l. r.unmade j (omega (arith, length-set s.views id w));
          home = λ z. absurd (omega arith);
          away = λ _. set_here s.homes 0 none (omega arith);
        },
        (
          λ _. record {
            history = r.history;
            object = x;
            now = refl;
            begins = mine.begins;
            mine = ap (λ (k : ℕ). calls_by caller k r.history) me ∙ mine.mine some_part;
            legal = subst (λ (o : Option O). IfSome o (λ y. leads y r.history x)) (sym opened) there.2;
          },
          λ not_mine. absurd (not_mine yes_mine),
        ),
      ))
      (λ not_mine. (m.0, keeps, tt, unmoved caller leads x0 seats s r 1 id m.1 m.0 at, ((λ yes_mine. absurd (not_mine yes_mine)), λ _. refl)))
