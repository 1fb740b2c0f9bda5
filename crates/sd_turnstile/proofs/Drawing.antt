-- Drawing a ticket keeps the rule.
use Rattle.std.proofs.Common.{◌≡◌, ℕ, ◌+◌, ◌%◌, ◌^◌, ◌<◌, ◌≤◌, List, set, get_or, refl, sym, ap, ◌∙◌, arith, length-set, get_or-set_same, get_or-set_other, Option, inr}
use mathlib.Core.Logic.{dite}
use mathlib.Core.Option.{some, none, some-injective}
use native.Mathlib.Decide.{ℕ_discrete}
use lib.ListN.{get_elem?}
use Rattle.atomic_table.specs.Table.{State, Me, step, keeps, Allows}
use Rattle.atomic_table.proofs.Lists.{set_else}
use Rattle.sd_turnstile.specs.declared.view.Stage.TheVariants.{Idle, Waiting}
use Rattle.sd_turnstile.specs.declared.view.View.{View}
use Rattle.sd_turnstile.specs.Order.{tickets, turns, ticket_of, view, Fits, all_turns, InOrder}
use Rattle.sd_turnstile.specs.Plays.{drew}
use Rattle.sd_turnstile.proofs.Lists.{set_there, all_set, total-set}
use Rattle.sd_turnstile.proofs.Ordered.{next_ticket, close_numbers, known_set, few_tickets}

module _ {O E : Type 0} (caller : E → ℕ) (leads : O → List E → O → Type 0) (x0 : O) (seats : ℕ) where
  abbrev M : Type 0
  M = Me (Option O) (View E)

  abbrev Rule : State (Option O) (View E) → Type 0
  Rule = InOrder caller leads x0 seats

  abbrev V : Type 0
  V = View E

  pub draws : (slots id : ℕ) (m : M) → m.0.stage ≡ Idle → 0 < m.0.parts → Allows Rule slots id m 0 (λ n. (n + 1) % 2 ^ 64) (drew (step slots 0 1 0 none) m)
  draws slots id m idle some_part s r _ at _ =
      let n : ℕ = get_or s.words 0 0 in
      let w : V = view m.0.parts m.0.seen m.0.own m.0.told (Waiting n) in
      let none_before : tickets m.0.stage ≡ 0 = ap tickets idle in
      let no_turn : turns m.0.stage ≡ 0 = ap turns idle in
      let few = few_tickets caller leads x0 seats s r in
      let mine = r.each_seat id m.0 at in
      let wide = r.wide in
      let ts = total-set (λ (v : V). tickets v.stage) s.views id m.0 w at in
      let us = total-set (λ (v : V). turns v.stage) s.views id m.0 w at in
      let ps = total-set (λ (v : V). v.parts) s.views id m.0 w at in
      let same_turns : all_turns (set s.views id w) ≡ all_turns s.views = omega arith in
      let new : (j : ℕ) (u : V) → get_elem? s.views j ≡ some u → tickets u.stage ≡ 1 → n ≡ ticket_of u.stage → ⊥ = λ j u e one same.
      let q = (r.each_seat j u e).queued one in
      let k : ℕ = q.0 in let lo : r.served ≤ k = q.1 in let hi : k < r.drawn = q.2 in
      let is : r.drawn ≡ k = close_numbers r.drawn k (omega arith) (omega arith) (sym r.next ∙ same ∙ q.3) in
      omega arith in (
        w,
        keeps,
        tt,
        record {
          history = r.history;
          drawn = r.drawn + 1;
          served = r.served;
          wide = length-set s.words 0 ((n + 1) % 2 ^ 64) ∙ r.wide;
          deep = r.deep;
          next = get_or-set_same s.words 0 ((n + 1) % 2 ^ 64) 0 (omega arith) ∙ next_ticket n r.drawn r.next;
          now = get_or-set_other s.words 0 1 ((n + 1) % 2 ^ 64) 0 (λ e. omega arith) ∙ r.now;
          bounded = r.bounded;
          parts = omega (arith, r.parts);
          counted = omega (arith, r.counted);
          held = λ k lo hi. dite (ℕ_discrete k r.drawn)
              (λ e. (id, w, set_there s.views id m.0 w at, refl, r.next ∙ ap (λ (z : ℕ). z % 2 ^ 64) (sym e)))
              (λ ne. let h = r.held k lo (omega arith) in
              (h.0, h.1, set_else s.views id h.0 w (λ same. absurd (omega (arith, h.3, ap (λ (z : V). tickets z.stage) (some-injective m.0 h.1 (sym at ∙ (ap (get_elem? s.views) (sym same) ∙ h.2)))))) ∙ h.2, h.3, h.4));
          apart = all_set
              (λ i v. (j : ℕ) (u : V) → get_elem? (set s.views id w) j ≡ some u → tickets v.stage ≡ 1 → tickets u.stage ≡ 1 → ticket_of v.stage ≡ ticket_of u.stage → i ≡ j)
              s.views id w
              (all_set (λ j u. tickets w.stage ≡ 1 → tickets u.stage ≡ 1 → ticket_of w.stage ≡ ticket_of u.stage → id ≡ j) s.views id w (λ _ _ _. refl) (λ j u ne e _ one same. absurd (new j u e one same)))
              (λ i v ne e. all_set (λ j u. tickets v.stage ≡ 1 → tickets u.stage ≡ 1 → ticket_of v.stage ≡ ticket_of u.stage → i ≡ j) s.views id w (λ one _ same. absurd (new i v e one (sym same)))
              (λ j u ne' e'. r.apart i v e j u e'));
          one_turn = omega (arith, r.one_turn);
          each_seat = all_set (λ by v. Fits caller r.history (r.drawn + 1) r.served by v) s.views id w
              record {
                begins = mine.begins;
                told_begins = mine.told_begins;
                theirs = mine.theirs;
                mine = mine.mine;
                mine_seen = mine.mine_seen;
                live = inr some_part;
                has_part = omega arith;
                queued = λ _. (r.drawn, omega (arith, r.counted), omega arith, r.next);
                turn = λ one. absurd (omega arith);
              }
              (λ j u ne e. let f = r.each_seat j u e in record {
                begins = f.begins;
                told_begins = f.told_begins;
                theirs = f.theirs;
                mine = f.mine;
                mine_seen = f.mine_seen;
                live = f.live;
                has_part = f.has_part;
                queued = λ one. let q = f.queued one in (q.0, q.1, (let l = q.2 in omega arith), q.3);
                turn = f.turn;
              });
          known = known_set r.history s.views id m.0 w at (λ p k. (p, k)) r.known;
          unmade = λ by l. r.unmade by (omega (arith, length-set s.views id w));
          home = λ z. r.home (omega arith);
          away = λ z. r.away (omega arith);
        },
        refl,
      )
