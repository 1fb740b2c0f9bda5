-- Serving the next ticket keeps the rule: the turn is over, and its entry is the last of the history.
use Rattle.std.proofs.Common.{◌≡◌, ◌≢◌, ℕ, ◌+◌, ◌%◌, ◌^◌, ◌<◌, ◌≤◌, List, [], ◌∷◌, ◌++◌, length, set, get_or, sym, ap, ◌∙◌, subst, arith, append-nil, length-set, get_or-set_same, get_or-set_other, Option, Some, None, refl, inl, inr}
use mathlib.Core.Option.{some, none}
use lib.ListN.{get_elem?}
use Rattle.atomic_table.specs.Table.{State, Me, step, rest, gives, stepped, Allows}
use Rattle.atomic_table.proofs.Lists.{set_here, set_else}
use Rattle.sd_turnstile.specs.declared.view.Stage.TheVariants.{Idle, Serving}
use Rattle.sd_turnstile.specs.declared.view.View.{View}
use Rattle.sd_turnstile.specs.History.{entries, IsBy}
use Rattle.sd_turnstile.specs.Order.{tickets, turns, ticket_of, view, heard, Fits, all_tickets, all_turns, InOrder}
use Rattle.sd_turnstile.specs.Plays.{advanced}
use Rattle.sd_turnstile.proofs.Lists.{at_less, set_there, all_set, total-set, term_le, terms_le, starts_more, calls_by-append, own_entries, other_entries}
use Rattle.sd_turnstile.proofs.Ordered.{next_ticket, close_numbers, few_tickets, same_seat}

module _ {O E : Type 0} (caller : E → ℕ) (leads : O → List E → O → Type 0) (x0 : O) (seats : ℕ) where
  abbrev M : Type 0
  M = Me (Option O) (View E)

  abbrev Rule : State (Option O) (View E) → Type 0
  Rule = InOrder caller leads x0 seats

  abbrev V : Type 0
  V = View E

  pub advances : (slots id t : ℕ) (entry : Option E) (y : O) (m : M) → m.0.stage ≡ Serving t → 0 < m.0.parts → m.1 ≡ (0, Some y) ∷ [] → IsBy caller id entry → leads x0 (m.0.seen ++ entries entry) y
      → Allows Rule slots id m 1 (λ n. (n + 1) % 2 ^ 64) (advanced entry (step slots 1 1 0 none) m)
  advances slots id t entry y m serving some_part has by_me legal s r _ at _ =
      let n : ℕ = get_or s.words 1 0 in
      let es : List E = entries entry in
      let w : V = view m.0.parts (m.0.seen ++ es) (m.0.own ++ es) None Idle in
      let mine = r.each_seat id m.0 at in
      let wide = r.wide in
      let deep = r.deep in
      let few = few_tickets caller leads x0 seats s r in
      let one : tickets m.0.stage ≡ 1 = ap tickets serving in
      let turn : turns m.0.stage ≡ 1 = ap turns serving in
      let now : ticket_of m.0.stage ≡ r.served % 2 ^ 64 = (mine.turn turn).0 in
      let seen : m.0.seen ≡ r.history = (mine.turn turn).1 in
      let ts = total-set (λ (v : V). tickets v.stage) s.views id m.0 w at in
      let us = total-set (λ (v : V). turns v.stage) s.views id m.0 w at in
      let ps = total-set (λ (v : V). v.parts) s.views id m.0 w at in
      let left : 0 < all_tickets s.views = (let l = term_le (λ (v : V). tickets v.stage) s.views id m.0 at in omega arith) in
      let most = r.one_turn in
      let quiet : all_turns (set s.views id w) ≡ 0 = omega arith in
      -- another seat's ticket is a later one
      let later : (j : ℕ) (u : V) → j ≢ id → get_elem? s.views j ≡ some u → tickets u.stage ≡ 1 → (k : ℕ) → ticket_of u.stage ≡ k % 2 ^ 64 → k ≢ r.served
      = λ j u ne e theirs k is same. ne (sym (r.apart id m.0 at j u e one theirs (now ∙ (ap (λ (z : ℕ). z % 2 ^ 64) (sym same) ∙ sym is)))) in (
        w,
        gives,
        tt,
        subst (λ (c : List (ℕ × Option O)). Rule (stepped s 1 ((n + 1) % 2 ^ 64) id c w gives)) (sym has) record {
          history = r.history ++ es;
          drawn = r.drawn;
          served = r.served + 1;
          wide = length-set s.words 1 ((n + 1) % 2 ^ 64) ∙ r.wide;
          deep = length-set s.homes 0 (some (Some y)) ∙ r.deep;
          next = get_or-set_other s.words 1 0 ((n + 1) % 2 ^ 64) 0 (λ e. omega arith) ∙ r.next;
          now = get_or-set_same s.words 1 ((n + 1) % 2 ^ 64) 0 (omega arith) ∙ next_ticket n r.served r.now;
          bounded = r.bounded;
          parts = omega (arith, r.parts);
          counted = omega (arith, r.counted);
          held = λ k lo hi. let h = r.held k (omega arith) hi in
              let ne : h.0 ≢ id = λ e. let is : m.0 ≡ h.1 = same_seat caller leads x0 seats s id h.0 m.0 h.1 at h.2 e in
              let same : r.served ≡ k = close_numbers r.served k (omega arith) (omega arith) (sym now ∙ (ap (λ (z : V). ticket_of z.stage) is ∙ h.4)) in
              absurd (omega arith) in
              (h.0, h.1, set_else s.views id h.0 w ne ∙ h.2, h.3, h.4);
          apart = all_set
              (λ i a. (j : ℕ) (b : V) → get_elem? (set s.views id w) j ≡ some b → tickets a.stage ≡ 1 → tickets b.stage ≡ 1 → ticket_of a.stage ≡ ticket_of b.stage → i ≡ j)
              s.views id w
              (λ j b _ mine _ _. absurd (omega arith))
              (λ i a ne e. all_set (λ j b. tickets a.stage ≡ 1 → tickets b.stage ≡ 1 → ticket_of a.stage ≡ ticket_of b.stage → i ≡ j) s.views id w
              (λ _ z _. absurd (omega arith))
              (λ j b ne' e'. r.apart i a e j b e'));
          one_turn = omega arith;
          each_seat = all_set (λ j v. Fits caller (r.history ++ es) r.drawn (r.served + 1) j v) s.views id w
              record {
                begins = ([], ap (λ (l : List E). l ++ es) (sym seen) ∙ sym (append-nil (m.0.seen ++ es)));
                told_begins = (r.history ++ es, refl);
                theirs = tt;
                mine = λ p. calls_by-append caller id r.history es ∙ (λ i. mine.mine some_part i ++ own_entries caller id entry by_me i);
                mine_seen = λ p. calls_by-append caller id m.0.seen es ∙ (λ i. mine.mine_seen some_part i ++ own_entries caller id entry by_me i);
                live = inr some_part;
                has_part = omega arith;
                queued = λ z. absurd (omega arith);
                turn = λ z. absurd (omega arith);
              }
              (λ j u ne e. let f = r.each_seat j u e in record {
                begins = starts_more r.history u.seen es f.begins;
                told_begins = starts_more r.history (heard u.told) es f.told_begins;
                theirs = f.theirs;
                mine = λ p. calls_by-append caller j r.history es ∙ ((λ i. f.mine p i ++ other_entries caller id j entry by_me ne i) ∙ append-nil u.own);
                mine_seen = f.mine_seen;
                live = f.live;
                has_part = f.has_part;
                queued = λ theirs. let q = f.queued theirs in let not_now = later j u ne e theirs q.0 q.3 in let lo = q.1 in (q.0, omega arith, q.2, q.3);
                turn = λ theirs.
                    let both = terms_le (λ (v : V). turns v.stage) s.views id j m.0 u ne at e in
                    absurd (omega arith);
              });
          known = (id, w, set_there s.views id m.0 w at, some_part, inl (ap (λ (l : List E). l ++ es) seen));
          unmade = λ j l.
              let long : length s.views ≤ j = omega (arith, length-set s.views id w) in
              let ne : j ≢ id = λ same. absurd (omega (arith, at_less s.views id m.0 at)) in
              calls_by-append caller j r.history es ∙ (λ i. r.unmade j long i ++ other_entries caller id j entry by_me ne i);
          home = λ _. (y, set_here s.homes 0 (some (Some y)) (omega arith), subst (λ (l : List E). leads x0 (l ++ es) y) seen legal);
          away = λ z. absurd (omega arith);
        },
        λ i. (w, rest (has i)),
      )
