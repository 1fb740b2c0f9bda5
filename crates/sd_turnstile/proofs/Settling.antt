-- A seat that was split off or took another in has then seen what it was told, too.
use Rattle.std.proofs.Common.{◌≡◌, ℕ, ◌<◌, List, set, refl, sym, ap, ◌∙◌, subst, arith, length-set, Option, None, inl, inr}
use mathlib.Core.Option.{none}
use lib.Seq.{set-get_or}
use Rattle.atomic_table.specs.Table.{State, Me, step, keeps, Allows}
use Rattle.sd_turnstile.specs.declared.view.Stage.TheVariants.{Idle}
use Rattle.sd_turnstile.specs.declared.view.View.{View}
use Rattle.sd_turnstile.specs.History.{longer, calls_by}
use Rattle.sd_turnstile.specs.Order.{tickets, turns, view, heard, KnowsTheirs, Fits, InOrder}
use Rattle.sd_turnstile.specs.Plays.{settled}
use Rattle.sd_turnstile.proofs.Lists.{all_set, total-set, term_le, calls_between, longer_begins, longer_whole}
use Rattle.sd_turnstile.proofs.Ordered.{known_set, held_still, apart_still}

module _ {O E : Type 0} (caller : E → ℕ) (leads : O → List E → O → Type 0) (x0 : O) (seats : ℕ) where
  abbrev M : Type 0
  M = Me (Option O) (View E)

  abbrev Rule : State (Option O) (View E) → Type 0
  Rule = InOrder caller leads x0 seats

  abbrev V : Type 0
  V = View E

  pub settles : (slots id by : ℕ) (m : M) → m.0.stage ≡ Idle → 0 < m.0.parts → by ≡ id → Allows Rule slots id m 0 (λ n. n) (settled caller by (step slots 0 0 0 none) m)
  settles slots id by m idle some_part me s r _ at _ =
      let told : List E = heard m.0.told in
      let seen : List E = longer m.0.seen told in
      let w : V = view m.0.parts seen m.0.own None m.0.stage in
      let mine = r.each_seat id m.0 at in
      let both = longer_begins r.history m.0.seen told mine.begins mine.told_begins in
      let own : calls_by caller id seen ≡ m.0.own = calls_between caller id r.history seen m.0.seen m.0.own both.0 both.1 (mine.mine some_part) (mine.mine_seen some_part) in
      let no_turn : turns m.0.stage ≡ 0 = ap turns idle in
      let ts = total-set (λ (v : V). tickets v.stage) s.views id m.0 w at in
      let us = total-set (λ (v : V). turns v.stage) s.views id m.0 w at in
      let ps = total-set (λ (v : V). v.parts) s.views id m.0 w at in (
        w,
        keeps,
        tt,
        subst (λ (ws : List ℕ). Rule record { words = ws; homes = s.homes; views = set s.views id w }) (sym (set-get_or s.words 0 0)) record {
          history = r.history;
          drawn = r.drawn;
          served = r.served;
          wide = r.wide;
          deep = r.deep;
          next = r.next;
          now = r.now;
          bounded = r.bounded;
          parts = omega (arith, r.parts);
          counted = omega (arith, r.counted);
          held = held_still caller leads x0 seats s r id m.0 w at refl refl;
          apart = apart_still caller leads x0 seats s r id m.0 w at refl refl;
          one_turn = omega (arith, r.one_turn);
          each_seat = all_set (λ j v. Fits caller r.history r.drawn r.served j v) s.views id w
              record {
                begins = both.0;
                told_begins = (r.history, refl);
                theirs = tt;
                mine = mine.mine;
                mine_seen = λ _. own;
                live = inr some_part;
                has_part = mine.has_part;
                queued = mine.queued;
                turn = λ z. absurd (omega arith);
              }
              (λ j u ne e. r.each_seat j u e);
          known = known_set r.history s.views id m.0 w at (λ p k. (p, inl (longer_whole r.history m.0.seen told mine.begins mine.told_begins k))) r.known;
          unmade = λ j l. r.unmade j (omega (arith, length-set s.views id w));
          home = λ z. r.home (omega arith);
          away = λ z. r.away (omega arith);
        },
        record {
          now = refl;
          begins = both.1;
          told_begins = both.2;
          mine = ap (λ (k : ℕ). calls_by caller k seen) me ∙ own;
          theirs = subst (λ (k : ℕ). KnowsTheirs caller k m.0.seen m.0.told) (sym me) mine.theirs;
          few = (let share = term_le (λ (v : V). v.parts) s.views id m.0 at in let p = r.parts in let b = r.bounded in omega arith);
        },
      )
