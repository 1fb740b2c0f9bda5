-- What follows from the rule, and a seat that keeps its ticket.
use Rattle.std.proofs.Common.{◌≡◌, ◌⊎◌, ℕ, ◌+◌, ◌%◌, ◌^◌, ◌<◌, ◌≤◌, List, [], set, get_or, refl, sym, ap, ◌∙◌, subst, inl, inr, ⊎_elim, arith, Option, None}
use mathlib.Core.Logic.{dite}
use mathlib.Core.Option.{some, none, some-injective}
use native.Mathlib.Decide.{ℕ_discrete, dec_le}
use lib.ListN.{get_elem?}
use lib.Seq.{set-get_or}
use Rattle.atomic_table.specs.Table.{State, keeps, stepped}
use Rattle.atomic_table.proofs.Lists.{set_else, set_again, one_turn}
use Rattle.sd_turnstile.specs.declared.view.Stage.{Stage}
use Rattle.sd_turnstile.specs.declared.view.Stage.TheVariants.{Idle, Waiting, Serving}
use Rattle.sd_turnstile.specs.declared.view.View.{View}
use Rattle.sd_turnstile.specs.History.{StartsWith}
use Rattle.sd_turnstile.specs.Order.{tickets, turns, ticket_of, heard, all_tickets, all_turns, all_parts, IsKnown, InOrder}
use Rattle.sd_turnstile.proofs.Lists.{set_there, all_set, total_none, total_le, term_le, append_none}

-- the number after a ticket
pub next_ticket : (n d : ℕ) → n ≡ d % 2 ^ 64 → (n + 1) % 2 ^ 64 ≡ (d + 1) % 2 ^ 64
next_ticket n d e = omega arith

-- two numbers that are close, with one ticket
pub close_numbers : (a b : ℕ) → a < b + 2 ^ 64 → b < a + 2 ^ 64 → a % 2 ^ 64 ≡ b % 2 ^ 64 → a ≡ b
close_numbers a b l m e = dite (dec_le a b) (λ le. one_turn a b (2 ^ 64) le m e) (λ ne. sym (one_turn b a (2 ^ 64) (omega arith) l (sym e)))

pub turn_or_none : (st : Stage) → (turns st ≡ 0) ⊎ ((turns st ≡ 1) × (tickets st ≡ 1))
turn_or_none Idle = inl refl
turn_or_none (Waiting t) = inl refl
turn_or_none (Serving t) = inr (refl, refl)

module _ {E : Type 0} where
  -- the history is known after one seat has changed, where that seat knows as much as before
  pub known_set : (history : List E) (views : List (View E)) (id : ℕ) (v w : View E) → get_elem? views id ≡ some v
      → (0 < v.parts → (v.seen ≡ history) ⊎ (heard v.told ≡ history) → (0 < w.parts) × ((w.seen ≡ history) ⊎ (heard w.told ≡ history)))
      → IsKnown history views → IsKnown history (set views id w)
  known_set history views id v w at as_much k =
      dite (ℕ_discrete k.0 id)
      (λ same.
      let is : v ≡ k.1 = some-injective v k.1 (sym at ∙ (ap (get_elem? views) (sym same) ∙ k.2)) in
      let now = as_much (subst (λ (x : View E). 0 < x.parts) (sym is) k.3) (subst (λ (x : View E). (x.seen ≡ history) ⊎ (heard x.told ≡ history)) (sym is) k.4) in
      (id, w, set_there views id v w at, now.0, now.1))
      (λ ne. (k.0, k.1, set_else views id k.0 w ne ∙ k.2, k.3, k.4))

  -- a seat that was told nothing and knows the whole history has seen it
  pub seen_whole : (history : List E) (v : View E) → v.told ≡ None → StartsWith history v.seen → (v.seen ≡ history) ⊎ (heard v.told ≡ history) → v.seen ≡ history
  seen_whole history v untold s which =
      ⊎_elim (λ (e : v.seen ≡ history). e)
      (λ (e : heard v.told ≡ history). let none_there : history ≡ [] = sym e ∙ ap heard untold in append_none v.seen s.0 (sym s.1 ∙ none_there) ∙ sym none_there)
      which

module _ {O E : Type 0} (caller : E → ℕ) (leads : O → List E → O → Type 0) (x0 : O) (seats : ℕ) where
  abbrev St : Type 0
  St = State (Option O) (View E)

  abbrev Rule : State (Option O) (View E) → Type 0
  Rule = InOrder caller leads x0 seats

  abbrev V : Type 0
  V = View E

  -- fewer tickets than 2^32
  pub few_tickets : (s : St) (r : Rule s) → r.drawn < r.served + 2 ^ 32
  few_tickets s r =
      let le : all_tickets s.views ≤ all_parts s.views = total_le (λ v. tickets v.stage) (λ v. v.parts) s.views (λ j v e. (r.each_seat j v e).has_part) in
      let c = r.counted in let p = r.parts in let b = r.bounded in omega arith

  -- one seat is at one place
  pub same_seat : (s : St) (i j : ℕ) (v u : V) → get_elem? s.views i ≡ some v → get_elem? s.views j ≡ some u → j ≡ i → v ≡ u
  same_seat s i j v u at e same = some-injective v u (sym at ∙ (ap (get_elem? s.views) (sym same) ∙ e))

  -- a seat that changes and keeps its ticket
  module _ (s : St) (r : Rule s) (id : ℕ) (v w : V) (at : get_elem? s.views id ≡ some v) (one : tickets w.stage ≡ tickets v.stage) (same : ticket_of w.stage ≡ ticket_of v.stage) where
    pub held_still : (n : ℕ) → r.served ≤ n → n < r.drawn → (by : ℕ) × (u : V) × (get_elem? (set s.views id w) by ≡ some u) × (tickets u.stage ≡ 1) × (ticket_of u.stage ≡ n % 2 ^ 64)
    held_still n lo hi =
        let h = r.held n lo hi in
        dite (ℕ_discrete h.0 id)
        (λ e. let is : v ≡ h.1 = same_seat s id h.0 v h.1 at h.2 e in
        (id, w, set_there s.views id v w at, one ∙ (ap (λ (z : V). tickets z.stage) is ∙ h.3), same ∙ (ap (λ (z : V). ticket_of z.stage) is ∙ h.4)))
        (λ ne. (h.0, h.1, set_else s.views id h.0 w ne ∙ h.2, h.3, h.4))

    pub apart_still : (i : ℕ) (a : V) → get_elem? (set s.views id w) i ≡ some a → (j : ℕ) (b : V) → get_elem? (set s.views id w) j ≡ some b → tickets a.stage ≡ 1 → tickets b.stage ≡ 1 → ticket_of a.stage ≡ ticket_of b.stage → i ≡ j
    apart_still =
        all_set
        (λ i a. (j : ℕ) (b : V) → get_elem? (set s.views id w) j ≡ some b → tickets a.stage ≡ 1 → tickets b.stage ≡ 1 → ticket_of a.stage ≡ ticket_of b.stage → i ≡ j)
        s.views id w
        (all_set (λ j b. tickets w.stage ≡ 1 → tickets b.stage ≡ 1 → ticket_of w.stage ≡ ticket_of b.stage → id ≡ j) s.views id w (λ _ _ _. refl)
        (λ j b ne e mine theirs eq. r.apart id v at j b e (sym one ∙ mine) theirs (sym same ∙ eq)))
        (λ i a ne e. all_set (λ j b. tickets a.stage ≡ 1 → tickets b.stage ≡ 1 → ticket_of a.stage ≡ ticket_of b.stage → i ≡ j) s.views id w
        (λ theirs mine eq. r.apart i a e id v at theirs (sym one ∙ mine) (eq ∙ same))
        (λ j b ne' e'. r.apart i a e j b e'))

  -- a seat whose ticket is served has its turn, or nobody has
  pub nobody_turns : (s : St) (r : Rule s) (id : ℕ) (v : V) → get_elem? s.views id ≡ some v → tickets v.stage ≡ 1 → turns v.stage ≡ 0 → ticket_of v.stage ≡ r.served % 2 ^ 64 → all_turns s.views ≡ 0
  nobody_turns s r id v at one waits is =
      total_none (λ (u : V). turns u.stage) s.views (λ j u e. ⊎_elim (λ (z : turns u.stage ≡ 0). z)
      (λ (z : (turns u.stage ≡ 1) × (tickets u.stage ≡ 1)).
      let same : id ≡ j = r.apart id v at j u e one z.1 (is ∙ sym ((r.each_seat j u e).turn z.0).0) in
      let seat : v ≡ u = same_seat s id j v u at e (sym same) in
      ap (λ (x : V). turns x.stage) (sym seat) ∙ waits)
      (turn_or_none u.stage))

  -- while a seat has its turn, the slot is out
  pub out_in_turn : (s : St) (r : Rule s) (id t : ℕ) (v : V) → get_elem? s.views id ≡ some v → v.stage ≡ Serving t → get_elem? s.homes 0 ≡ some none
  out_in_turn s r id t v at serving =
      let share = term_le (λ (u : V). turns u.stage) s.views id v at in
      let most = r.one_turn in
      r.away (omega (arith, ap turns serving))

  -- the rule, where nothing but what is in the slot that is out changes
  pub exchanged : (s : St) (r : Rule s) (id t : ℕ) (v : V) → get_elem? s.views id ≡ some v → v.stage ≡ Serving t
      → (get_elem? s.homes 0 ≡ some none) × Rule record { words = s.words; homes = s.homes; views = set s.views id v }
  exchanged s r id t v at serving = (
    out_in_turn s r id t v at serving,
    subst (λ (vs : List V). Rule record { words = s.words; homes = s.homes; views = vs }) (sym (set_again s.views id v at)) r,
  )

  -- the rule, where no word and no view changes
  pub unmoved : (s : St) (r : Rule s) (i id : ℕ) (c : List (ℕ × Option O)) (v : V) → get_elem? s.views id ≡ some v → Rule (stepped s i (get_or s.words i 0) id c v keeps)
  unmoved s r i id c v at = subst (λ (ws : List ℕ). Rule record { words = ws; homes = s.homes; views = set s.views id v }) (sym (set-get_or s.words i 0))
      (subst (λ (vs : List V). Rule record { words = s.words; homes = s.homes; views = vs }) (sym (set_again s.views id v at)) r)
