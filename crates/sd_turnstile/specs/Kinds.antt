-- The kinds of step, and that each keeps the rule.
use Rattle.std.specs.Prelude.{◌≡◌, ℕ, ◌+◌, ◌%◌, ◌^◌, ◌<◌, List, [], ◌∷◌, ◌++◌, slice_set, Option, Some, None}
use mathlib.Core.Option.{some, none}
use lib.ListN.{get_elem?}
use Rattle.atomic_table.specs.Table.{State, Me, step, opening, Allows, Splits, Joins}
use Rattle.sd_turnstile.specs.declared.view.Stage.TheVariants.{Idle, Waiting, Serving}
use Rattle.sd_turnstile.specs.declared.view.View.{View}
use Rattle.sd_turnstile.specs.History.{entries, IsBy}
use Rattle.sd_turnstile.specs.Order.{first_view, spent, InOrder}
use Rattle.sd_turnstile.specs.Plays.{drew, looked, advanced, settled, first_part, new_part, with_both}

-- What is in the slot that a seat has is exchanged. The slot is out before and after, and the rule doesn't see what is in it.
abbrev pub Exchanges : {O E : Type 0} → (State (Option O) (View E) → Type 0) → ℕ → Me (Option O) (View E) → Me (Option O) (View E) → Type 0
Exchanges {O} {E} holds id m m' = (s : State (Option O) (View E)) → holds s → get_elem? s.views id ≡ some m.0
    → (get_elem? s.homes 0 ≡ some none) × holds record { words = s.words; homes = s.homes; views = slice_set s.views id m'.0 }

-- The rule holds at the opening, and each kind of step keeps it.
pub record EachStepKeeps {O E : Type 0} (caller : E → ℕ) (leads : O → List E → O → Type 0) (start : O) (seats : ℕ) : Type 0 where
  pub opens : 0 < seats → seats < 2 ^ 32 → InOrder caller leads start seats (opening (0 ∷ 0 ∷ []) (Some start ∷ []) (first_view seats))
  -- a ticket is drawn: one is added to word 0
  pub draws : (slots id : ℕ) (m : Me (Option O) (View E)) → m.0.stage ≡ Idle → 0 < m.0.parts
      → Allows (InOrder caller leads start seats) slots id m 0 (λ n. (n + 1) % 2 ^ 64) (drew (step slots 0 1 0 none) m)
  -- a look at the ticket that is served, which takes the slot where it is the seat's
  pub looks : (slots id ticket : ℕ) (m : Me (Option O) (View E)) → m.0.stage ≡ Waiting ticket → 0 < m.0.parts
      → Allows (InOrder caller leads start seats) slots id m 1 (λ n. n) (looked caller leads id (Some start) (step slots 1 0 0 none) m)
  -- the object is taken out of the slot, and put back
  pub takes_out : (id ticket : ℕ) (object : O) (m : Me (Option O) (View E)) → m.0.stage ≡ Serving ticket → m.1 ≡ (0, Some object) ∷ []
      → Exchanges (InOrder caller leads start seats) id m (m.0, (0, None) ∷ [])
  pub puts_back : (id ticket : ℕ) (object : O) (m : Me (Option O) (View E)) → m.0.stage ≡ Serving ticket → m.1 ≡ (0, None) ∷ []
      → Exchanges (InOrder caller leads start seats) id m (m.0, (0, Some object) ∷ [])
  -- the next ticket is served: one is added to word 1, and the slot, with the object in it, is given back
  pub advances : (slots id ticket : ℕ) (entry : Option E) (object : O) (m : Me (Option O) (View E)) → m.0.stage ≡ Serving ticket → 0 < m.0.parts → m.1 ≡ (0, Some object) ∷ []
      → IsBy caller id entry → leads start (m.0.seen ++ entries entry) object
      → Allows (InOrder caller leads start seats) slots id m 1 (λ n. (n + 1) % 2 ^ 64) (advanced entry (step slots 1 1 0 none) m)
  pub splits : (id : ℕ) (v : View E) → v.stage ≡ Idle → 1 < v.parts → Splits (InOrder caller leads start seats) id v (first_part v) (new_part id v)
  pub joins : (id : ℕ) (v : View E) (other : ℕ) (u : View E) → 0 < v.parts → 0 < u.parts → v.stage ≡ Idle → u.stage ≡ Idle → v.told ≡ None → u.told ≡ None
      → Joins (InOrder caller leads start seats) id v other u (with_both other v u) spent
  -- the look that follows a split and a join
  pub settles : (slots id : ℕ) (m : Me (Option O) (View E)) → m.0.stage ≡ Idle → 0 < m.0.parts
      → Allows (InOrder caller leads start seats) slots id m 0 (λ n. n) (settled caller id (step slots 0 0 0 none) m)
