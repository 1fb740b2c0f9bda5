-- The rule of the table: what holds between any two steps.
-- Word 0 is the next ticket and word 1 the ticket that is served, both modulo 2^64. The slot has the object. The number of a seat is its place among the views.
use Rattle.std.specs.Prelude.{◌≡◌, ◌≢◌, ◌⊎◌, ℕ, ◌+◌, ◌%◌, ◌^◌, ◌<◌, ◌≤◌, List, [], ◌∷◌, length, slice_index, Option, Some, None, IfSome}
use mathlib.Core.Option.{some, none}
use lib.ListN.{get_elem?}
use Rattle.atomic_table.specs.Table.{State}
use Rattle.sd_turnstile.specs.declared.view.Stage.{Stage}
use Rattle.sd_turnstile.specs.declared.view.Stage.TheVariants.{Idle, Waiting, Serving}
use Rattle.sd_turnstile.specs.declared.view.View.{View}
use Rattle.sd_turnstile.specs.declared.view.Known.{Known}
use Rattle.sd_turnstile.specs.History.{StartsWith, longer, calls_by}

-- 1 where it has a ticket
abbrev pub tickets : Stage → ℕ
tickets Idle = 0
tickets (Waiting t) = 1
tickets (Serving t) = 1

-- 1 where it has its turn
abbrev pub turns : Stage → ℕ
turns Idle = 0
turns (Waiting t) = 0
turns (Serving t) = 1

abbrev pub ticket_of : Stage → ℕ
ticket_of Idle = 0
ticket_of (Waiting t) = t
ticket_of (Serving t) = t

abbrev pub view : {E : Type 0} → ℕ → List E → List E → Option (Known E) → Stage → View E
view parts seen own told stage = record { parts = parts; seen = seen; own = own; told = told; stage = stage }

-- the view of the first seat
abbrev pub first_view : {E : Type 0} → ℕ → View E
first_view parts = view parts [] [] None Idle

-- a seat that another took in
abbrev pub spent : {E : Type 0} → View E
spent = view 0 [] [] None Idle

-- the beginning of the history that another seat had seen, as it was told
abbrev pub heard : {E : Type 0} → Option (Known E) → List E
heard None = []
heard (Some k) = k.seen

-- Of what the seat `by` was told by another: that one has another number, and of its entries there are just its own in what both have seen
abbrev pub KnowsTheirs : {E : Type 0} → (E → ℕ) → ℕ → List E → Option (Known E) → Type 0
KnowsTheirs caller by seen told = IfSome told (λ k. (k.by ≢ by) × (calls_by caller k.by (longer seen k.seen) ≡ k.own))

-- What holds of the seat with the number `by`. A spent seat has no part, and every other has at least one.
pub record Fits {E : Type 0} (caller : E → ℕ) (history : List E) (drawn served by : ℕ) (v : View E) : Type 0 where
  -- what it has seen, and what it was told, are beginnings of the history
  pub begins : StartsWith history v.seen
  pub told_begins : StartsWith history (heard v.told)
  pub theirs : KnowsTheirs caller by v.seen v.told
  -- its own entries are those of its number in the history, and it has seen them all
  pub mine : 0 < v.parts → calls_by caller by history ≡ v.own
  pub mine_seen : 0 < v.parts → calls_by caller by v.seen ≡ v.own
  pub live : (v ≡ spent) ⊎ (0 < v.parts)
  -- a seat with a ticket has a part
  pub has_part : tickets v.stage ≤ v.parts
  -- its ticket was drawn and isn't served yet
  pub queued : tickets v.stage ≡ 1 → (n : ℕ) × (served ≤ n) × (n < drawn) × (ticket_of v.stage ≡ n % 2 ^ 64)
  -- in its turn it has the ticket that is served, and has seen the whole history
  pub turn : turns v.stage ≡ 1 → (ticket_of v.stage ≡ served % 2 ^ 64) × (v.seen ≡ history)

-- f of each, added up
abbrev pub total : {A : Type 0} → (A → ℕ) → List A → ℕ
total f [] = 0
total f (x ∷ xs) = f x + total f xs

-- the number of seats that have a ticket, and that have their turn
abbrev pub all_tickets : {E : Type 0} → List (View E) → ℕ
all_tickets views = total (λ v. tickets v.stage) views

abbrev pub all_turns : {E : Type 0} → List (View E) → ℕ
all_turns views = total (λ v. turns v.stage) views

abbrev pub all_parts : {E : Type 0} → List (View E) → ℕ
all_parts views = total (λ v. v.parts) views

-- some seat that isn't spent has seen the whole history, or was told it
abbrev pub IsKnown : {E : Type 0} → List E → List (View E) → Type 0
IsKnown {E} history views = (by : ℕ) × (v : View E) × (get_elem? views by ≡ some v) × (0 < v.parts) × ((v.seen ≡ history) ⊎ (heard v.told ≡ history))

-- The rule: who waits is served in turn, and one history leads from the object as it was at the opening to the one at home.
pub record InOrder {O E : Type 0} (caller : E → ℕ) (leads : O → List E → O → Type 0) (start : O) (seats : ℕ) (s : State (Option O) (View E)) : Type 0 where
  pub history : List E
  pub drawn : ℕ
  pub served : ℕ
  -- two words, and one slot
  pub wide : length s.words ≡ 2
  pub deep : length s.homes ≡ 1
  pub next : slice_index s.words 0 ≡ drawn % 2 ^ 64
  pub now : slice_index s.words 1 ≡ served % 2 ^ 64
  -- the parts of all seats add up to the turnstile's
  pub bounded : seats < 2 ^ 32
  pub parts : all_parts s.views ≡ seats
  -- each number from `served` up to below `drawn` is the ticket of one seat, and of one alone
  pub counted : served + all_tickets s.views ≡ drawn
  pub held : (n : ℕ) → served ≤ n → n < drawn → (by : ℕ) × (v : View E) × (get_elem? s.views by ≡ some v) × (tickets v.stage ≡ 1) × (ticket_of v.stage ≡ n % 2 ^ 64)
  pub apart : (i : ℕ) (v : View E) → get_elem? s.views i ≡ some v → (j : ℕ) (w : View E) → get_elem? s.views j ≡ some w → tickets v.stage ≡ 1 → tickets w.stage ≡ 1 → ticket_of v.stage ≡ ticket_of w.stage → i ≡ j
  pub one_turn : all_turns s.views ≤ 1
  pub each_seat : (by : ℕ) (v : View E) → get_elem? s.views by ≡ some v → Fits caller history drawn served by v
  -- the history has no entry that no seat knows of
  pub known : IsKnown history s.views
  -- a number that no seat has yet has no entry
  pub unmade : (by : ℕ) → length s.views ≤ by → calls_by caller by history ≡ []
  -- while no seat has its turn, the object is at home, where the history leaves it; else the slot is out
  pub home : all_turns s.views ≡ 0 → (x : O) × (get_elem? s.homes 0 ≡ some (some (Some x))) × leads start history x
  pub away : all_turns s.views ≡ 1 → get_elem? s.homes 0 ≡ some none
