-- What a clause reads of a turnstile and of a seat.
use Rattle.std.specs.Prelude.{◌≡◌, ℕ, List, [], ◌∷◌, None}
use Rattle.sd_turnstile.specs.declared.view.Stage.TheVariants.{Idle, Serving}
use Rattle.sd_turnstile.specs.declared.seat.Turnstile.{Turnstile}
use Rattle.sd_turnstile.specs.declared.seat.EntrySeat.{EntrySeat}
use Rattle.sd_turnstile.specs.History.{calls_by}

module _ {O E : Type 0} where
  -- the object as it was at the opening
  abbrev pub opening_of : Turnstile O E → O
  opening_of t = t.table.shared.key.object.value

  -- how many seats there may be
  abbrev pub seats_of : Turnstile O E → ℕ
  seats_of t = t.seats

module _ {O E : Type 0} where
  abbrev pub number_of : EntrySeat O E → ℕ
  number_of s = s.place.id

  abbrev pub parts_of : EntrySeat O E → ℕ
  parts_of s = s.parts

  -- the beginning of the history that the seat has seen
  abbrev pub seen_by : EntrySeat O E → List E
  seen_by s = s.place.me.0.seen

  -- the seat's own entries
  abbrev pub own_of : EntrySeat O E → List E
  own_of s = s.place.me.0.own

  abbrev pub IsSeatOf : Turnstile O E → EntrySeat O E → Type 0
  IsSeatOf t s = s.place.table_id ≡ t.table.shared.table_id

  -- it has no ticket
  abbrev pub IsIdle : EntrySeat O E → Type 0
  IsIdle s = (s.place.me.0.stage ≡ Idle) × (s.place.me.1 ≡ [])

  -- it has its turn, and the object is out of its slot
  abbrev pub HasTurn : EntrySeat O E → Type 0
  HasTurn s = (ticket : ℕ) × (s.place.me.0.stage ≡ Serving ticket) × (s.place.me.1 ≡ (0, None) ∷ [])

  -- the same seat of the same turnstile
  abbrev pub IsSameSeat : EntrySeat O E → EntrySeat O E → Type 0
  IsSameSeat s t = (t.place.table_id ≡ s.place.table_id) × (t.place.id ≡ s.place.id)

  -- in what it has seen, its own entries are just those of its number
  abbrev pub KnowsOwn : (E → ℕ) → EntrySeat O E → Type 0
  KnowsOwn caller s = calls_by caller (number_of s) (seen_by s) ≡ own_of s
