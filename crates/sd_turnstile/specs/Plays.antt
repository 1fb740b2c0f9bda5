-- What each step tells its seat.
use Rattle.std.specs.Prelude.{◌≡◌, ◌≢◌, ℕ, ◌+◌, ◌-◌, ◌^◌, ◌<◌, List, [], ◌∷◌, ◌++◌, Option, Some, None, IfSome}
use Rattle.atomic_table.specs.Table.{Me, Step}
use Rattle.sd_turnstile.specs.declared.view.Stage.TheVariants.{Idle, Waiting, Serving}
use Rattle.sd_turnstile.specs.declared.view.View.{View}
use Rattle.sd_turnstile.specs.declared.view.Known.{Known}
use Rattle.sd_turnstile.specs.History.{StartsWith, longer, entries, calls_by}
use Rattle.sd_turnstile.specs.Order.{view, heard, ticket_of, KnowsTheirs}

module _ {O E : Type 0} where
  -- the number found is the seat's ticket
  abbrev pub drew : Step (Option O) → Me (Option O) (View E) → ℕ → Me (Option O) (View E) → Type 0
  drew st m found m' = m' ≡ (view m.0.parts m.0.seen m.0.own m.0.told (Waiting found), m.1)

  -- the seat has seen this history, which leads to the object
  pub record Took (caller : E → ℕ) (leads : O → List E → O → Type 0) (by : ℕ) (start : Option O) (m : Me (Option O) (View E)) (found : ℕ) (m' : Me (Option O) (View E)) : Type 0 where
    pub history : List E
    pub object : O
    pub now : m' ≡ (view m.0.parts history m.0.own None (Serving found), (0, Some object) ∷ m.1)
    pub begins : StartsWith history m.0.seen
    pub mine : calls_by caller by history ≡ m.0.own
    pub legal : IfSome start (λ x. leads x history object)

  -- where the number found is the seat's ticket, it has its turn
  abbrev pub looked : (E → ℕ) → (O → List E → O → Type 0) → ℕ → Option O → Step (Option O) → Me (Option O) (View E) → ℕ → Me (Option O) (View E) → Type 0
  looked caller leads by start st m found m' = (found ≡ ticket_of m.0.stage → Took caller leads by start m found m') × (found ≢ ticket_of m.0.stage → m' ≡ m)

  -- the turn is over, and its entry, where there is one, is the last of what was seen, and of the seat's own
  abbrev pub advanced : Option E → Step (Option O) → Me (Option O) (View E) → ℕ → Me (Option O) (View E) → Type 0
  advanced entry st m found m' = m' ≡ (view m.0.parts (m.0.seen ++ entries entry) (m.0.own ++ entries entry) None Idle, [])

abbrev pub first_part : {E : Type 0} → View E → View E
first_part v = view (v.parts - 1) v.seen v.own v.told v.stage

-- what a seat knows, as another is told
abbrev pub known : {E : Type 0} → ℕ → View E → Known E
known by v = record { by = by; seen = v.seen; own = v.own }

-- the new seat has one part, has seen what the one has from which it is split off, and is told what that one knows
abbrev pub new_part : {E : Type 0} → ℕ → View E → View E
new_part by v = view 1 v.seen [] (Some (known by v)) Idle

-- the first takes in the parts of the other, and is told what that one knows
abbrev pub with_both : {E : Type 0} → ℕ → View E → View E → View E
with_both other v w = view (v.parts + w.parts) v.seen v.own (Some (known other w)) v.stage

module _ {O E : Type 0} where
  -- What was seen and what was told are beginnings of one history, and the seat has seen the longer one. In that, it has just its own
  -- entries, and so has the seat that it was told of, which has another number.
  pub record Settled (caller : E → ℕ) (by : ℕ) (m m' : Me (Option O) (View E)) : Type 0 where
    pub now : m' ≡ (view m.0.parts (longer m.0.seen (heard m.0.told)) m.0.own None m.0.stage, m.1)
    pub begins : StartsWith (longer m.0.seen (heard m.0.told)) m.0.seen
    pub told_begins : StartsWith (longer m.0.seen (heard m.0.told)) (heard m.0.told)
    pub mine : calls_by caller by (longer m.0.seen (heard m.0.told)) ≡ m.0.own
    pub theirs : KnowsTheirs caller by m.0.seen m.0.told
    pub few : m.0.parts < 2 ^ 32

  abbrev pub settled : (E → ℕ) → ℕ → Step (Option O) → Me (Option O) (View E) → ℕ → Me (Option O) (View E) → Type 0
  settled caller by st m found m' = Settled caller by m m'
