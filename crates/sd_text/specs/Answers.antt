-- What readers answer.
use Rattle.std.specs.Prelude.{◌≡◌, ℕ, List, [], ◌∷◌, Option, Some, None, Result, Ok, Err}
use denote.Ref.{Bor}
use Rattle.sd_text.specs.declared.error.LineError.{LineError}
use Rattle.sd_text.specs.declared.error.LineError.TheVariants.{Outside, NoMemory}
use Rattle.sd_text.specs.Texts.{Text}

-- a value with the property, or none where no value has it
abbrev pub Finds : {X : Type 0} → (X → Type 0) → Option X → Type 0
Finds P (Some x) = P x
Finds {X} P None = (x : X) → P x → ⊥

-- a fact that holds where the answer is `Outside`
abbrev pub OnOutside : LineError → Type 0 → Type 0
OnOutside Outside P = P
OnOutside NoMemory P = Unit {0}

-- a value with the property, or `Outside` where no value has it
abbrev pub Reads : {X : Type 0} → (X → Type 0) → Result X LineError → Type 0
Reads P (Ok x) = P x
Reads {X} P (Err e) = OnOutside e ((x : X) → P x → ⊥)

-- A fact where it holds, and `Outside` only where it doesn't.
abbrev pub Tells : Type 0 → Result Unit LineError → Type 0
Tells P (Ok done) = P
Tells P (Err e) = OnOutside e (P → ⊥)

-- The first part is the text of a value under R, and the others are left; or no such part is the first.
abbrev pub Takes : {X : Type 0} → (Text → X → Type 0) → List Text → List Text → Result X LineError → Type 0
Takes R old new (Ok x) = (text : Text) × (old ≡ text ∷ new) × R text x
Takes {X} R old new (Err e) = OnOutside e ((text : Text) (rest : List Text) (x : X) → old ≡ text ∷ rest → R text x → ⊥)

-- The one part that is left is the text of a value under R.
abbrev pub TakesLast : {X : Type 0} → (Text → X → Type 0) → List Text → Result X LineError → Type 0
TakesLast R old (Ok x) = (text : Text) × (old ≡ text ∷ []) × R text x
TakesLast {X} R old (Err e) = OnOutside e ((text : Text) (x : X) → old ≡ text ∷ [] → R text x → ⊥)

-- The first part has the property, and is what the slice shows.
abbrev pub TakesText : (Text → Type 0) → List Text → List Text → Result (Bor (List ℕ)) LineError → Type 0
TakesText P old new (Ok slice) = (old ≡ slice.now ∷ new) × P slice.now
TakesText P old new (Err e) = OnOutside e ((text : Text) (rest : List Text) → old ≡ text ∷ rest → P text → ⊥)
