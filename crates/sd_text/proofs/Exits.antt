-- What is returned at the exit of a `?`.
use Rattle.std.proofs.Common.{◌≡◌, List, ◌∷◌, drop, get_or, ap, sym, ◌∙◌, subst, Result, Ok, Err}
use Rattle.std.specs.Result.{OnErr}
use Rattle.sd_text.specs.declared.error.LineError.{LineError}
use Rattle.sd_text.specs.declared.error.LineError.TheVariants.{Outside, NoMemory}
use Rattle.sd_text.specs.Texts.{Text}
use Rattle.sd_text.specs.Answers.{OnOutside, Reads, Takes}

-- a fact that holds whatever is returned
pub on_err : {T E : Type 0} {P : Type 0} (r : Result T E) → P → OnErr r P
on_err (Ok x) h = tt
on_err (Err e) h = h

-- the parts of two equal lists
pub others : {X : Type 0} {x y : X} {xs ys : List X} → x ∷ xs ≡ y ∷ ys → xs ≡ ys
others e = ap (drop 1) e

pub firsts : {X : Type 0} {x y : X} {xs ys : List X} → x ∷ xs ≡ y ∷ ys → x ≡ y
firsts {X} {x} e = ap (λ (zs : List X). get_or zs 0 x) e

passed_on : {Y : Type 0} (S : Type 0) (Q : Y → Type 0) (e : LineError) → OnOutside e S → (S → (z : Y) → Q z → ⊥) → Reads Q (Err e)
passed_on S Q Outside h none = none h
passed_on S Q NoMemory h none = tt

-- The exit of a `?`: where a part is outside for the cause S, the whole is.
pub outside_exit : {Y : Type 0} (S : Type 0) (Q : Y → Type 0) {e y : LineError} {r : Result Y LineError} → r ≡ Err y → y ≡ e → OnOutside e S → (S → (z : Y) → Q z → ⊥) → Reads Q r
outside_exit S Q {e} {y} {r} is same h none = rw (is, same) (passed_on S Q e h none)

-- The same, where the part is read by a reader of values with the property P.
pub reads_exit : {X Y : Type 0} (P : X → Type 0) (Q : Y → Type 0) {e y : LineError} {r : Result Y LineError} → r ≡ Err y → y ≡ e → Reads P (Err e) → (((x : X) → P x → ⊥) → (z : Y) → Q z → ⊥) → Reads Q r
reads_exit {X} P Q is same h none = outside_exit ((x : X) → P x → ⊥) Q is same h none

-- The same, where the part is the next of the parts of a text.
pub takes_exit : {X Y : Type 0} (R : Text → X → Type 0) (old : List Text) (Q : Y → Type 0) {e y : LineError} {r : Result Y LineError} → r ≡ Err y → y ≡ e
    → OnOutside e ((text : Text) (rest : List Text) (x : X) → old ≡ text ∷ rest → R text x → ⊥)
    → (((text : Text) (rest : List Text) (x : X) → old ≡ text ∷ rest → R text x → ⊥) → (z : Y) → Q z → ⊥) → Reads Q r
takes_exit {X} R old Q is same h none = outside_exit ((text : Text) (rest : List Text) (x : X) → old ≡ text ∷ rest → R text x → ⊥) Q is same h none

-- what is read of the next part is taken of the parts
pub takes_from : {X : Type 0} (R : Text → X → Type 0) (old new : List Text) (text : Text) (r : Result X LineError) → old ≡ text ∷ new → Reads (R text) r → Takes R old new r
takes_from R old new text (Ok x) e h = (text, e, h)
takes_from R old new text (Err Outside) e h = λ other rest x f is. h x (subst (λ (t : Text). R t x) (firsts (sym f ∙ e)) is)
takes_from R old new text (Err NoMemory) e h = tt

-- A cause for which a part is outside, handed on as one for the whole.
pub handed_on : {S N : Type 0} (e : LineError) → OnOutside e S → (S → N) → OnOutside e N
handed_on Outside h to = to h
handed_on NoMemory h to = tt
