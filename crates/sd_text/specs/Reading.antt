-- Reading from left to right. That this is the grammar is proved for every kind that is clear (Laws.antt).
use Rattle.std.specs.Prelude.{◌≡◌, ℕ, zero, suc, Bool, ◌==◌, if◌then◌else◌, List, [], ◌∷◌, length, ◌<◌, Option, Some, None, Result, Ok, Err}
use Rattle.sd_xdr.specs.Kind.{Value, none, number, ◌⊗◌, number_of}
use Rattle.sd_text.specs.declared.error.LineError.{LineError}
use Rattle.sd_text.specs.Texts.{Text}
use Rattle.sd_text.specs.Kind.{is_name, place_in, begins, Word, digits, holds, Kind, void, word, said, between, ◌&◌, many, choice, fork, maybe, where_zero, given, such}
use Rattle.std.specs.Borrow.{Bor}
use Rattle.sd_text.specs.Answers.{OnOutside}
use Rattle.sd_text.specs.Grammar.{word_value, inner_value, onto}

-- the longest front of such bytes, and what stands behind it
abbrev pub front : (ℕ → Bool) → Text → Text
front p [] = []
front p (b ∷ t) = if p b then b ∷ front p t else []

abbrev pub behind : (ℕ → Bool) → Text → Text
behind p [] = []
behind p (b ∷ t) = if p b then behind p t else b ∷ t

-- a value and the text behind it
abbrev pub Read : Type 0
Read = Option (Value × Text)

infixl 10 ◌>>=◌
abbrev pub ◌>>=◌ : {A B : Type 0} → Option A → (A → Option B) → Option B
(Some x) >>= f = f x
None >>= f = None

unfoldable pub word_reading : Word → Text → Read
word_reading w t = word_value w (front (holds w) t) >>= λ x. Some (x, behind (holds w) t)

-- what stands behind a fixed text
unfoldable pub strip : Text → Text → Option Text
strip [] t = Some t
strip (a ∷ s) [] = None
strip (a ∷ s) (b ∷ t) = if a == b then strip s t else None

-- the place of the name at the front
unfoldable pub name_reading : List Text → Text → Option (ℕ × Text)
name_reading names t = place_in (front is_name t) names >>= λ n. Some (n, behind is_name t)

unfoldable pub many_reading : (Text → Read) → ℕ → ℕ → Text → Read
many_reading item c zero t = Some (none, t)
many_reading item c (suc most) t =
    if begins (λ b. b == c) t then (do
      u ← strip (c ∷ []) t
      x ← item u
      y ← many_reading item c most x.1
      Some (x.0 ⊗ y.0, y.1)) else Some (none, t)

unfoldable pub reading : Kind → Text → Read
reading void t = Some (none, t)
reading (word w) t = word_reading w t
reading (said s K) t = do
  u ← strip s t
  reading K u
reading (between a K b) t = do
  u ← strip (a ∷ []) t
  x ← reading K u
  v ← strip (b ∷ []) x.1
  Some (x.0, v)
reading (A & B) t = do
  x ← reading A t
  y ← reading B x.1
  Some (x.0 ⊗ y.0, y.1)
reading (many most c K) t = many_reading (reading K) c most t
reading (choice names arm) t = do
  n ← name_reading names t
  x ← reading (arm n.0) n.1
  Some (number n.0 ⊗ x.0, x.1)
reading (fork p A B) t =
    if begins p t then (do
      x ← reading A t
      Some (number 0 ⊗ x.0, x.1)) else (do
        x ← reading B t
        Some (number 1 ⊗ x.0, x.1))
reading (maybe p K) t = if begins p t then reading K t else Some (none, t)
reading (where_zero K) t = do
  n ← word_reading (digits 0 4294967295) t
  if number_of n.0 == 0 then (do
    x ← reading K n.1
    Some (n.0 ⊗ x.0, x.1)) else Some (n.0 ⊗ none, n.1)
reading (given n K) t = do
  x ← reading K t
  Some (number n ⊗ x.0, x.1)
reading (such f K) t = do
  x ← reading K t
  if f x.0 then Some x else None

-- a whole text, behind which nothing stands
abbrev pub whole_end : Value × Text → Option Value
whole_end (x, []) = Some x
whole_end (x, (b ∷ t)) = None

unfoldable pub whole_reading : Kind → Text → Option Value
whole_reading K t = reading K t >>= whole_end

-- ---- what readers answer

-- what a function that reads a part of a text answers, from where the reader stood to where it stands
abbrev pub Takes : {X : Type 0} → Kind → (X → Value) → Text → Text → Result X LineError → Type 0
Takes K view old new (Ok x) = reading K old ≡ Some (view x, new)
Takes K view old new (Err e) = OnOutside e (reading K old ≡ None)

-- the same for a fixed text
abbrev pub TakesSaid : {X : Type 0} → Text → Text → Text → Result X LineError → Type 0
TakesSaid s old new (Ok x) = strip s old ≡ Some new
TakesSaid s old new (Err e) = OnOutside e (strip s old ≡ None)

-- what a function that reads a whole text answers
abbrev pub TakesWhole : {X : Type 0} → Kind → (X → Value) → Text → Result X LineError → Type 0
TakesWhole K view t (Ok x) = whole_reading K t ≡ Some (view x)
TakesWhole K view t (Err e) = OnOutside e (whole_reading K t ≡ None)

-- nothing is left behind a value
abbrev pub TakesEnd : Text → Result (Unit {0}) LineError → Type 0
TakesEnd t (Ok done) = t ≡ []
TakesEnd t (Err e) = OnOutside e ((x : Value) → whole_end (x, t) ≡ None)

-- a value that is read of a word, and none where none is read
abbrev pub Finds : {X : Type 0} → Word → (X → Value) → Text → Option X → Type 0
Finds w view t (Some x) = word_value w t ≡ Some (view x)
Finds w view t None = word_value w t ≡ None

abbrev pub FindsIn : {X : Type 0} → Word → (X → Value) → Text → Result X LineError → Type 0
FindsIn w view t (Ok x) = word_value w t ≡ Some (view x)
FindsIn w view t (Err e) = OnOutside e (word_value w t ≡ None)

-- the first byte for which a text between quotation marks stands
abbrev pub BeginsInner : Text → Option (ℕ × Bor (List ℕ)) → Type 0
BeginsInner t (Some first) = (inner_value t ≡ onto first.0 (inner_value first.1.now)) × (length first.1.now < length t)
BeginsInner t None = inner_value t ≡ None
