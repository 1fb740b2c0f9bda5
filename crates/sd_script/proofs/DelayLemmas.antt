-- Delays, read one after another.
use Rattle.std.proofs.Common.{◌≡◌, ℕ, suc, ◌-◌, ◌<◌, ◌≤◌, List, [], ◌∷◌, ◌++◌, length, get_or, refl, ap, sym, ◌∙◌, inl, inr, ◌⊎◌, arith, append_assoc, length-append}
use mathlib.Core.List.{append-nil}
use Rattle.std.specs.Prelude.{codes}
use Rattle.std.specs.List.{AllZip}
use Rattle.std.specs.Fmt.{decimal}
use Rattle.std.specs.Int.{IsInRange}
use Rattle.std.proofs.lemmas.Fmt.{decimal_is_IsNumeral}
use Rattle.std.proofs.lemmas.Str.Parse.{digit_at}
use Rattle.sd_text.specs.Texts.{Text, IsNumber}
use Rattle.sd_script.specs.Lines.{IsDelays}
use Rattle.sd_text.proofs.Exits.{firsts, others}

-- the delays so far are those of the fields before the ones that are left
pub record IsDelaying (life : ℕ) (all parts : List Text) (delays : List ℕ) : Type 0 where
  pub done : List Text
  pub parted : all ≡ done ++ parts
  pub zip : AllZip (IsNumber 1 (life - 1)) done delays
  pub some : 1 ≤ length delays
  pub few : length delays ≤ 8

zip-snoc : {A B : Type 0} (R : A → B → Type 0) (xs : List A) (ys : List B) (x : A) (y : B) → AllZip R xs ys → R x y → AllZip R (xs ++ (x ∷ [])) (ys ++ (y ∷ []))
zip-snoc R [] [] x y h r = (r, tt)
zip-snoc R [] (z ∷ ys) x y h r = absurd h
zip-snoc R (z ∷ xs) [] x y h r = absurd h
zip-snoc R (z ∷ xs) (w ∷ ys) x y h r = (h.0, zip-snoc R xs ys x y h.1 r)

zip-length : {A B : Type 0} (R : A → B → Type 0) (xs : List A) (ys : List B) → AllZip R xs ys → length xs ≡ length ys
zip-length R [] [] h = refl
zip-length R [] (z ∷ ys) h = absurd h
zip-length R (z ∷ xs) [] h = absurd h
zip-length R (z ∷ xs) (w ∷ ys) h = ap suc (zip-length R xs ys h.1)

-- each of the first list has one of the second
pub zip-at : {A B : Type 0} (R : A → B → Type 0) (xs : List A) (x : A) (more : List A) (ys : List B) → AllZip R (xs ++ (x ∷ more)) ys → (y : B) × R x y
zip-at R [] x more [] h = absurd h
zip-at R [] x more (y ∷ ys) h = (y, h.0)
zip-at R (z ∷ xs) x more [] h = absurd h
zip-at R (z ∷ xs) x more (y ∷ ys) h = zip-at R xs x more ys h.1

pub delaying_begins : (life : ℕ) (all : List Text) (text : Text) (parts : List Text) (delay : ℕ) (delays : List ℕ) → all ≡ text ∷ parts → delays ≡ [] ++ (delay ∷ []) → IsNumber 1 (life - 1) text delay → IsDelaying life all parts delays
delaying_begins life all text parts delay delays e is h = rw is record { done = text ∷ []; parted = e; zip = (h, tt); some = omega arith; few = omega arith }

pub delaying_goes_on : (life : ℕ) (all : List Text) (text : Text) (parts : List Text) (old : List ℕ) (delay : ℕ) (new : List ℕ) → IsDelaying life all (text ∷ parts) old → length old < 8 → new ≡ old ++ (delay ∷ []) → IsNumber 1 (life - 1) text delay → IsDelaying life all parts new
delaying_goes_on life all text parts old delay new d room is h = record {
  done = d.done ++ (text ∷ []);
  parted = d.parted ∙ rw append_assoc refl;
  zip = rw is (zip-snoc (IsNumber 1 (life - 1)) d.done old text delay d.zip h);
  some = omega (arith, ap length is, length-append old (delay ∷ []), d.some);
  few = omega (arith, ap length is, length-append old (delay ∷ []), d.some);
}

pub delaying_ends : (life : ℕ) (all parts : List Text) (delays : List ℕ) → parts ≡ [] → IsDelaying life all parts delays → IsDelays life all delays
delaying_ends life all parts delays none d =
    let same : all ≡ d.done = d.parted ∙ rw none (append-nil d.done) in
    let count = zip-length (IsNumber 1 (life - 1)) d.done delays d.zip in
    inr (omega (arith, ap length same, count, d.some), omega (arith, ap length same, count, d.few), rw same d.zip)

-- `none` is the text of no number
pub no_number : (most n : ℕ) (text : Text) → text ≡ codes "none" → IsNumber 1 most text n → ⊥
no_number most n text e h =
    let digits = (decimal_is_IsNumeral n h.fits).0 in
    let first : IsInRange 48 57 (get_or (decimal n) 0 0) = digit_at (decimal n) 0 digits.1 digits.0 in
    let same : get_or (decimal n) 0 0 ≡ 110 = ap (λ (t : Text). get_or t 0 0) (sym h.is ∙ e) in
    omega (arith, first.1, same)

-- why no delays are read

pub no_field : (life : ℕ) (all : List Text) → all ≡ [] → (z : List ℕ) → IsDelays life all z → ⊥
no_field life all e z h = elim h [ inl none ↦ cc (sym e ∙ none.0) | inr some ↦ omega (arith, ap length e, some.0) ]

pub more_than_none : (life : ℕ) (all : List Text) (text : Text) (parts : List Text) → all ≡ text ∷ parts → text ≡ codes "none" → (parts ≡ [] → ⊥) → (z : List ℕ) → IsDelays life all z → ⊥
more_than_none life all text parts e is more z h = elim h [
  | inl none ↦ more (others (sym e ∙ none.0))
  | inr some ↦ let at = zip-at (IsNumber 1 (life - 1)) [] text parts z (rw e at some.2) in no_number (life - 1) at.0 text is at.1
]

pub no_delay : (life : ℕ) (all : List Text) (text : Text) (parts : List Text) (first : Text) (rest : List Text) (old : List ℕ) → all ≡ first ∷ rest → (first ≡ codes "none" → ⊥)
    → (done : List Text) → all ≡ done ++ (text ∷ parts) → length done ≡ length old → (8 ≤ length old) ⊎ ((delay : ℕ) → IsNumber 1 (life - 1) text delay → ⊥) → (z : List ℕ) → IsDelays life all z → ⊥
no_delay life all text parts first rest old e other done cut count why z h = elim h [
  | inl none ↦ other (firsts (sym e ∙ none.0))
  | inr some ↦ elim why [
    | inl eight ↦ omega (arith, some.1, ap length cut, length-append done (text ∷ parts), count)
    | inr bad ↦ let at = zip-at (IsNumber 1 (life - 1)) done text parts z (rw cut at some.2) in bad at.0 at.1
  ]
]

pub delaying_stops : (life : ℕ) (all : List Text) (text : Text) (parts : List Text) (first : Text) (rest : List Text) (old : List ℕ) → all ≡ first ∷ rest → (first ≡ codes "none" → ⊥)
    → IsDelaying life all (text ∷ parts) old → (8 ≤ length old) ⊎ ((delay : ℕ) → IsNumber 1 (life - 1) text delay → ⊥) → (z : List ℕ) → IsDelays life all z → ⊥
delaying_stops life all text parts first rest old e other d why = no_delay life all text parts first rest old e other d.done d.parted (zip-length (IsNumber 1 (life - 1)) d.done old d.zip) why
