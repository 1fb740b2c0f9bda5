-- What stands in lists, and choices.
use Rattle.std.proofs.Common.{◌≡◌, ◌≢◌, ℕ, Bool, true, false, List, [], ◌∷◌, Option, Some, None, refl, subst, inl, inr}
use Rattle.std.specs.Prelude.{◌==◌, ◌&&◌}
use Rattle.std.specs.List.{AllByRecursion}
use Rattle.std.proofs.lemmas.Bool.Decides.{eqb_tells}
use Rattle.sd_loader.specs.Lists.{IsIn}

-- ---- members

pub over_all : {A : Type 0} (P : A → Type 0) (xs : List A) → AllByRecursion P xs → (x : A) → IsIn xs x → P x
over_all P [] all x h = absurd h
over_all P (y ∷ ys) all x (inl e) = subst P e all.0
over_all P (y ∷ ys) all x (inr h) = over_all P ys all.1 x h

-- ---- choices

pub none_some : {A : Type 0} (o : Option A) (x : A) → o ≡ None → o ≡ Some x → ⊥
none_some o x none some = cc

pub some_same : {A : Type 0} (v w : A) → Some v ≡ Some w → v ≡ w
some_same v w h = cc

pub both_true : (a b : Bool) → (a && b) ≡ true → (a ≡ true) × (b ≡ true)
both_true true b h = (refl, h)
both_true false b h = absurd cc

pub not_equal : (a b : ℕ) → a ≢ b → (a == b) ≡ false
not_equal a b apart = elim (eqb_tells a b) [ inl here ↦ absurd (apart here.1) | inr away ↦ away.0 ]

pub are_equal : (a b : ℕ) → (a == b) ≡ true → a ≡ b
are_equal a b test = elim (eqb_tells a b) [ inl here ↦ here.1 | inr away ↦ absurd (clash (a == b) test away.0) ]
  where
    clash : (v : Bool) → v ≡ true → v ≡ false → ⊥
    clash v is isnt = cc
