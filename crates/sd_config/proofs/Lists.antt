-- What holds of every item of a list.
use Rattle.std.proofs.Common.{◌≡◌, ℕ, zero, suc, ◌<◌, Bool, true, false, cond, List, [], ◌∷◌, ◌++◌, map, drop, filter, Option, Some, subst, arith}
use Rattle.std.specs.Prelude.{slice_get}
use Rattle.std.specs.List.{All, AllByRecursion, find}

pub all_append : {A : Type 0} (P : A → Type 0) (xs ys : List A) → AllByRecursion P xs → AllByRecursion P ys → AllByRecursion P (xs ++ ys)
all_append P [] ys first second = second
all_append P (x ∷ xs) ys first second = (first.0, all_append P xs ys first.1 second)

pub all_split : {A : Type 0} (P : A → Type 0) (xs ys : List A) → AllByRecursion P (xs ++ ys) → AllByRecursion P xs × AllByRecursion P ys
all_split P [] ys all = (tt, all)
all_split P (x ∷ xs) ys all = let s = all_split P xs ys all.1 in ((all.0, s.0), s.1)

pub all_weaker : {A : Type 0} (P R : A → Type 0) (xs : List A) → ((x : A) → P x → R x) → AllByRecursion P xs → AllByRecursion R xs
all_weaker P R [] so all = tt
all_weaker P R (x ∷ xs) so all = (so x all.0, all_weaker P R xs so all.1)

pub all_always : {A : Type 0} (P : A → Type 0) (xs : List A) → ((x : A) → P x) → AllByRecursion P xs
all_always P [] so = tt
all_always P (x ∷ xs) so = (so x, all_always P xs so)

-- from places to recursion
pub all_recursive : {A : Type 0} (P : A → Type 0) (xs : List A) → All P xs → AllByRecursion P xs
all_recursive P [] all = tt
all_recursive P (x ∷ xs) all = (all 0 x (omega arith), all_recursive P xs (λ i d lt. all (suc i) d (omega (arith, lt))))

pub all_drop : {A : Type 0} (P : A → Type 0) (n : ℕ) (xs : List A) → AllByRecursion P xs → AllByRecursion P (drop n xs)
all_drop P zero xs all = all
all_drop P (suc n) [] all = tt
all_drop P (suc n) (x ∷ xs) all = all_drop P n xs all.1

pub all_filter : {A : Type 0} (P : A → Type 0) (p : A → Bool) (xs : List A) → AllByRecursion P xs → AllByRecursion P (filter p xs)
all_filter P p [] all = tt
all_filter P p (x ∷ xs) all = of (p x) (all_filter P p xs all.1)
  where
    of : (b : Bool) → AllByRecursion P (filter p xs) → AllByRecursion P (cond b (x ∷ filter p xs) (filter p xs))
    of true more = (all.0, more)
    of false more = more

pub all_map : {A B : Type 0} (P : A → Type 0) (R : B → Type 0) (f : A → B) (xs : List A) → ((x : A) → P x → R (f x)) → AllByRecursion P xs → AllByRecursion R (map f xs)
all_map P R f [] so all = tt
all_map P R f (x ∷ xs) so all = (so x all.0, all_map P R f xs so all.1)

pub some_is : {A : Type 0} (x y : A) → Some x ≡ Some y → x ≡ y
some_is x y e = cc

pub all_found : {A : Type 0} (P : A → Type 0) (p : A → Bool) (xs : List A) (x : A) → AllByRecursion P xs → find p xs ≡ Some x → P x
all_found P p [] x all e = absurd (cc)
all_found P p (y ∷ ys) x all e = of (λ h. all_found P p ys x all.1 h) (p y) e
  where
    of : (find p ys ≡ Some x → P x) → (b : Bool) → cond b (Some y) (find p ys) ≡ Some x → P x
    of later true e = subst P (some_is y x e) all.0
    of later false e = later e

pub all_at : {A : Type 0} (P : A → Type 0) (xs : List A) (i : ℕ) (x : A) → AllByRecursion P xs → slice_get xs i ≡ Some x → P x
all_at P [] i x all e = absurd (cc)
all_at P (y ∷ ys) zero x all e = subst P (some_is y x e) all.0
all_at P (y ∷ ys) (suc i) x all e = all_at P ys i x all.1 e
