-- The first that passes a test, and lists that change in one place.
use Rattle.std.proofs.Common.{◌≡◌, ℕ, zero, suc, ◌+◌, ◌-◌, ◌<◌, ◌≤◌, Bool, true, false, cond, List, [], ◌∷◌, ◌++◌, length, get_or, take, drop, map, Some, refl, ◌∙◌, ap, subst, arith, length-append}
use Rattle.std.specs.Prelude.{slice_set}
use Rattle.std.specs.Option.{option_map}
use Rattle.std.specs.List.{find, remove, AllByRecursion}

pub find_here : {A : Type 0} (p : A → Bool) (xs : List A) (n : ℕ) (d : A) → n < length xs → p (get_or xs n d) ≡ true → find p (drop n xs) ≡ Some (get_or xs n d)
find_here p [] n d lt is = absurd (omega arith)
find_here p (x ∷ xs) zero d lt is = ap (λ (b : Bool). cond b (Some x) (find p xs)) is
find_here p (x ∷ xs) (suc n) d lt is = find_here p xs n d (omega arith) is

-- what holds of all holds of the one that is found
pub found_holds : {A : Type 0} (P : A → Type 0) (p : A → Bool) (xs : List A) (x : A) → AllByRecursion P xs → find p xs ≡ Some x → P x
found_holds P p [] x all is = absurd (cc)
found_holds P p (y ∷ ys) x all is = of (p y) is (λ e. found_holds P p ys x all.1 e)
  where
    of : (b : Bool) → cond b (Some y) (find p ys) ≡ Some x → (find p ys ≡ Some x → P x) → P x
    of true same more = let here : y ≡ x = cc in subst P here all.0
    of false rest more = more rest

-- the one that is found passes
pub found_passes : {A : Type 0} (p : A → Bool) (xs : List A) (x : A) → find p xs ≡ Some x → p x ≡ true
found_passes p [] x is = absurd (cc)
found_passes p (y ∷ ys) x is = of (p y) refl is (λ e. found_passes p ys x e)
  where
    of : (b : Bool) → p y ≡ b → cond b (Some y) (find p ys) ≡ Some x → (find p ys ≡ Some x → p x ≡ true) → p x ≡ true
    of true pass same more = let here : y ≡ x = cc in subst (λ z. p z ≡ true) here pass
    of false fail rest more = more rest

pub find-map : {A B : Type 0} (f : A → B) (p : B → Bool) (xs : List A) → find p (map f xs) ≡ option_map f (find (λ x. p (f x)) xs)
find-map f p [] = refl
find-map f p (x ∷ xs) = of (p (f x)) (find-map f p xs)
  where
    of : (b : Bool) → find p (map f xs) ≡ option_map f (find (λ y. p (f y)) xs) → cond b (Some (f x)) (find p (map f xs)) ≡ option_map f (cond b (Some x) (find (λ y. p (f y)) xs))
    of true rest = refl
    of false rest = rest

-- the first of sixteen goes
pub one_over : {A : Type 0} (xs : List A) (x : A) → length xs ≤ 16 → 16 < length (xs ++ x ∷ []) → remove (xs ++ x ∷ []) 0 ≡ drop (length xs - 15) xs ++ x ∷ []
one_over [] x few over = absurd (omega arith)
one_over (y ∷ ys) x few over =
    let one : 1 ≡ length (y ∷ ys) - 15 = omega (arith, few, over, length-append ys (x ∷ [])) in
    ap (λ (n : ℕ). drop n (y ∷ ys) ++ x ∷ []) one

pub none_over : {A : Type 0} (xs : List A) (x : A) → length (xs ++ x ∷ []) ≤ 16 → xs ++ x ∷ [] ≡ drop (length xs - 15) xs ++ x ∷ []
none_over xs x few =
    let none : 0 ≡ length xs - 15 = omega (arith, few, length-append xs (x ∷ [])) in
    ap (λ (n : ℕ). drop n xs ++ x ∷ []) none

-- one place more of a list that is changed from its front
pub put_more : {A : Type 0} (f : A → A) (old : List A) (i : ℕ) (d : A) → i < length old → slice_set (map f (take i old) ++ drop i old) i (f (get_or (map f (take i old) ++ drop i old) i d)) ≡ map f (take (suc i) old) ++ drop (suc i) old
put_more f [] i d lt = absurd (omega arith)
put_more f (x ∷ xs) zero d lt = refl
put_more f (x ∷ xs) (suc i) d lt = ap (λ l. f x ∷ l) (put_more f xs i d (omega arith))

pub put_next : {A : Type 0} (f : A → A) (old now : List A) (i : ℕ) (d y : A) → i < length old → now ≡ map f (take i old) ++ drop i old → y ≡ f (get_or now i d) → slice_set now i y ≡ map f (take (i + 1) old) ++ drop (i + 1) old
put_next {A} f old now i d y lt is here =
    let one : suc i ≡ i + 1 = omega arith in
    (λ k. slice_set (is k) i (here k)) ∙ ap (λ (l : List A). slice_set (map f (take i old) ++ drop i old) i (f (get_or l i d))) is ∙ put_more f old i d lt ∙ ap (λ (n : ℕ). map f (take n old) ++ drop n old) one
