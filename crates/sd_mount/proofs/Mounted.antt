-- No two mounts of a list are equal.
use Rattle.std.proofs.Common.{◌≡◌, ℕ, zero, suc, ◌-◌, ◌≤◌, Bool, true, false, cond, eqb, not, ◌||◌, ◌&&◌, List, [], ◌∷◌, ◌++◌, length, drop, refl, sym, ap, subst, ◌∙◌, arith, length-append, length-drop}
use Rattle.std.specs.List.{filter, list_any}
use Rattle.std.proofs.lemmas.List.Folds.{list_any-append}
use Rattle.sd_mount.specs.Tables.{same, Mount, is_mount, has, latest, with_mount, without, without_host, Differ, SameIsEqual, AddedIsThere, RemovedIsGone}

same_same : (xs ys : List ℕ) → same xs ys ≡ same ys xs
same_same [] [] = refl
same_same [] (y ∷ ys) = refl
same_same (x ∷ xs) [] = refl
same_same (x ∷ xs) (y ∷ ys) =
    let first : eqb x y ≡ eqb y x = grind arith in
    let others : same xs ys ≡ same ys xs = same_same xs ys in
    cc

either_way : (m n : Mount) → is_mount m.0 m.1 n ≡ is_mount n.0 n.1 m
either_way m n =
    let host : eqb n.0 m.0 ≡ eqb m.0 n.0 = grind arith in
    let path : same n.1 m.1 ≡ same m.1 n.1 = same_same n.1 m.1 in
    cc

-- neither of two
neither : (a b : Bool) → (a || b) ≡ false → (a ≡ false) × (b ≡ false)
neither true b h = absurd cc
neither false b h = (refl, h)

none : (a b : Bool) → a ≡ false → b ≡ false → (a || b) ≡ false
none a b p q = grind arith

differ_added : (xs : List Mount) (m : Mount) → Differ xs → has xs m.0 m.1 ≡ false → Differ (xs ++ (m ∷ []))
differ_added [] m d h = (refl, tt)
differ_added (x ∷ xs) m d h =
    let p = neither (is_mount m.0 m.1 x) (has xs m.0 m.1) h in
    let last : has (m ∷ []) x.0 x.1 ≡ false = none (is_mount x.0 x.1 m) false (either_way x m ∙ p.0) refl in
    (list_any-append (is_mount x.0 x.1) xs (m ∷ []) ∙ none (has xs x.0 x.1) (has (m ∷ []) x.0 x.1) d.0 last, differ_added xs m d.1 p.1)

differ_later : (k : ℕ) (xs : List Mount) → Differ xs → Differ (drop k xs)
differ_later zero xs d = d
differ_later (suc k) [] d = tt
differ_later (suc k) (x ∷ xs) d = differ_later k xs d.1

none_later : (p : Mount → Bool) (k : ℕ) (xs : List Mount) → list_any p xs ≡ false → list_any p (drop k xs) ≡ false
none_later p zero xs h = h
none_later p (suc k) [] h = refl
none_later p (suc k) (x ∷ xs) h = none_later p k xs (neither (p x) (list_any p xs) h).1

pub differ_latest : (xs : List Mount) (m : Mount) → Differ xs → has xs m.0 m.1 ≡ false → Differ (latest 63 xs ++ (m ∷ []))
differ_latest xs m d h =
    differ_added (latest 63 xs) m (differ_later (length xs - 63) xs d) (none_later (is_mount m.0 m.1) (length xs - 63) xs h)

none_left : (test p : Mount → Bool) (xs : List Mount) → list_any p xs ≡ false → list_any p (filter test xs) ≡ false
none_left test p [] h = refl
none_left test p (x ∷ xs) h = by_test (test x) (neither (p x) (list_any p xs) h).0 (none_left test p xs (neither (p x) (list_any p xs) h).1)
  where
    by_test : (b : Bool) → p x ≡ false → list_any p (filter test xs) ≡ false → list_any p (cond b (x ∷ filter test xs) (filter test xs)) ≡ false
    by_test true first more = none (p x) (list_any p (filter test xs)) first more
    by_test false first more = more

pub differ_left : (test : Mount → Bool) (xs : List Mount) → Differ xs → Differ (filter test xs)
differ_left test [] d = tt
differ_left test (x ∷ xs) d = by_test (test x) (differ_left test xs d.1)
  where
    by_test : (b : Bool) → Differ (filter test xs) → Differ (cond b (x ∷ filter test xs) (filter test xs))
    by_test true more = (none_left test (is_mount x.0 x.1) xs d.0, more)
    by_test false more = more

pub differ_without : (host : ℕ) (path : List ℕ) (xs ys : List Mount) → Differ xs → ys ≡ without host path xs → Differ ys
differ_without host path xs ys d is = subst (λ (zs : List Mount). Differ zs) (sym is) (differ_left (λ m. not (is_mount host path m)) xs d)

pub differ_without_host : (host : ℕ) (xs ys : List Mount) → Differ xs → ys ≡ without_host host xs → Differ ys
differ_without_host host xs ys d is = subst (λ (zs : List Mount). Differ zs) (sym is) (differ_left (λ m. not (eqb m.0 host)) xs d)

pub differ_with : (host : ℕ) (path : List ℕ) (xs ys : List Mount) → Differ xs → has xs host path ≡ false → ys ≡ latest 63 xs ++ ((host, path) ∷ []) → Differ ys
differ_with host path xs ys d no_such is = subst (λ (zs : List Mount). Differ zs) (sym is) (differ_latest xs (host, path) d no_such)

pub few_with : (m : Mount) (xs ys : List Mount) → length xs ≤ 64 → ys ≡ latest 63 xs ++ (m ∷ []) → length ys ≤ 64
few_with m xs ys few is =
    let long : length ys ≡ length (latest 63 xs ++ (m ∷ [])) = ap (λ (zs : List Mount). length zs) is in
    omega (arith, few, long, length-append (latest 63 xs) (m ∷ []), length-drop (length xs - 63) xs)

-- ---- laws

both : (a b : Bool) → (a && b) ≡ true → (a ≡ true) × (b ≡ true)
both true b h = (refl, h)
both false b h = absurd cc

one_text : (xs ys : List ℕ) → same xs ys ≡ true → xs ≡ ys
one_text [] [] h = refl
one_text [] (y ∷ ys) h = absurd cc
one_text (x ∷ xs) [] h = absurd cc
one_text (x ∷ xs) (y ∷ ys) h =
    let p = both (eqb x y) (same xs ys) h in
    let first : x ≡ y = grind (arith, p.0) in
    let others : xs ≡ ys = one_text xs ys p.1 in
    cc

own_text : (xs : List ℕ) → same xs xs ≡ true
own_text [] = refl
own_text (x ∷ xs) =
    let first : eqb x x ≡ true = grind arith in
    let others : same xs xs ≡ true = own_text xs in
    cc

pub same_is_equal : SameIsEqual
same_is_equal xs ys = (λ h. one_text xs ys h, λ h. subst (λ (zs : List ℕ). same xs zs ≡ true) h (own_text xs))

own_mount : (host : ℕ) (path : List ℕ) → is_mount host path (host, path) ≡ true
own_mount host path =
    let first : eqb host host ≡ true = grind arith in
    let others : same path path ≡ true = own_text path in
    cc

at_last : (a b : Bool) → b ≡ true → (a || b) ≡ true
at_last true b h = refl
at_last false b h = h

pub added_is_there : AddedIsThere
added_is_there mounts host path = of (has mounts host path) refl
  where
    last : list_any (is_mount host path) (latest 63 mounts ++ ((host, path) ∷ [])) ≡ true
    last = list_any-append (is_mount host path) (latest 63 mounts) ((host, path) ∷ [])
        ∙ at_last (has (latest 63 mounts) host path) (is_mount host path (host, path) || false) (grind (arith, own_mount host path))

    of : (b : Bool) → has mounts host path ≡ b → has (cond b mounts (latest 63 mounts ++ ((host, path) ∷ []))) host path ≡ true
    of true h = h
    of false h = last

-- what a test leaves out isn't left
none_of : (p q : Mount → Bool) (mounts : List Mount) → ((m : Mount) → p m ≡ true → q m ≡ true) → list_any p (filter (λ m. not (q m)) mounts) ≡ false
none_of p q [] implies = refl
none_of p q (m ∷ ms) implies = of (q m) (p m) refl (implies m) (none_of p q ms implies)
  where
    of : (b c : Bool) → p m ≡ c → (c ≡ true → b ≡ true) → list_any p (filter (λ n. not (q n)) ms) ≡ false
        → list_any p (cond (not b) (m ∷ filter (λ n. not (q n)) ms) (filter (λ n. not (q n)) ms)) ≡ false
    of true c e i more = more
    of false true e i more = absurd (grind (arith, i refl))
    of false false e i more = none (p m) (list_any p (filter (λ n. not (q n)) ms)) e more

pub removed_is_gone : RemovedIsGone
removed_is_gone mounts host path = (
  none_of (is_mount host path) (is_mount host path) mounts (λ m h. h),
  none_of (is_mount host path) (λ m. eqb m.0 host) mounts (λ m h. (both (eqb m.0 host) (same m.1 path) h).0),
)
