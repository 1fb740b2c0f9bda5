-- No two mappings of a table are of the same triple, and so each is the one that is found.
use Rattle.std.proofs.Common.{◌≡◌, ℕ, Bool, true, false, cond, not, ◌||◌, List, [], ◌∷◌, ◌++◌, Option, Some, refl, sym, ap, subst, ◌∙◌, arith}
use Rattle.std.specs.List.{filter, find, list_any}
use Rattle.std.proofs.lemmas.List.Folds.{list_any-append}
use Rattle.sd_portmap.specs.declared.mapping.Mapping.{Mapping}
use Rattle.sd_portmap.specs.Table.{is_triple, is_version, has, without, Differ, MappingsAreFound}

same_triple : (m n : Mapping) → is_triple m.prog m.vers m.prot n ≡ is_triple n.prog n.vers n.prot m
same_triple m n = grind arith

own_triple : (m : Mapping) → is_triple m.prog m.vers m.prot m ≡ true
own_triple m = grind arith

-- neither of two
neither : (a b : Bool) → (a || b) ≡ false → (a ≡ false) × (b ≡ false)
neither true b h = absurd cc
neither false b h = (refl, h)

none : (a b : Bool) → a ≡ false → b ≡ false → (a || b) ≡ false
none a b p q = grind arith

pub differ_added : (xs : List Mapping) (m : Mapping) → Differ xs → has xs m ≡ false → Differ (xs ++ (m ∷ []))
differ_added [] m d h = (refl, tt)
differ_added (x ∷ xs) m d h =
    let p = neither (is_triple m.prog m.vers m.prot x) (has xs m) h in
    let last : has (m ∷ []) x ≡ false = none (is_triple x.prog x.vers x.prot m) false (same_triple x m ∙ p.0) refl in
    (list_any-append (is_triple x.prog x.vers x.prot) xs (m ∷ []) ∙ none (has xs x) (has (m ∷ []) x) d.0 last, differ_added xs m d.1 p.1)

none_left : (test p : Mapping → Bool) (xs : List Mapping) → list_any p xs ≡ false → list_any p (filter test xs) ≡ false
none_left test p [] h = refl
none_left test p (x ∷ xs) h = by_test (test x) (neither (p x) (list_any p xs) h).0 (none_left test p xs (neither (p x) (list_any p xs) h).1)
  where
    by_test : (b : Bool) → p x ≡ false → list_any p (filter test xs) ≡ false → list_any p (cond b (x ∷ filter test xs) (filter test xs)) ≡ false
    by_test true first more = none (p x) (list_any p (filter test xs)) first more
    by_test false first more = more

pub differ_left : (test : Mapping → Bool) (xs : List Mapping) → Differ xs → Differ (filter test xs)
differ_left test [] d = tt
differ_left test (x ∷ xs) d = by_test (test x) (differ_left test xs d.1)
  where
    by_test : (b : Bool) → Differ (filter test xs) → Differ (cond b (x ∷ filter test xs) (filter test xs))
    by_test true more = (none_left test (is_triple x.prog x.vers x.prot) xs d.0, more)
    by_test false more = more

pub differ_without : (prog vers : ℕ) (xs ys : List Mapping) → Differ xs → ys ≡ without prog vers xs → Differ ys
differ_without prog vers xs ys d is = subst (λ (zs : List Mapping). Differ zs) (sym is) (differ_left (λ m. not (is_version prog vers m)) xs d)

found_if : (b : Bool) (x : Mapping) (o : Option Mapping) → b ≡ false → cond b (Some x) o ≡ o
found_if true x o h = absurd cc
found_if false x o h = refl

pub mappings_are_found : MappingsAreFound
mappings_are_found [] m after d = ap (λ (b : Bool). cond b (Some m) (find (is_triple m.prog m.vers m.prot) after)) (own_triple m)
mappings_are_found (x ∷ before) m after d =
    let p = neither (has before x) (has (m ∷ after) x) (sym (list_any-append (is_triple x.prog x.vers x.prot) before (m ∷ after)) ∙ d.0) in
    let q = neither (is_triple x.prog x.vers x.prot m) (has after x) p.1 in
    found_if (is_triple m.prog m.vers m.prot x) x (find (is_triple m.prog m.vers m.prot) (before ++ (m ∷ after))) (same_triple m x ∙ q.0)
    ∙ mappings_are_found before m after d.1
