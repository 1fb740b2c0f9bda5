-- The name of a file in its directory is a component of its path, so it has at most 255 bytes.
use Rattle.std.proofs.Common.{◌≡◌, ℕ, ◌≤◌, List, [], ◌∷◌, ◌++◌, length, refl, sym, ap, ◌∙◌, subst, arith}
use Rattle.std.specs.Prelude.{Bool, true, false, not, ◌==◌, ◌&&◌, ◌||◌, if◌then◌else◌, Option, Some, None, IfSome}
use Rattle.std.specs.List.{All, Contains, list_any, slice_split, onto_first}
use Rattle.std.proofs.lemmas.List.Elements.{All-cons, Contains-append_left, Contains-append_right}
use Rattle.std.proofs.lemmas.List.Splits.{length-slice_split, slice_split_none, slice_split-cons_yes, slice_split-cons_no}
use Rattle.std.proofs.lemmas.Bool.{eqb-true}
use Rattle.sd_config.specs.Config.{IsPath, IsComponent}
use Rattle.sd_services.specs.Names.{child_name}
use Rattle.sd_services.proofs.Order.{Where, here, behind, find_in, at_head}
use Rattle.sd_nfs_server.specs.Fits.{NameFits}

abbrev pub is_slash : ℕ → Bool
is_slash b = b == 47

-- ---- a child's path

halves : (a b : Bool) → (a && b) ≡ true → (a ≡ true) × (b ≡ true)
halves true b e = (refl, e)
halves false b e = absurd (cc e)

is_false : (b : Bool) → not b ≡ true → b ≡ false
is_false true e = absurd (cc e)
is_false false e = refl

-- the directory's path, a slash, and the name without slash
pub child_is : (dir path name : List ℕ) → child_name dir path ≡ Some name → (path ≡ dir ++ 47 ∷ name) × (list_any is_slash name ≡ false)
child_is [] [] name e = absurd (cc e)
child_is [] (c ∷ rest) name e = by (c == 47 && not (list_any is_slash rest)) refl e
  where
    by : (b : Bool) → (c == 47 && not (list_any is_slash rest)) ≡ b → (if b then Some rest else None) ≡ Some name → (c ∷ rest ≡ 47 ∷ name) × (list_any is_slash name ≡ false)
    by true is some =
        let both = halves (c == 47) (not (list_any is_slash rest)) is in
        let same : rest ≡ name = cc in
        ((λ i. eqb-true c 47 both.0 i ∷ same i), subst (λ (n : List ℕ). list_any is_slash n ≡ false) same (is_false (list_any is_slash rest) both.1))
    by false is some = absurd (cc some)
child_is (b ∷ dir) [] name e = absurd (cc e)
child_is (b ∷ dir) (c ∷ path) name e = by (c == b) refl e (child_is dir path name)
  where
    by : (t : Bool) → (c == b) ≡ t → (if t then child_name dir path else None) ≡ Some name → (child_name dir path ≡ Some name → (path ≡ dir ++ 47 ∷ name) × (list_any is_slash name ≡ false)) → (c ∷ path ≡ (b ∷ dir) ++ 47 ∷ name) × (list_any is_slash name ≡ false)
    by true is some deeper = let found = deeper some in ((λ i. eqb-true c b is i ∷ found.0 i), found.1)
    by false is some deeper = absurd (cc some)

-- ---- parts between slashes

none_is : (bytes : List ℕ) → list_any is_slash bytes ≡ false → All (λ b. is_slash b ≡ false) bytes
none_is [] e = λ i d lt. absurd (omega arith)
none_is (b ∷ bytes) e = by (is_slash b) refl e (none_is bytes)
  where
    by : (t : Bool) → is_slash b ≡ t → (t || list_any is_slash bytes) ≡ false → (list_any is_slash bytes ≡ false → All (λ x. is_slash x ≡ false) bytes) → All (λ x. is_slash x ≡ false) (b ∷ bytes)
    by true is none deeper = absurd (cc none)
    by false is none deeper = All-cons (λ x. is_slash x ≡ false) b bytes is (deeper none)

onto_more : (x : ℕ) (parts more : List (List ℕ)) → 1 ≤ length parts → onto_first x (parts ++ more) ≡ onto_first x parts ++ more
onto_more x [] more some = absurd (omega arith)
onto_more x (part ∷ parts) more some = refl

-- a slash cuts
split_at : (front rest : List ℕ) → slice_split is_slash (front ++ 47 ∷ rest) ≡ slice_split is_slash front ++ slice_split is_slash rest
split_at [] rest = slice_split-cons_yes is_slash 47 rest refl
split_at (b ∷ front) rest = by (is_slash b) refl (split_at front rest)
  where
    by : (t : Bool) → is_slash b ≡ t → slice_split is_slash (front ++ 47 ∷ rest) ≡ slice_split is_slash front ++ slice_split is_slash rest → slice_split is_slash (b ∷ (front ++ 47 ∷ rest)) ≡ slice_split is_slash (b ∷ front) ++ slice_split is_slash rest
    by true is deeper =
        slice_split-cons_yes is_slash b (front ++ 47 ∷ rest) is
        ∙ ap (λ (parts : List (List ℕ)). [] ∷ parts) deeper
        ∙ ap (λ (parts : List (List ℕ)). parts ++ slice_split is_slash rest) (sym (slice_split-cons_yes is_slash b front is))
    by false is deeper =
        slice_split-cons_no is_slash b (front ++ 47 ∷ rest) is
        ∙ ap (onto_first b) deeper
        ∙ onto_more b (slice_split is_slash front) (slice_split is_slash rest) (let l = length-slice_split is_slash front in omega arith)
        ∙ ap (λ (parts : List (List ℕ)). parts ++ slice_split is_slash rest) (sym (slice_split-cons_no is_slash b front is))

-- the last name of a path is one of its parts
last_part : (dir name : List ℕ) → list_any is_slash name ≡ false → Contains (slice_split is_slash (dir ++ 47 ∷ name)) name
last_part dir name plain =
    subst (λ (parts : List (List ℕ)). Contains parts name) (sym (split_at dir name))
    (Contains-append_right (slice_split is_slash dir) (slice_split is_slash name) name
    (subst (λ (parts : List (List ℕ)). Contains parts name) (sym (slice_split_none is_slash name (none_is name plain))) (at_head name [] name refl)))

part_fits : (path : List ℕ) → IsPath path → (name : List ℕ) → Contains (slice_split is_slash path) name → length name ≤ 255
part_fits path is name c =
    by (find_in [] (slice_split is_slash is.rest) name (subst (λ (parts : List (List ℕ)). Contains parts name) (ap (slice_split is_slash) is.slash ∙ slice_split-cons_yes is_slash 47 is.rest refl) c))
  where
    by : Where [] (slice_split is_slash is.rest) name → length name ≤ 255
    by (here e) = let l : 0 ≡ length name = ap length e in omega arith
    by (behind d) = let component = subst IsComponent d.2 (is.components d.0 name d.1) in component.most

-- ---- names of what stands for a line

pub name_of_root : NameFits []
name_of_root [] = tt
name_of_root (b ∷ dir) = tt

fits_by : (path : List ℕ) → ((name : List ℕ) → Contains (slice_split is_slash path) name → length name ≤ 255) → NameFits path
fits_by path bound dir = by (child_name dir path) refl
  where
    by : (found : Option (List ℕ)) → child_name dir path ≡ found → IfSome found (λ name. length name ≤ 255)
    by None e = tt
    by (Some name) e = let child = child_is dir path name e in bound name (subst (λ (p : List ℕ). Contains (slice_split is_slash p) name) (sym child.0) (last_part dir name child.1))

pub name_of_path : (path : List ℕ) → IsPath path → NameFits path
name_of_path path is = fits_by path (part_fits path is)

-- a directory on the way to it
pub name_of_front : (path front rest : List ℕ) → IsPath path → path ≡ front ++ 47 ∷ rest → NameFits front
name_of_front path front rest is e = fits_by front (λ name c. part_fits path is name
    (subst (λ (p : List ℕ). Contains (slice_split is_slash p) name) (sym e)
    (subst (λ (parts : List (List ℕ)). Contains parts name) (sym (split_at front rest)) (Contains-append_left (slice_split is_slash front) (slice_split is_slash rest) name c))))
