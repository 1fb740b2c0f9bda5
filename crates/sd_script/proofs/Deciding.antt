-- What can be decided: names, paths, and lists of numbers.
use Rattle.std.proofs.Common.{◌≡◌, ℕ, eqb, List, [], ◌∷◌, ◌++◌, length, sym, ap, subst, inl, inr, codes}
use Rattle.std.specs.List.{All, AllZip, slice_split}
use Rattle.std.proofs.lemmas.Bool.{cases_eq}
use Rattle.sd_text.specs.Texts.{Text, IsNumber}
use Rattle.sd_text.proofs.Deciding.{Settled, Way, both, not_so, as_well, le_settled, text_settled, all_settled, pass_settled, number_way}
use Rattle.sd_text.proofs.Exits.{firsts, others}
use Rattle.sd_config.specs.Config.{IsName, IsComponent, IsPath, IsTarget, IsDirectoryOf, AreApart, is_name_byte, is_visible}

-- ---- names and paths

pub name_settled : (t : Text) → Settled (IsName t)
name_settled t = as_well (λ h. record { least = h.0; most = h.1.0; bytes = h.1.1 }) (λ h. (h.least, (h.most, h.bytes)))
    (both (le_settled 1 (length t)) (both (le_settled (length t) 255) (pass_settled is_name_byte t)))

pub target_settled : (t : Text) → Settled (IsTarget t)
target_settled t = as_well (λ h. record { least = h.0; most = h.1.0; bytes = h.1.1 }) (λ h. (h.least, (h.most, h.bytes)))
    (both (le_settled 1 (length t)) (both (le_settled (length t) 1024) (pass_settled is_visible t)))

component_settled : (t : Text) → Settled (IsComponent t)
component_settled t = as_well (λ h. record { least = h.0; most = h.1.0; not_here = h.1.1.0; not_above = h.1.1.1 }) (λ h. (h.least, (h.most, (h.not_here, h.not_above))))
    (both (le_settled 1 (length t)) (both (le_settled (length t) 255) (both (not_so (text_settled t (codes "."))) (not_so (text_settled t (codes ".."))))))

pub path_settled : (t : Text) → Settled (IsPath t)
path_settled [] = inr (λ h. nothing h.rest h.slash)
  where
    nothing : (rest : Text) → ◌≡◌ {A = Text} [] (47 ∷ rest) → ⊥
    nothing rest h = cc h
path_settled (b ∷ rest) = as_well
    (λ h. record { rest = rest; slash = ap (λ (c : ℕ). c ∷ rest) h.0; most = h.1.0; bytes = h.1.1.0; components = h.1.1.1 })
    (λ h. (firsts h.slash, (h.most, (h.bytes, subst (λ (u : Text). All IsComponent (slice_split (λ b. eqb b 47) u)) (sym (others h.slash)) h.components))))
    (both (cases_eq b 47) (both (le_settled (length (b ∷ rest)) 1024) (both (pass_settled is_visible (b ∷ rest)) (all_settled IsComponent component_settled (slice_split (λ b. eqb b 47) rest)))))

directory_settled : (p q : Text) → Settled (IsDirectoryOf p q)
directory_settled [] [] = inr (λ h. nothing h.rest h.longer)
  where
    nothing : (rest : Text) → ◌≡◌ {A = Text} [] (47 ∷ rest) → ⊥
    nothing rest h = cc h
directory_settled [] (b ∷ q) = as_well (λ e. record { rest = q; longer = ap (λ (c : ℕ). c ∷ q) e }) (λ h. firsts h.longer) (cases_eq b 47)
directory_settled (a ∷ p) [] = inr (λ h. nothing a p h.rest h.longer)
  where
    nothing : (a : ℕ) (p rest : Text) → ◌≡◌ {A = Text} [] (a ∷ (p ++ 47 ∷ rest)) → ⊥
    nothing a p rest h = cc h
directory_settled (a ∷ p) (b ∷ q) = as_well
    (λ h. record { rest = h.1.rest; longer = λ i. h.0 i ∷ h.1.longer i })
    (λ h. (firsts h.longer, record { rest = h.rest; longer = others h.longer }))
    (both (cases_eq b a) (directory_settled p q))

pub apart_settled : (p q : Text) → Settled (AreApart p q)
apart_settled p q = as_well (λ h. record { differ = h.0; above = h.1.0; below = h.1.1 }) (λ h. (h.differ, (h.above, h.below)))
    (both (not_so (text_settled p q)) (both (not_so (directory_settled p q)) (not_so (directory_settled q p))))

-- ---- lists of numbers

pub numbers_way : (low high : ℕ) (ts : List Text) → Way (λ (ns : List ℕ). AllZip (IsNumber low high) ts ns)
numbers_way low high [] = inl ([], tt)
numbers_way low high (t ∷ ts) = of (number_way low high t) (numbers_way low high ts)
  where
    no_first : ((n : ℕ) → IsNumber low high t n → ⊥) → (ns : List ℕ) → AllZip (IsNumber low high) (t ∷ ts) ns → ⊥
    no_first none [] h = h
    no_first none (n ∷ ns) h = none n h.0

    no_others : ((ns : List ℕ) → AllZip (IsNumber low high) ts ns → ⊥) → (ns : List ℕ) → AllZip (IsNumber low high) (t ∷ ts) ns → ⊥
    no_others none [] h = h
    no_others none (n ∷ ns) h = none ns h.1

    of : Way (IsNumber low high t) → Way (λ (ns : List ℕ). AllZip (IsNumber low high) ts ns) → Way (λ (ns : List ℕ). AllZip (IsNumber low high) (t ∷ ts) ns)
    of (inl n) (inl ns) = inl (n.0 ∷ ns.0, (n.1, ns.1))
    of (inr none) ns = inr (no_first none)
    of (inl n) (inr none) = inr (no_others none)
