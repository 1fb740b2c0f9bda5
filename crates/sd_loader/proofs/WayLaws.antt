-- The components of a text after those of another.
use Rattle.std.proofs.Common.{◌≡◌, ℕ, suc, ◌+◌, ◌-◌, ◌<◌, ◌≤◌, Bool, true, false, cond, eqb, List, [], ◌∷◌, ◌++◌, length, take, drop, Some, None, refl, sym, ◌∙◌, ap, subst, arith}
use Rattle.std.specs.Prelude.{◌==◌}
use Rattle.std.specs.List.{onto_first, position}
use Rattle.std.proofs.lemmas.List.{take_rest, drop-drop, append_assoc}
use Rattle.sd_loader.specs.Walk.{components}
use Rattle.sd_text.proofs.CutLemmas.{cut_at, cut_none}

some_parts : (text : List ℕ) → (0 < length (components text)) × (length (components text) ≤ length text + 1)
some_parts [] = (omega arith, omega arith)
some_parts (b ∷ text) = of (b == 47) (components text) (some_parts text)
  where
    of : (t : Bool) (parts : List (List ℕ)) → (0 < length parts) × (length parts ≤ length text + 1)
        → (0 < length (cond t ([] ∷ parts) (onto_first b parts))) × (length (cond t ([] ∷ parts) (onto_first b parts)) ≤ suc (length text) + 1)
    of true parts h = (omega arith, omega (arith, h.1))
    of false [] h = absurd (omega (arith, h.0))
    of false (p ∷ ps) h = (omega arith, omega (arith, h.1))

-- there are no more components than bytes, and one
pub few_components : (text : List ℕ) → length (components text) ≤ length text + 1
few_components text = (some_parts text).1

onto_append : (b : ℕ) (parts more : List (List ℕ)) → 0 < length parts → onto_first b (parts ++ more) ≡ onto_first b parts ++ more
onto_append b [] more some = absurd (omega (arith, some))
onto_append b (p ∷ ps) more some = refl

-- a slash joins
pub components_join : (text rest : List ℕ) → components (text ++ 47 ∷ rest) ≡ components text ++ components rest
components_join [] rest = refl
components_join (b ∷ text) rest = of (b == 47) (components_join text rest)
  where
    of : (t : Bool) → components (text ++ 47 ∷ rest) ≡ components text ++ components rest
        → cond t ([] ∷ components (text ++ 47 ∷ rest)) (onto_first b (components (text ++ 47 ∷ rest))) ≡ cond t ([] ∷ components text) (onto_first b (components text)) ++ components rest
    of true h = ap (λ (l : List (List ℕ)). [] ∷ l) h
    of false h = ap (onto_first b) h ∙ onto_append b (components text) (components rest) (some_parts text).0

-- ---- the next component

next_some : (text s name : List ℕ) (at place : ℕ) → s ≡ text → Some place ≡ position (λ b. eqb b 47) (take (length s - at) (drop at s)) → name ≡ take place (take (length s - at) (drop at s))
    → components (drop at text) ≡ name ∷ components (drop (at + (place + 1)) text)
next_some text s name at place same found is =
    let left = take_rest s at in
    let cut = cut_at 47 (drop at s) place (ap (position (λ b. eqb b 47)) (sym left) ∙ sym found) in
    subst (λ (t : List ℕ). components (drop at t) ≡ name ∷ components (drop (at + (place + 1)) t)) same
    (cut ∙ (λ i. (ap (take place) (sym left) ∙ sym is) i ∷ components (drop-drop (place + 1) at s i)))

next_none : (text s name : List ℕ) (at : ℕ) → s ≡ text → None ≡ position (λ b. eqb b 47) (take (length s - at) (drop at s)) → name ≡ take (length s - at) (drop at s)
    → components (drop at text) ≡ name ∷ []
next_none text s name at same found is =
    let left = take_rest s at in
    subst (λ (t : List ℕ). components (drop at t) ≡ name ∷ []) same
    (cut_none 47 (drop at s) (ap (position (λ b. eqb b 47)) (sym left) ∙ sym found) ∙ ap (λ (n : List ℕ). n ∷ []) (sym left ∙ sym is))

pub way_some : (more : Bool) (now : List (List ℕ)) (text s name : List ℕ) (at place : ℕ) → more ≡ true → cond more (components (drop at text)) [] ≡ now → s ≡ text
    → Some place ≡ position (λ b. eqb b 47) (take (length s - at) (drop at s)) → name ≡ take place (take (length s - at) (drop at s))
    → now ≡ name ∷ cond more (components (drop (at + (place + 1)) text)) []
way_some true now text s name at place is view same found names = sym view ∙ next_some text s name at place same found names
way_some false now text s name at place is view same found names = absurd cc

pub way_none : (more : Bool) (now : List (List ℕ)) (text s name : List ℕ) (at : ℕ) → more ≡ true → cond more (components (drop at text)) [] ≡ now → s ≡ text
    → None ≡ position (λ b. eqb b 47) (take (length s - at) (drop at s)) → name ≡ take (length s - at) (drop at s) → now ≡ name ∷ []
way_none true now text s name at is view same found names = sym view ∙ next_none text s name at same found names
way_none false now text s name at is view same found names = absurd cc

-- the components of a link's text and what is left
pub way_joined : (more : Bool) (now : List (List ℕ)) (own s text front mid last : List ℕ) (at : ℕ) → more ≡ true → cond more (components (drop at own)) [] ≡ now → s ≡ own → front ≡ text
    → mid ≡ front ++ 47 ∷ [] → last ≡ mid ++ take (length s - at) (drop at s) → components last ≡ components text ++ now
way_joined true now own s text front mid last at is view same begins goes ends =
    let left = drop at own in
    let rest : take (length s - at) (drop at s) ≡ left = take_rest s at ∙ ap (drop at) same in
    ap components
    (ends ∙ (λ i. (goes ∙ ap (λ (l : List ℕ). l ++ 47 ∷ []) begins) i ++ rest i) ∙ append_assoc text (47 ∷ []) left)
    ∙ components_join text left ∙ ap (λ (l : List (List ℕ)). components text ++ l) view
way_joined false now own s text front mid last at is view same begins goes ends = absurd cc
