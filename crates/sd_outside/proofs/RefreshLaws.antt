-- Lists that are made equal to another at some places.
use Rattle.std.proofs.Common.{◌≡◌, ◌⊎◌, inl, inr, ⊎_elim, ℕ, ◌+◌, ◌-◌, ◌<◌, ◌≤◌, List, length, get_or, refl, sym, ◌∙◌, ap, subst, arith}
use Rattle.std.proofs.lemmas.List.{same_lists}
use Rattle.std.proofs.lemmas.Bool.{cases_lt, cases_eq}
use Rattle.sd_outside.specs.Ranges.{part, put}
use Rattle.sd_outside.specs.Moments.{Change}
use Rattle.sd_outside.specs.Moments.Change.{Sync}
use Rattle.sd_outside.specs.Kept.{Spares, SparedBy, Refreshed}
use Rattle.sd_outside.proofs.RangeLaws.{length-part, length-put, get_or-part, get_or-put, get_or-put_below, get_or-put_above}

module _ {A : Type 0} where
  pub refreshed_put : (from old copied : List A) (start end : ℕ) → start ≤ end → end ≤ length old → length old ≡ length from → copied ≡ part start (end - start) from
      → Refreshed (λ place. (place < start) ⊎ (end ≤ place)) from old (put start copied old)
  refreshed_put from old copied start end ordered inside size same =
      let long : length copied ≡ end - start = ap length same ∙ length-part start (end - start) from (omega (arith, ordered, inside, size)) in
      let fits : start + length copied ≤ length old = omega (arith, long, ordered, inside) in
      record {
        size = length-put start copied old fits;
        each = λ place d. ⊎_elim
            (λ (low : place < start). inr (inl low, get_or-put_below start copied old place d (omega (arith, fits)) low))
            (λ (high : start ≤ place). ⊎_elim
            (λ (inner : place < end).
            let there : place ≡ start + (place - start) = omega (arith, high) in
            let near : place - start < end - start = omega (arith, high, inner) in
            inl (ap (λ (p : ℕ). get_or (put start copied old) p d) there
            ∙ get_or-put start copied old (place - start) d (omega (arith, fits)) (omega (arith, near, long))
            ∙ ap (λ (l : List A). get_or l (place - start) d) same
            ∙ get_or-part start (end - start) from (place - start) d near
            ∙ ap (λ (p : ℕ). get_or from p d) (sym there)))
            (λ (outer : end ≤ place). inr (inr outer, get_or-put_above start copied old place d fits (omega (arith, long, ordered, outer))))
            (cases_lt place end))
            (cases_lt place start);
      }

  pub refreshed_then : {P Q R : ℕ → Type 0} (from first mid last : List A) → ((place : ℕ) → P place → Q place → R place) → Refreshed P from first mid → Refreshed Q from mid last → Refreshed R from first last
  refreshed_then from first mid last both one two = record {
    size = two.size ∙ one.size;
    each = λ place d. ⊎_elim
        (λ same. inl same)
        (λ kept. ⊎_elim
        (λ same. inl (kept.1 ∙ same))
        (λ before. inr (both place before.0 kept.0, kept.1 ∙ before.1))
        (one.each place d))
        (two.each place d);
  }

  pub refreshed_all : {P : ℕ → Type 0} (from old new : List A) → Refreshed P from old new → length old ≡ length from → ((place : ℕ) (d : A) → place < length from → P place → get_or old place d ≡ get_or from place d) → new ≡ from
  refreshed_all from old new fresh size near =
      let long : length new ≡ length from = fresh.size ∙ size in
      same_lists new from long (λ place d below. ⊎_elim
      (λ same. same)
      (λ kept. kept.1 ∙ near place d (omega (arith, below, long)) kept.0)
      (fresh.each place d))

  pub refreshed_none : (from xs : List A) (changes : List Change) → Refreshed (SparedBy 0 changes) from xs xs
  refreshed_none from xs changes = record {
    size = refl;
    each = λ place d. inr ((λ k below. absurd (omega (arith, below))), refl);
  }

-- one change more
pub spared_more : (n : ℕ) (changes : List Change) (place : ℕ) (change : Change) → change ≡ get_or changes n Sync → SparedBy n changes place → Spares place change → SparedBy (n + 1) changes place
spared_more n changes place change is before last k below = elim (cases_eq k n) [
  | inl same ↦ subst (λ (i : ℕ). Spares place (get_or changes i Sync)) (sym same) (subst (Spares place) is last)
  | inr other ↦ before k (omega (arith, below, other))
]
