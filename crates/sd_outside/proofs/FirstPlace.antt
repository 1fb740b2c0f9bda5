-- The first place of a byte.
use Rattle.std.proofs.Common.{◌≡◌, ℕ, ◌<◌, List, eqb, not, false, length, get_or, Option, Some, None, refl, ap, sym, ◌∙◌, inl, inr, arith}
use Rattle.std.specs.List.{position}
use Rattle.std.proofs.lemmas.Bool.{cases_order, false≢true, ltb-false, not-true}
use Rattle.std.proofs.lemmas.List.Quantifiers.{position-Some}
use Rattle.std.proofs.lemmas.List.Sums.{prefix_len_passes}
use Rattle.memchr.specs.Find.{IsFirstByte, is_byte}
use Rattle.sd_outside.proofs.Cutting.{missing}

nowhere : (c : ℕ) (text : List ℕ) → position (λ b. eqb b c) text ≡ None → (k : ℕ) → k < length text → eqb (get_or text k 0) c ≡ false
nowhere c text e k h =
    let past = ltb-false _ _ (missing _ _ e) in
    not-true _ (prefix_len_passes (λ b. not (eqb b c)) text k 0 (omega (arith, past)))

none_is : (c : ℕ) (text : List ℕ) (o : Option ℕ) → position (λ b. eqb b c) text ≡ o → IsFirstByte (is_byte c) text None → None ≡ o
none_is c text None e h = refl
none_is c text (Some i) e h = let s = position-Some (λ b. eqb b c) text i 0 e in absurd (h i (omega arith) s.0 s.1)

some_is : (c : ℕ) (text : List ℕ) (o : Option ℕ) (k : ℕ) → position (λ b. eqb b c) text ≡ o → IsFirstByte (is_byte c) text (Some k) → Some k ≡ o
some_is c text None k e h = absurd (false≢true (sym (nowhere c text e k h.0.high) ∙ h.1))
some_is c text (Some i) k e h =
    let s = position-Some (λ b. eqb b c) text i 0 e in
    elim (cases_order k i) [
      | inl same ↦ ap Some same
      | inr other ↦ elim other [ inl less ↦ absurd (false≢true (sym (s.2 k less) ∙ h.1)) | inr more ↦ absurd (h.0.before i (omega arith) more s.1) ]
    ]

pub first_place : (c : ℕ) (text : List ℕ) (r : Option ℕ) → IsFirstByte (is_byte c) text r → r ≡ position (λ b. eqb b c) text
first_place c text None h = none_is c text _ refl h
first_place c text (Some k) h = some_is c text _ k refl h
