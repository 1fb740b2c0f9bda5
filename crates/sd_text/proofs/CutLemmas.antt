-- A text cut at the first separator.
use Rattle.std.proofs.Common.{◌≡◌, ℕ, ◌+◌, ◌<◌, ◌≤◌, Bool, true, false, not, cond, [], ◌∷◌, length, take, drop, Option, Some, None, unwrap_or, refl, ap, sym, arith, eqb}
use Rattle.std.specs.List.{position, prefix_len}
use Rattle.std.proofs.lemmas.Bool.{ltb-true, ltb-false, not-true}
use Rattle.std.proofs.lemmas.List.Splits.{slice_split_first, slice_split_none}
use Rattle.std.proofs.lemmas.List.Sums.{prefix_len_passes}
use Rattle.sd_outside.proofs.Cutting.{found, missing}
use Rattle.sd_text.specs.Texts.{Text, cut}

pub cut_at : (c : ℕ) (text : Text) (at : ℕ) → position (λ b. eqb b c) text ≡ Some at → cut c text ≡ take at text ∷ cut c (drop (at + 1) text)
cut_at c text at e =
    let place = found _ _ _ e in
    let first = slice_split_first (λ b. eqb b c) text 0 (ltb-true _ _ place.0) in
    rw place.1 at first

pub cut_none : (c : ℕ) (text : Text) → position (λ b. eqb b c) text ≡ None → cut c text ≡ text ∷ []
cut_none c text e =
    let past = ltb-false _ _ (missing _ _ e) in
    slice_split_none (λ b. eqb b c) text (λ k d h. not-true _ (prefix_len_passes (λ b. not (eqb b c)) text k d (omega (arith, past))))
