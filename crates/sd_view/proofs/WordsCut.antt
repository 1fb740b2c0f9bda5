-- The words of a text, joined again.
use Rattle.std.proofs.Common.{◌≡◌, ℕ, List, [], ◌∷◌, ◌++◌, map, sym, ap}
use Rattle.std.specs.Prelude.{flat_map}
use Rattle.std.specs.List.{join_with_byte}
use Rattle.std.proofs.lemmas.List.{append-nil}
use Rattle.sd_text.specs.Texts.{Text}
use Rattle.sd_view.specs.Brief.{fit}

pub cut_joined : (word : Text) (words : List Text) → join_with_byte 32 (map (λ w. fit 40 w) (word ∷ words)) ≡ fit 40 word ++ flat_map (λ w. 32 ∷ fit 40 w) words
cut_joined word [] = sym (append-nil (fit 40 word))
cut_joined word (next ∷ words) = ap (λ (t : List ℕ). fit 40 word ++ (32 ∷ t)) (cut_joined next words)
