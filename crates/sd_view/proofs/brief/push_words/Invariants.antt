use Rattle.std.proofs.Common.{◌≡◌, ◌++◌, ◌∷◌, length}
use Rattle.std.specs.Prelude.{flat_map}
use Rattle.sd_view.specs.Brief.{fit}
use Rattle.sd_view.proofs.brief.push_words.Given as goal

abbrev pub invariant-loop-word : goal.invariant-loop-word
invariant-loop-word l = l.out ++ flat_map (λ word. 32 ∷ fit 40 word) l.words ≡ l.initial.out ++ flat_map (λ word. 32 ∷ fit 40 word) l.initial.words

abbrev pub decreases-loop-word : goal.decreases-loop-word
decreases-loop-word l = length l.words
