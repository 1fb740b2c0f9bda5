use Rattle.std.proofs.Common.{◌++◌, ◌∷◌, List, ℕ, map, sym, ap, ◌∙◌}
use Rattle.std.specs.Prelude.{flat_map}
use Rattle.std.specs.List.{join_with_byte}
use Rattle.sd_text.specs.Texts.{Text}
use Rattle.sd_view.specs.Brief.{fit}
use Rattle.sd_view.proofs.WordsCut.{cut_joined}
use Rattle.sd_view.proofs.brief.cut_words.Goals as goal

pub returns-in_ok-push_words-in-Some : goal.returns-in_ok-push_words-in-Some
returns-in_ok-push_words-in-Some c =
    c.in_ok-push_words-in-Some.ensures
    ∙ ap (λ (t : List ℕ). t ++ flat_map (λ w. 32 ∷ fit 40 w) c.next.new.self) (c.in_ok-push_fit-in-Some.ensures ∙ ap (λ (t : List ℕ). t ++ fit 40 c.in-Some.word.now) c.empty-out.ensures)
    ∙ sym (cut_joined c.in-Some.word.now c.next.new.self)
    ∙ ap (λ (words : List Text). join_with_byte 32 (map (λ w. fit 40 w) words)) (sym (sym c.new-words.ensures ∙ c.in-Some.ensures))
