-- A line with its line feed.
use Rattle.std.proofs.Common.{◌≡◌, ℕ, [], ◌∷◌, ◌++◌, length, sym, ◌∙◌, subst, Result, Ok, Err}
use Rattle.std.proofs.lemmas.List.{nil_from_length, same_from_push}
use Rattle.sd_text.specs.Texts.{Text}
use Rattle.sd_text.specs.declared.error.LineError.{LineError}
use Rattle.sd_text.specs.declared.error.LineError.TheVariants.{Outside, NoMemory}
use Rattle.sd_text.specs.Answers.{Reads}
use Rattle.sd_view.specs.declared.lines.Line.{Line}
use Rattle.sd_view.specs.Lines.{IsLine}
use Rattle.sd_view.specs.Transcript.{IsWhole}
use Rattle.sd_view.proofs.OneLine.{one_line}

pub one_whole : (text : Text) (a b : Line) → IsWhole text a → IsWhole text b → a ≡ b
one_whole text a b x y =
    let same : x.body ≡ y.body = (same_from_push x.body y.body 10 10 (sym x.ended ∙ y.ended)).0 in
    one_line y.body a b (subst (λ (body : Text). IsLine body a) same x.says) y.says

push_some : (body : Text) (b : ℕ) → body ++ b ∷ [] ≡ [] → ⊥
push_some [] b e = absurd (cc e)
push_some (x ∷ body) b e = absurd (cc e)

-- nothing says nothing
pub none_whole : (text : Text) → length text ≡ 0 → (line : Line) → IsWhole text line → ⊥
none_whole text none line w = push_some w.body 10 (sym w.ended ∙ nil_from_length text none)

-- an unfinished line says nothing
pub unfinished : (text body : Text) (last : ℕ) → text ≡ body ++ last ∷ [] → (last ≡ 10 → ⊥) → (line : Line) → IsWhole text line → ⊥
unfinished text body last is other line w = other (same_from_push body w.body last 10 (sym is ∙ w.ended)).1

pub whole_read : (text body : Text) (r : Result Line LineError) → text ≡ body ++ 10 ∷ [] → Reads (IsLine body) r → Reads (IsWhole text) r
whole_read text body (Ok line) is h = record { body = body; ended = is; says = h }
whole_read text body (Err Outside) is h = λ line w. h line (subst (λ (b : Text). IsLine b line) (same_from_push w.body body 10 10 (sym w.ended ∙ is)).0 w.says)
whole_read text body (Err NoMemory) is h = tt
