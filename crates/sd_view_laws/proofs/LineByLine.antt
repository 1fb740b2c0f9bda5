-- The text of a run, line by line.
use Rattle.std.proofs.Common.{◌≡◌, List, [], ◌∷◌, ◌++◌, map, refl, sym, ap, subst, ◌∙◌, eqb, cond, append_assoc, true, false, arith}
use Rattle.std.specs.List.{AllByRecursion, AllZip, onto_first}
use Rattle.std.proofs.lemmas.List.Elements.{All-head, All-tail}
use Rattle.sd_config.specs.declared.config.Config.{Config}
use Rattle.sd_text.specs.Texts.{Text}
use Rattle.sd_link.specs.World.{World, start}
use Rattle.sd_link.specs.Steps.{Entry, run, record_of}
use Rattle.sd_link.proofs.Histories.{allowed-split}
use Rattle.sd_link.specs.Printing.{entry_text, record_text}
use Rattle.sd_script.specs.Answers.{answer_text, answer_line}
use Rattle.sd_claims.specs.Session.{parts_of}
use Rattle.sd_claims.specs.Transcript.{Done, transcript}
use Rattle.sd_view.specs.declared.lines.Line.{Line}
use Rattle.sd_view.specs.declared.lines.Line.TheVariants as said
use Rattle.sd_view.specs.Lines.{is_printable}
use Rattle.sd_view.specs.Order.{nothing}
use Rattle.sd_outside.specs.Lines.{lines}
use Rattle.sd_view.specs.Transcript.{IsWhole}
use Rattle.sd_view_laws.specs.Written.{line_of, run_of, EntryFits, AllFit, WrittenIsRead, ReplayedIsRead}
use Rattle.sd_view_laws.proofs.Printed.{Printed, no_feed}
use Rattle.sd_view_laws.proofs.LinesWritten.{Tells, entry_body, entry_ended, entry_told, answer_told}
use Rattle.sd_view_laws.proofs.InOrder.{commands_follow}

-- a printed text with its line feed is the first line
line_first : (body more : Text) → Printed body → lines ((body ++ 10 ∷ []) ++ more) ≡ (body ++ 10 ∷ []) ∷ lines more
line_first [] more p = refl
line_first (b ∷ body) more p =
    let other : eqb b 10 ≡ false = no_feed b (All-head (λ c. is_printable c ≡ true) b body p) in
    let text = (body ++ 10 ∷ []) ++ more in
    ap (λ v. cond v ((b ∷ []) ∷ lines text) (onto_first b (lines text))) other
    ∙ ap (λ (l : List Text). onto_first b l) (line_first body more (All-tail (λ c. is_printable c ≡ true) b body p))

Reads : Text → List Line → Type 0
Reads text run = AllZip IsWhole (lines text) run

one_read : (body more : Text) (line : Line) (run : List Line) → Tells body line → Reads more run → Reads ((body ++ 10 ∷ []) ++ more) (line ∷ run)
unfolding Reads
one_read body more line run t rest =
    subst (λ (texts : List Text). AllZip IsWhole texts (line ∷ run)) (sym (line_first body more t.printed)) (record { body = body; ended = refl; says = t.says }, rest)

record_read : (entries : List Entry) (more : Text) (run : List Line) → AllByRecursion EntryFits entries → Reads more run → Reads (record_text entries ++ more) (map line_of entries ++ run)
record_read [] more run f rest = rest
record_read (entry ∷ entries) more run f rest =
    let text = record_text entries ++ more in
    let is : record_text (entry ∷ entries) ++ more ≡ (entry_body entry ++ 10 ∷ []) ++ text =
    append_assoc (entry_text entry) (record_text entries) more ∙ ap (λ (t : Text). t ++ text) (entry_ended entry) in
    subst (λ (t : Text). Reads t (line_of entry ∷ (map line_of entries ++ run))) (sym is)
    (one_read (entry_body entry) text (line_of entry) (map line_of entries ++ run) (entry_told entry f.0) (record_read entries more run f.1 rest))

transcript_read : (c : Config) (w : World) (done : List Done) → AllFit c w done → Reads (transcript c w done) (run_of c w done)
unfolding Reads
transcript_read c w [] f = tt
transcript_read c w (d ∷ others) f =
    let rest = transcript c (run c w d.part) others in
    record_read (record_of c w d.part) (answer_line d.answer ++ rest) (said.Answer (answer_text d.answer) ∷ run_of c (run c w d.part) others) f.0
    (one_read (answer_text d.answer) rest (said.Answer (answer_text d.answer)) (run_of c (run c w d.part) others) (answer_told d.answer f.1) (transcript_read c (run c w d.part) others f.2))

pub written_is_read : WrittenIsRead
unfolding Reads
written_is_read c done allowed fits = record {
  each = transcript_read c (start c) done fits;
  ordered = commands_follow c (start c) done allowed nothing (omega arith) refl;
}

pub replayed_is_read : ReplayedIsRead
replayed_is_read s commands done more are fits =
    written_is_read s.config done (allowed-split s.config (start s.config) (parts_of done) more are.lawful.orderly.allowed).0 fits
