use Rattle.std.proofs.Common.{◌∙◌, ◌++◌, ap, sym, take}
use Rattle.std.specs.Prelude.{flat_map, List, ℕ, ◌∷◌, []}
use Rattle.std.proofs.lemmas.List.{take_more, flat_map_more}
use Rattle.sd_view.specs.declared.lines.Line.{Line}
use Rattle.sd_view.specs.Capture.{file_header, captured}
use Rattle.sd_view.proofs.capture.capture.Goals as goal

pub loop-line-preserved : goal.loop-line-preserved
loop-line-preserved c =
    let run = c.args.run.now in
    let i = c.loop-line.line-index in
    let line = c.line-item.result in
    c.in_ok-push_line.ensures ∙ ap (λ (out : List ℕ). out ++ captured line) c.loop-line.invariant ∙ flat_map_more captured file_header (take i run) line
    ∙ ap (λ (lines : List Line). file_header ++ flat_map captured lines) (ap (λ (x : Line). take i run ++ (x ∷ [])) c.line-item.is ∙ sym (take_more run i line c.loop-line-test.true))
