use Rattle.std.proofs.Common.{◌≡◌, ◌∙◌, ℕ, List, Err, Result, refl, sym, ap, subst, inl}
use Rattle.std.specs.List.{All}
use Rattle.std.proofs.lemmas.Result.{err_from_is_err_and}
use Rattle.sd_view.specs.declared.lines.Line.{Line}
use Rattle.sd_view.specs.declared.status.Stop.{Stop}
use Rattle.sd_view.specs.declared.transcript.TranscriptError.{TranscriptError}
use Rattle.sd_view.specs.Capture.{HasShort}
use Rattle.sd_outside.specs.Lines.{lines}
use Rattle.sd_view.specs.Transcript.{IsFirstOutside, IsTranscriptError}
use Rattle.sd_view.specs.Views.{IsDrawing}
use Rattle.sd_view.proofs.Shortness.{all_short}
use Rattle.sd_view.proofs.Drawing.{not_written, refused}
use Rattle.sd_view.proofs.programs.draw_text.Goals as goal

as_err : (s t : Stop) → s ≡ t → (r : Result (Unit {0}) Stop) → r ≡ Err s → r ≡ Err t
as_err s t is r e = e ∙ ap (λ (x : Stop). error x) is
  where
    error : Stop → Result (Unit {0}) Stop
    error x = Err x

pub drawing-requires : goal.drawing-requires
drawing-requires g c =
    subst (λ (run : List Line). All HasShort run) (sym c.as_slice.ensures) (all_short (lines c.args.text.now) c.in-Ok.run' c.in-Ok.ensures.read.each)

pub returns-in_err-write-in-Ok-clause-told : goal.returns-in_err-write-in-Ok-clause-told
returns-in_err-write-in-Ok-clause-told g c =
    let p = err_from_is_err_and c.from_residual-in_err-write-in-Ok.result c.from_residual-in_err-write-in-Ok.ensures.1 in
    let old = g.K.Sink.written c.args.sink.now in
    let new = g.K.Sink.written c.write.new.sink in
    let is : IsDrawing c.args.view c.in-Ok.run' c.as_slice-in-Ok.result.now =
    subst (λ (out : List ℕ). IsDrawing c.args.view c.in-Ok.run' out) (sym c.as_slice-in-Ok.ensures) (subst (λ (run : List Line). IsDrawing c.args.view run c.in_ok-bytes-in-Ok.bytes) c.as_slice.ensures c.in_ok-bytes-in-Ok.ensures) in
    rw (p.1, p.2) (not_written c.args.view c.args.text.now c.as_slice-in-Ok.result.now old new c.in_err-write-in-Ok.field-0.0 (inl record { run = c.in-Ok.run'; is = c.in-Ok.ensures.read; whole = is }) c.in_err-write-in-Ok.ensures.err
    (λ is. c.in_err-write-in-Ok.ensures.source (as_err c.in_err-write-in-Ok.field-0.0 _ is (Err c.in_err-write-in-Ok.field-0.0) refl)))

pub returns-in-Line-clause-told : goal.returns-in-Line-clause-told
returns-in-Line-clause-told g c =
    let first : IsFirstOutside c.args.text.now c.in-Line.number = subst (λ (e : TranscriptError). IsTranscriptError c.args.text.now e) c.in-Line.is c.in-Err.ensures.refused in
    refused c.args.view c.args.text.now c.in-Line.number (g.K.Sink.written c.args.sink.now) (g.K.Sink.written c.refuse.new.sink) c.refuse.result first c.refuse.ensures.ok c.refuse.ensures.err c.refuse.ensures.ended c.refuse.ensures.source
