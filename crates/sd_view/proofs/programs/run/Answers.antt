use Rattle.std.proofs.Common.{◌≡◌, ◌⊎◌, ℕ, List, sym, subst}
use Rattle.std.specs.Prelude.{IfSome}
use Rattle.sd_view.specs.declared.lines.Line.{Line}
use Rattle.sd_view.specs.declared.status.Status.{Status}
use Rattle.sd_view.specs.Transcript.{IsTranscript, IsFirstOutside}
use Rattle.sd_view.proofs.Drawing.{drawn_or_memory, refused_or_memory}
use Rattle.sd_view.proofs.programs.run.Goals as goal

pub returns-in-Some-clause-complete : goal.returns-in-Some-clause-complete
returns-in-Some-clause-complete g c = λ view words calm_source calm_sink.
    subst (λ (s : Status). IfSome (g.S.Source.left c.args.source.now) (λ text. (lines : List Line) → IsTranscript text lines → (s.0 ≡ 0) ⊎ (s.0 ≡ 5))) (sym c.status_of.ensures)
    (drawn_or_memory c.in-Some.view c.draw.result (g.S.Source.left c.args.source.now) (g.K.Sink.written c.args.sink.now) (g.K.Sink.written c.draw.new.sink)
    (g.S.Source.faults c.args.source.now) (g.S.Source.faults c.draw.new.source) (g.K.Sink.faults c.args.sink.now) (g.K.Sink.faults c.draw.new.sink) c.draw.ensures.told c.draw.ensures.read c.draw.ensures.write calm_source calm_sink)

pub returns-in-Some-clause-refused : goal.returns-in-Some-clause-refused
returns-in-Some-clause-refused g c = λ view words calm_source calm_sink.
    subst (λ (s : Status). IfSome (g.S.Source.left c.args.source.now) (λ text. (n : ℕ) → IsFirstOutside text n → (s.0 ≡ 1) ⊎ (s.0 ≡ 5))) (sym c.status_of.ensures)
    (refused_or_memory c.in-Some.view c.draw.result (g.S.Source.left c.args.source.now) (g.K.Sink.written c.args.sink.now) (g.K.Sink.written c.draw.new.sink)
    (g.S.Source.faults c.args.source.now) (g.S.Source.faults c.draw.new.source) (g.K.Sink.faults c.args.sink.now) (g.K.Sink.faults c.draw.new.sink) c.draw.ensures.told c.draw.ensures.read c.draw.ensures.write calm_source calm_sink)
