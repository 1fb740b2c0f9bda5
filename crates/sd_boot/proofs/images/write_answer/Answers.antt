use Rattle.std.proofs.Common.{ℕ, List, subst}
use Rattle.std.proofs.lemmas.Result.{err_from_is_err_and}
use Rattle.sd_streams.specs.Writing.{GainsPrefix}
use Rattle.sd_boot.proofs.Imaging.{cut_answer, not_the_source}
use Rattle.sd_boot.proofs.images.write_answer.Goals as goal

pub returns-in_err-write-clause-told : goal.returns-in_err-write-clause-told
returns-in_err-write-clause-told g c =
    let p = err_from_is_err_and c.from_residual-in_err-write.result c.from_residual-in_err-write.ensures.1 in
    rw (p.1, p.2)
    (cut_answer c.args.word c.args.input.now c.in_ok-ended.output c.in_ok-ended.ended (g.K.Sink.written c.args.sink.now) (g.K.Sink.written c.write.new.sink) c.in_err-write.field-0.0 c.in_ok-ended.ensures
    (subst (λ (l : List ℕ). GainsPrefix (g.K.Sink.written c.args.sink.now) (g.K.Sink.written c.write.new.sink) l) c.as_slice.ensures c.in_err-write.ensures.err)
    (not_the_source c.in_err-write.field-0.0 c.in_err-write.ensures.source))
