use Rattle.std.proofs.Common.{ℕ, List, sym, ◌∙◌, subst}
use Rattle.std.proofs.lemmas.List.{take_rest}
use Rattle.sd_streams.proofs.Gaining.{Written, written_more}
use Rattle.sd_streams.proofs.writing.write_all.Goals as goal

pub loop-rest-preserved : goal.loop-rest-preserved
loop-rest-preserved g c =
    let rest = c.loop-rest.rest.now in
    let n = c.in_ok-count.count in
    record {
      so_far =
          subst (λ (l : List ℕ). Written (g.K.Sink.written c.args.sink.now) (g.K.Sink.written c.write.new.self) c.args.bytes.now l) (sym (take_rest rest n))
          (written_more _ _ _ c.args.bytes.now rest n c.loop-rest.invariant.so_far c.in_ok-count.ensures.bytes.0);
      faults = c.in_ok-count.ensures.cause.calm ∙ c.loop-rest.invariant.faults;
    }
