use Rattle.std.proofs.Common.{length}
use Rattle.sd_script.proofs.RestLemmas.{IsTaking}
use Rattle.sd_script.proofs.lines.params.take_rest.Given as goal

abbrev pub invariant-loop-field : goal.invariant-loop-field
invariant-loop-field l = IsTaking l.fn.fields l.text l.fields

abbrev pub decreases-loop-field : goal.decreases-loop-field
decreases-loop-field l = length l.fields
