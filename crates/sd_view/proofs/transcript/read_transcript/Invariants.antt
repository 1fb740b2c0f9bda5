use Rattle.std.proofs.Common.{length}
use Rattle.sd_view.proofs.Reading.{IsSoFar}
use Rattle.sd_view.proofs.transcript.read_transcript.Given as goal

abbrev pub invariant-loop-rest : goal.invariant-loop-rest
invariant-loop-rest l = IsSoFar l.text l.rest l.run l.so_far l.number

abbrev pub decreases-loop-rest : goal.decreases-loop-rest
decreases-loop-rest l = length l.rest
