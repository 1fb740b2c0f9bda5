use Rattle.sd_view.proofs.Travelling.{AreSoFar}
use Rattle.sd_view.proofs.journeys.journeys.Given as goal

abbrev pub invariant-loop-place : goal.invariant-loop-place
invariant-loop-place l = AreSoFar l.run l.seen l.place l.journeys
