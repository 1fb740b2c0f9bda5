use Rattle.std.proofs.Common.{◌≡◌, drop}
use Rattle.sd_view.specs.Ladder.{has_strangers}
use Rattle.sd_view.proofs.ladder.has_strangers.Given as goal

abbrev pub invariant-loop-journey : goal.invariant-loop-journey
invariant-loop-journey l = has_strangers (drop l.journey-index l.journeys) ≡ has_strangers l.journeys
