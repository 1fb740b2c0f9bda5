use Rattle.std.proofs.Common.{◌≡◌, ◌++◌, take}
use Rattle.sd_segment.specs.Flight.{copies}
use Rattle.sd_segment.proofs.due.add_copies.Given as goal

abbrev pub invariant-loop-delay : goal.invariant-loop-delay
invariant-loop-delay l = l.ids ≡ l.initial.ids ++ copies l.id l.sent l.tick (take l.delay-index l.delays)
