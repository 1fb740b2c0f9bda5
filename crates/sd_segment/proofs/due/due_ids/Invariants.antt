use Rattle.std.proofs.Common.{◌≡◌, take, map}
use Rattle.sd_config.specs.Events.{fate_in}
use Rattle.sd_link.specs.Lawful.{due}
use Rattle.sd_segment.specs.Flight.{goes_to, flying_of}
use Rattle.sd_segment.proofs.due.due_ids.Given as goal

abbrev pub invariant-loop-id : goal.invariant-loop-id
invariant-loop-id l = l.ids ≡ due (goes_to l.end l.config) (fate_in l.fates) (map flying_of (take l.id l.flight)) l.tick
