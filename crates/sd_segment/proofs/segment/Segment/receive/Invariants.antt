use Rattle.std.proofs.Common.{◌≡◌, ◌-◌, ◌≤◌, List}
use Rattle.sd_link.specs.Steps.{Step}
use Rattle.sd_link.specs.Link.{IsReached}
use Rattle.sd_segment.specs.Segment.{history_of, Rests}
use Rattle.sd_segment.specs.Passing.{Waits}
use Rattle.sd_segment.proofs.segment.Segment.receive.Given as goal

abbrev pub invariant-waiting : goal.invariant-waiting
invariant-waiting l = record {
  waits : (part : List Step) × Waits l.until l.initial.self l.self part;
  bounded : IsReached (history_of l.self);
  ready : Rests l.self;
  tick : l.initial.self.tick ≤ l.self.tick;
  faults : l.self.faults ≡ l.initial.self.faults;
  handed : l.self.handed ≡ l.initial.self.handed;
  calls : l.self.calls ≡ l.initial.self.calls;
}

abbrev pub decreases-waiting : goal.decreases-waiting
decreases-waiting l = l.until - l.self.tick
