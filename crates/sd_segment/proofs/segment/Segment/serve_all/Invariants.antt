use Rattle.std.proofs.Common.{◌≡◌, length}
use Rattle.sd_segment.proofs.Waiting.{Serves}
use Rattle.sd_segment.proofs.segment.Segment.serve_all.Given as goal

abbrev pub invariant-loop-id : goal.invariant-loop-id
invariant-loop-id l = record {
  moves : Serves l.initial.self l.self;
  tick : l.self.tick ≡ l.initial.self.tick;
  handed : l.self.handed ≡ l.initial.self.handed;
  calls : l.self.calls ≡ l.initial.self.calls;
}

abbrev pub decreases-loop-id : goal.decreases-loop-id
decreases-loop-id l = length l.self.to_server
