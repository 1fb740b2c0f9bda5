use Rattle.std.proofs.Common.{take}
use Rattle.sd_segment.specs.Failing.{AreNamed}
use Rattle.sd_segment.proofs.faults.named_calls.Given as goal

-- what the lines so far name is in the sets
abbrev pub invariant-loop-fault : goal.invariant-loop-fault
invariant-loop-fault l = AreNamed l.sends l.receives (take l.fault-index l.faults)
