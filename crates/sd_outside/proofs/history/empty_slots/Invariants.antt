use Rattle.std.proofs.Common.{◌≡◌, length}
use Rattle.sd_outside.proofs.history.empty_slots.Given as goal

abbrev pub invariant-loop-made : goal.invariant-loop-made
invariant-loop-made l = length l.slots.items ≡ l.made
