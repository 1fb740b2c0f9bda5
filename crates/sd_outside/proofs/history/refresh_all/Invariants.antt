use Rattle.sd_outside.specs.Kept.{SparedBy, Refreshed}
use Rattle.sd_outside.proofs.history.refresh_all.Given as goal

abbrev pub invariant-loop-place : goal.invariant-loop-place
invariant-loop-place g l = Refreshed (SparedBy l.place l.slots) l.from l.fn.items.items l.items.items
