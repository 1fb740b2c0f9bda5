use Rattle.std.proofs.Common.{◌≡◌, ℕ, ◌||◌, take}
use Rattle.std.specs.BTreeSet.{contains}
use Rattle.std.specs.Ordering.{nat_cmp}
use Rattle.sd_view.specs.Journeys.{arrives}
use Rattle.sd_view.proofs.journeys.add_arrivals.Given as goal

-- the numbers that the lines so far tell are in the set
abbrev pub invariant-loop-line : goal.invariant-loop-line
invariant-loop-line l = (id : ℕ) → contains nat_cmp l.arrived id ≡ (contains nat_cmp l.initial.arrived id || arrives id (take l.line-index l.run))
