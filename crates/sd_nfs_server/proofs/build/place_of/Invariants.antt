use Rattle.std.proofs.Common.{◌-◌}
use Rattle.sd_nfs_server.proofs.Order.{IsBetween}
use Rattle.sd_nfs_server.proofs.build.place_of.Given as goal

-- the place is between the two
abbrev pub invariant-loop-low : goal.invariant-loop-low
invariant-loop-low l = IsBetween l.nodes l.path l.low l.high

abbrev pub decreases-loop-low : goal.decreases-loop-low
decreases-loop-low l = l.high - l.low
