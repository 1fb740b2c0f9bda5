use Rattle.std.proofs.Common.{◌≡◌, drop}
use Rattle.sd_view.specs.Ends.{ends_of}
use Rattle.sd_view.proofs.ends.ends_of.Given as goal

abbrev pub invariant-loop-line : goal.invariant-loop-line
invariant-loop-line l = ends_of (drop l.line-index l.run) ≡ ends_of l.run
