use Rattle.std.proofs.Common.{◌≡◌, ◌++◌, take}
use Rattle.std.specs.Prelude.{flat_map}
use Rattle.sd_view.specs.Ladder.{heading, line_row}
use Rattle.sd_view.proofs.ladder.ladder.Given as goal

abbrev pub invariant-loop-line : goal.invariant-loop-line
invariant-loop-line l = l.out ≡ heading l.strangers ++ flat_map (λ line. line_row l.strangers l.journeys line) (take l.line-index l.run)
