use Rattle.std.proofs.Common.{◌≡◌, ◌++◌, drop}
use Rattle.sd_view.specs.Picture.{rows}
use Rattle.sd_view.proofs.picture.push_rows.Given as goal

-- with the rows of the lines that are left, these are all
abbrev pub invariant-loop-place : goal.invariant-loop-place
invariant-loop-place l = l.out ++ rows l.strangers l.journeys l.place (drop l.place l.run) ≡ l.initial.out ++ rows l.strangers l.journeys 0 l.run
