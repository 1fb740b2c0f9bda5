use Rattle.std.proofs.Common.{◌≡◌, ◌++◌, take}
use Rattle.std.specs.Prelude.{flat_map}
use Rattle.sd_view.specs.Capture.{file_header, captured}
use Rattle.sd_view.proofs.capture.capture.Given as goal

abbrev pub invariant-loop-line : goal.invariant-loop-line
invariant-loop-line l = l.out ≡ file_header ++ flat_map captured (take l.line-index l.run)
