use Rattle.std.proofs.Common.{◌≡◌, drop}
use Rattle.sd_outside.specs.Ranges.{part}
use Rattle.sd_stable_disk.specs.Image.{first_wrong, format_name}
use Rattle.sd_stable_disk.proofs.head.wrong_name.Given as goal

abbrev pub invariant-loop-place : goal.invariant-loop-place
invariant-loop-place l = first_wrong 0 format_name (part 0 8 l.name) ≡ first_wrong l.place (drop l.place format_name) (drop l.place (part 0 8 l.name))
