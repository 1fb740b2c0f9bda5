use Rattle.std.proofs.Common.{◌≡◌, ◌<◌, length}
use Rattle.sd_view.proofs.Summing.{summed}
use Rattle.sd_view.proofs.internet.checksum.Given as goal

abbrev pub invariant-words : goal.invariant-words
invariant-words l = record { sum : summed l.sum l.rest ≡ summed 0 l.bytes; fits : l.sum < 65536 }

abbrev pub decreases-words : goal.decreases-words
decreases-words l = length l.rest
