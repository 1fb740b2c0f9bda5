use Rattle.std.proofs.Common.{length}
use Rattle.sd_boot.proofs.Turning.{IsSoFar}
use Rattle.sd_boot.proofs.packet_texts.translated.Given as goal

abbrev pub invariant-loop-rest : goal.invariant-loop-rest
invariant-loop-rest l = IsSoFar l.direction l.text l.rest l.output l.number l.seen

abbrev pub decreases-loop-rest : goal.decreases-loop-rest
decreases-loop-rest l = length l.rest
