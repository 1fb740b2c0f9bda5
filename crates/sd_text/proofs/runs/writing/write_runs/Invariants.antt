use Rattle.std.proofs.Common.{length}
use Rattle.sd_text.specs.Runs.{runs_text}
use Rattle.sd_text.proofs.WriteLemmas.{IsWriting}
use Rattle.sd_text.proofs.runs.writing.write_runs.Given as goal

abbrev pub invariant-loop-rest : goal.invariant-loop-rest
invariant-loop-rest l = IsWriting l.fn.text l.text (runs_text l.bytes) l.rest

abbrev pub decreases-loop-rest : goal.decreases-loop-rest
decreases-loop-rest l = length l.rest
