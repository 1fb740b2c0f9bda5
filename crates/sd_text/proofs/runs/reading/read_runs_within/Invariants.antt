use Rattle.std.proofs.Common.{length}
use Rattle.sd_text.specs.Texts.{cut}
use Rattle.sd_text.proofs.ItemLemmas.{IsReading}
use Rattle.sd_text.proofs.runs.reading.read_runs_within.Given as goal

abbrev pub invariant-loop-part : goal.invariant-loop-part
invariant-loop-part l = IsReading l.most (cut 46 l.fn.text) l.parts l.bytes.items

abbrev pub decreases-loop-part : goal.decreases-loop-part
decreases-loop-part l = length l.parts
