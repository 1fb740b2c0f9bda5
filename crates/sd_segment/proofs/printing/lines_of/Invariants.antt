use Rattle.std.proofs.Common.{◌≡◌, take}
use Rattle.sd_link.specs.Printing.{record_text}
use Rattle.sd_segment.specs.Kept.{entries_kept}
use Rattle.sd_segment.proofs.printing.lines_of.Given as goal

abbrev pub invariant-loop-entry : goal.invariant-loop-entry
invariant-loop-entry l = l.text ≡ record_text (entries_kept l.flight (take l.entry-index l.kept))
