use Rattle.std.proofs.Common.{◌≡◌, ◌+◌, ◌++◌, take}
use Rattle.sd_link.specs.Printing.{record_text}
use Rattle.sd_segment.specs.Kept.{sent_entries}
use Rattle.sd_segment.proofs.printing.write_all_sent.Given as goal

abbrev pub invariant-loop-flown : goal.invariant-loop-flown
invariant-loop-flown l = record {
  text : l.text ≡ l.initial.text ++ record_text (sent_entries l.tick l.first (take l.flown-index l.sent));
  id : l.id ≡ l.first + l.flown-index;
}
