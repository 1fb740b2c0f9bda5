use Rattle.std.proofs.Common.{◌≡◌, ◌≤◌, ◌<◌, ◌-◌, length, take, drop}
use Rattle.sd_text.specs.Runs.{before, normal_items}
use Rattle.sd_text.proofs.runs.writing.first_item.Given as goal

abbrev pub invariant-loop-at : goal.invariant-loop-at
invariant-loop-at l = record {
  least : 0 < l.at;
  most : l.at ≤ length l.bytes;
  items : normal_items l.bytes ≡ before (take l.at l.bytes) (normal_items (drop l.at l.bytes));
}

abbrev pub decreases-loop-at : goal.decreases-loop-at
decreases-loop-at l = length l.bytes - l.at
