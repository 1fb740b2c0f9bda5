use Rattle.std.proofs.Common.{◌≡◌, ◌≤◌, ℕ, length, drop}
use Rattle.std.specs.BTreeMap.{get}
use Rattle.std.specs.Ordering.{nat_cmp}
use Rattle.sd_config.specs.Events.{fate_in}
use Rattle.sd_segment.specs.Flight.{delays_of}
use Rattle.sd_segment.proofs.places.fate_places.Given as goal

-- the places of the lines from there on
abbrev pub invariant-loop-left : goal.invariant-loop-left
invariant-loop-left l = record {
  few : l.left ≤ length l.fates;
  known : (id : ℕ) → delays_of l.fates (get nat_cmp l.places id) ≡ fate_in (drop l.left l.fates) id;
}

abbrev pub decreases-loop-left : goal.decreases-loop-left
decreases-loop-left l = l.left
