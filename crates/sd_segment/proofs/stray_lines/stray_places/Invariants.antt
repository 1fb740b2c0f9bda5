use Rattle.std.proofs.Common.{◌≡◌, ℕ, take}
use Rattle.std.specs.BTreeMap.{get}
use Rattle.std.specs.Ordering.{nat_cmp}
use Rattle.sd_segment.specs.Strays.{items_or, places_at}
use Rattle.sd_segment.proofs.stray_lines.stray_places.Given as goal

-- the places of the lines so far
abbrev pub invariant-loop-place : goal.invariant-loop-place
invariant-loop-place l = (tick : ℕ) → items_or (get nat_cmp l.map tick) ≡ places_at tick 0 (take l.place l.lines)
