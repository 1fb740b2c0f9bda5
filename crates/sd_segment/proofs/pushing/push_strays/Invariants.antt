use Rattle.std.proofs.Common.{◌≡◌, ◌+◌, ◌-◌, ◌≤◌, ◌++◌}
use Rattle.std.specs.Vec.{vec_len, vec_capacity}
use Rattle.sd_segment.specs.Kept.{strays_kept}
use Rattle.sd_segment.proofs.pushing.push_strays.Given as goal

-- what was kept, and what is still to be kept, is all
abbrev pub invariant-loop-place : goal.invariant-loop-place
invariant-loop-place l = record {
  all : l.kept.items ++ strays_kept l.tick (l.first + l.place) (l.count - l.place) ≡ l.initial.kept.items ++ strays_kept l.tick l.first l.count;
  room : vec_len l.kept + (l.count - l.place) ≤ vec_capacity l.kept;
}
