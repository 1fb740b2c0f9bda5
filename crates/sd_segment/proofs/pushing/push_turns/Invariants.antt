use Rattle.std.proofs.Common.{◌≡◌, ◌+◌, ◌-◌, ◌≤◌, ◌++◌, length, drop}
use Rattle.std.specs.Vec.{vec_len, vec_capacity}
use Rattle.sd_link.specs.Link.{last_tick}
use Rattle.sd_segment.specs.Kept.{turns_kept}
use Rattle.sd_segment.proofs.pushing.push_turns.Given as goal

-- what was kept, and what is still to be kept, is all
abbrev pub invariant-loop-turn : goal.invariant-loop-turn
invariant-loop-turn l = record {
  all : l.kept.items ++ turns_kept l.tick l.id (drop l.turn-index l.turns) ≡ l.initial.kept.items ++ turns_kept l.tick l.first l.turns;
  room : vec_len l.kept + (length l.turns - l.turn-index) ≤ vec_capacity l.kept;
  ids : l.id + (length l.turns - l.turn-index) ≤ last_tick;
}
