use Rattle.std.proofs.Common.{◌≡◌, take}
use Rattle.std.specs.List.{flat_map}
use Rattle.sd_segment.specs.Strays.{packet_at}
use Rattle.sd_segment.proofs.stray_lines.packets_of.Given as goal

-- those of the places so far
abbrev pub invariant-loop-place : goal.invariant-loop-place
invariant-loop-place l = l.list ≡ flat_map (packet_at l.lines) (take l.place-index l.places)
