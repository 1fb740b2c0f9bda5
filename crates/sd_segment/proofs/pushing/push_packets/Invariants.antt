use Rattle.std.proofs.Common.{◌≡◌, ◌+◌, ◌≤◌, ◌++◌, List, length}
use Rattle.std.specs.Vec.{vec_len, vec_capacity}
use Rattle.std.specs.Vec.Iter.{into_iter_items}
use Rattle.sd_outside.specs.declared.packet.Packet.{Packet}
use Rattle.sd_segment.specs.Flight.{Flies}
use Rattle.sd_segment.proofs.pushing.push_packets.Given as goal

-- those before went into flight
abbrev pub invariant-loop-packet : goal.invariant-loop-packet
invariant-loop-packet l = record {
  flies : (before : List Packet) × Flies l.events.fates l.from l.tick l.initial.flight.items before l.flight.items × (before ++ into_iter_items l.packet-iterator ≡ l.fn.packets);
  room : vec_len l.flight + length (into_iter_items l.packet-iterator) ≤ vec_capacity l.flight;
}
