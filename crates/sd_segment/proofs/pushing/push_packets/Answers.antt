use Rattle.std.proofs.Common.{◌≡◌, List, [], ◌∷◌, ◌++◌, length, sym, ◌∙◌, ap, arith, append_assoc}
use Rattle.std.specs.Vec.Iter.{into_iter_items}
use Rattle.sd_outside.specs.declared.packet.Packet.{Packet}
use Rattle.sd_segment.proofs.InFlight.{flies_then}
use Rattle.sd_segment.proofs.pushing.push_packets.Goals as goal

pub loop-packet-preserved : goal.loop-packet-preserved
loop-packet-preserved c =
    let before = c.loop-packet.invariant.flies in
    let rest = into_iter_items c.next.new.self in
    let step : into_iter_items c.loop-packet.packet-iterator ≡ c.in-Some.packet ∷ rest = c.in-Some.ensures.steps.0 in
    record {
      flies = (
        before.0 ++ c.in-Some.packet ∷ [],
        flies_then c.args.events.now.fates c.args.from c.args.tick c.args.flight.now.items c.loop-packet.flight.items c.push_packet.new.flight.items before.0 (c.in-Some.packet ∷ []) before.1 c.push_packet.ensures.flies,
        append_assoc before.0 (c.in-Some.packet ∷ []) rest ∙ ap (λ (l : List Packet). before.0 ++ l) (sym step) ∙ before.2,
      );
      room = omega (arith, c.push_packet.ensures.len, c.push_packet.ensures.room, c.loop-packet.invariant.room, ap (λ (l : List Packet). length l) step);
    }
