use Rattle.std.proofs.Common.{◌≡◌, ◌+◌, ◌<◌, ◌≤◌, List, [], ◌++◌, length, map, ◌∙◌, sym, ap, subst, arith}
use Rattle.sd_outside.specs.declared.packet.Packet.{Packet}
use Rattle.sd_config.specs.Plan.{strays_of}
use Rattle.std.specs.List.Sorted.{IsNonDecreasingBy}
use Rattle.sd_link.specs.World.{World as AWorld, flying}
use Rattle.sd_link.specs.World as World
use Rattle.sd_config.specs.Events.{fate_in, fates_of}
use Rattle.sd_link.specs.Lawful.{due, due_to_server, due_to_client}
use Rattle.sd_link.specs.Link.{last_tick}
use Rattle.sd_link.specs.Steps.{goes_to_server, goes_to_client}
use Rattle.sd_segment.specs.declared.flown.Flown.{Flown}
use Rattle.sd_segment.specs.Flight.{flying_of, AllFated}
use Rattle.sd_segment.specs.Kept.{steps_kept, strays_kept}
use Rattle.sd_segment.specs.Inside.{view_of}
use Rattle.sd_segment.specs.Segment.{SegmentView, IsSound, Rests, world_at}
use Rattle.sd_segment.specs.Passing.{Advances}
use Rattle.sd_segment.proofs.Ascending.{flight_ascends}
use Rattle.sd_segment.proofs.Straying.{strays_found}
use Rattle.sd_segment.proofs.Ticking.{tick_next, tick_is, sound_tick, passes_tick}
use Rattle.sd_segment.proofs.segment.Segment.pass.Goals as goal

pub due_ids-requires-clause-ascends : goal.due_ids-requires-clause-ascends
due_ids-requires-clause-ascends c =
    let s = view_of c.self.inside in
    subst (λ (l : List Flown). IsNonDecreasingBy (λ (f : Flown). f.tick) l) (sym c.as_slice-flight.ensures.value)
    (flight_ascends s.config (steps_kept s.flight s.kept s.tick) s.flight (ap (λ (w : AWorld). w.flight) c.self.invariant.keeps.world))

pub due_ids-requires-2-clause-ascends : goal.due_ids-requires-2-clause-ascends
due_ids-requires-2-clause-ascends c =
    let s = view_of c.self.inside in
    subst (λ (l : List Flown). IsNonDecreasingBy (λ (f : Flown). f.tick) l) (sym c.as_slice-flight.ensures.value)
    (flight_ascends s.config (steps_kept s.flight s.kept s.tick) s.flight (ap (λ (w : AWorld). w.flight) c.self.invariant.keeps.world))

pub invariant_of-self-2 : goal.invariant_of-self-2
invariant_of-self-2 c =
    let s = view_of c.self.inside in
    let packets : List Packet = strays_of s.events (s.tick + 1) in
    let early : s.tick < last_tick = subst (λ (v : SegmentView). v.tick < last_tick) (sym c.self.view_is) c.requires.early in
    let ready : Rests s = subst Rests (sym c.self.view_is) c.requires.ready in
    let no_client : s.to_client ≡ [] = subst (λ (v : SegmentView). v.to_client ≡ []) (sym c.self.view_is) c.requires.got in
    let fates = c.fates-fates.ensures in
    let flight = c.as_slice-flight.ensures.value in
    let server : c.in_ok-to_server.to_server ≡ due_to_server s.config (fates_of s.events) (world_at s.server s.flight (s.tick + 1)) =
    c.in_ok-to_server.ensures ∙ (λ i. due (goes_to_server (c.config.ensures i)) (fate_in (fates i)) (map flying_of (flight i)) (s.tick + 1)) in
    let client : c.in_ok-to_client.to_client ≡ due_to_client s.config (fates_of s.events) (world_at s.server s.flight (s.tick + 1)) =
    c.in_ok-to_client.ensures ∙ (λ i. due (goes_to_client (c.config-2.ensures i)) (fate_in (fates i)) (map flying_of (flight i)) (s.tick + 1)) in
    let found : c.in_ok-strays.strays ≡ packets = c.in_ok-strays.ensures ∙ strays_found (s.tick + 1) s.events.strangers in
    let count : length c.as_slice-count.result.now ≡ length packets = ap (λ (l : List Packet). length l) (c.as_slice-count.ensures ∙ found) in
    let here : c.in_ok-first.first ≡ length s.flight = c.in_ok-first.ensures.next ∙ ap (λ (l : List Flown). length l) flight in
    let flies = c.push_packets.ensures in
    let more = flies.more in
    let sent : map flying_of more ≡ map (flying World.Stranger (s.tick + 1)) packets = flies.sent ∙ ap (λ (l : List Packet). map (flying World.Stranger (s.tick + 1)) l) found in
    let added = flies.added ∙ ap (λ (l : List Flown). l ++ more) c.reserve_both.ensures.flight in
    let kept = c.push_strays.ensures ∙ (λ i. (c.reserve_both.ensures.kept i) ++ strays_kept (s.tick + 1) (here i) (count i)) in
    let room : length s.flight + length packets ≤ last_tick = omega (arith, c.in_ok-first.ensures.room, ap (λ (l : List Flown). length l) flight, count) in
    let fated : AllFated s.events.fates (length s.flight) more =
    subst (λ (l : List Flown). AllFated s.events.fates (length l) more) c.reserve_both.ensures.flight flies.fated in
    subst IsSound (sym (tick_is s c.push_packets.new.flight.items more c.push_strays.new.kept.items c.in_ok-to_server.to_server c.in_ok-to_client.to_client added kept))
    (sound_tick s more c.in_ok-to_server.to_server c.in_ok-to_client.to_client c.self.invariant early ready no_client server client sent room fated)

pub returns-clause-ok : goal.returns-clause-ok
returns-clause-ok c =
    let s = view_of c.self.inside in
    let packets : List Packet = strays_of s.events (s.tick + 1) in
    let early : s.tick < last_tick = subst (λ (v : SegmentView). v.tick < last_tick) (sym c.self.view_is) c.requires.early in
    let ready : Rests s = subst Rests (sym c.self.view_is) c.requires.ready in
    let no_client : s.to_client ≡ [] = subst (λ (v : SegmentView). v.to_client ≡ []) (sym c.self.view_is) c.requires.got in
    let fates = c.fates-fates.ensures in
    let flight = c.as_slice-flight.ensures.value in
    let server : c.in_ok-to_server.to_server ≡ due_to_server s.config (fates_of s.events) (world_at s.server s.flight (s.tick + 1)) =
    c.in_ok-to_server.ensures ∙ (λ i. due (goes_to_server (c.config.ensures i)) (fate_in (fates i)) (map flying_of (flight i)) (s.tick + 1)) in
    let client : c.in_ok-to_client.to_client ≡ due_to_client s.config (fates_of s.events) (world_at s.server s.flight (s.tick + 1)) =
    c.in_ok-to_client.ensures ∙ (λ i. due (goes_to_client (c.config-2.ensures i)) (fate_in (fates i)) (map flying_of (flight i)) (s.tick + 1)) in
    let found : c.in_ok-strays.strays ≡ packets = c.in_ok-strays.ensures ∙ strays_found (s.tick + 1) s.events.strangers in
    let count : length c.as_slice-count.result.now ≡ length packets = ap (λ (l : List Packet). length l) (c.as_slice-count.ensures ∙ found) in
    let here : c.in_ok-first.first ≡ length s.flight = c.in_ok-first.ensures.next ∙ ap (λ (l : List Flown). length l) flight in
    let flies = c.push_packets.ensures in
    let more = flies.more in
    let sent : map flying_of more ≡ map (flying World.Stranger (s.tick + 1)) packets = flies.sent ∙ ap (λ (l : List Packet). map (flying World.Stranger (s.tick + 1)) l) found in
    let added = flies.added ∙ ap (λ (l : List Flown). l ++ more) c.reserve_both.ensures.flight in
    let kept = c.push_strays.ensures ∙ (λ i. (c.reserve_both.ensures.kept i) ++ strays_kept (s.tick + 1) (here i) (count i)) in
    let after : SegmentView = record s { flight = c.push_packets.new.flight.items; kept = c.push_strays.new.kept.items; tick = s.tick + 1; to_server = c.in_ok-to_server.to_server; to_client = c.in_ok-to_client.to_client } in
    let is : after ≡ tick_next s more c.in_ok-to_server.to_server c.in_ok-to_client.to_client = tick_is s c.push_packets.new.flight.items more c.push_strays.new.kept.items c.in_ok-to_server.to_server c.in_ok-to_client.to_client added kept in
    subst (λ (v : SegmentView). Advances v after) c.self.view_is
    (subst (λ (v : SegmentView). Advances s v) (sym is)
    (passes_tick s more c.in_ok-to_server.to_server c.in_ok-to_client.to_client c.self.invariant early ready no_client server client sent (subst IsSound is (invariant_of-self-2 c))))
