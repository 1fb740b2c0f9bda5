use Rattle.std.proofs.Common.{◌≡◌, ◌+◌, ◌≤◌, [], List, ◌++◌, length, map, ◌∙◌, sym, ap, subst, arith}
use Rattle.std.specs.List.{flat_map}
use Rattle.sd_outside.specs.declared.packet.Packet.{Packet}
use Rattle.sd_link.specs.World.{Server, flying}
use Rattle.sd_link.specs.Link.{last_tick}
use Rattle.sd_server.specs.declared.ticking.Due.{Due}
use Rattle.sd_server.specs.Ticks.{sent_at, dues}
use Rattle.sd_segment.specs.declared.flown.Flown.{Flown}
use Rattle.sd_segment.specs.Flight.{flying_of, AllFated}
use Rattle.sd_segment.specs.Kept.{turns_kept}
use Rattle.sd_segment.specs.Inside.{view_of}
use Rattle.sd_segment.specs.Segment.{SegmentView, IsSound, Rests}
use Rattle.sd_segment.specs.Passing.{TakesTurns}
use Rattle.sd_segment.proofs.SessionTurns.{few_sent}
use Rattle.sd_segment.proofs.TakingTurns.{turns_next, turns_is, sound_turns, takes_turns, rests_then}
use Rattle.sd_segment.proofs.segment.Segment.take_turns.Goals as goal

pub push_packets-requires : goal.push_packets-requires
push_packets-requires c =
    let s = view_of c.self.inside in
    let turns : c.as_slice-turns.result.now ≡ dues s.config s.tick s.server.sessions = c.as_slice-turns.ensures ∙ c.in_ok-turns.ensures in
    let count = ap (λ (l : List Due). length l) turns in
    let sent = ap (λ (l : List Packet). length l) c.in_ok-packets.ensures.sent in
    omega (arith, c.in_ok-reserve_both.ensures.flight_room, few_sent s.config s.tick s.server.sessions, count, sent)

pub invariant_of-self-2 : goal.invariant_of-self-2
invariant_of-self-2 c =
    let s = view_of c.self.inside in
    let turns : c.as_slice-turns.result.now ≡ dues s.config s.tick s.server.sessions = c.as_slice-turns.ensures ∙ c.in_ok-turns.ensures in
    let served : s.to_server ≡ [] = subst (λ (v : SegmentView). v.to_server ≡ []) (sym c.self.view_is) c.requires.served in
    let flies = c.push_packets.ensures in
    let more = flies.more in
    let here : c.in_ok-first.first ≡ length s.flight = c.in_ok-first.ensures.next ∙ ap (λ (l : List Flown). length l) c.as_slice.ensures.value in
    let sent : map flying_of more ≡ map (flying Server s.tick) (flat_map (sent_at s.config s.tick) s.server.sessions) = flies.sent ∙ ap (λ (l : List Packet). map (flying Server s.tick) l) c.in_ok-packets.ensures.sent in
    let added = flies.added ∙ ap (λ (l : List Flown). l ++ more) c.reserve_both.ensures.flight in
    let kept = c.push_turns.ensures ∙ (λ i. (c.reserve_both.ensures.kept i) ++ turns_kept s.tick (here i) (turns i)) in
    let room : length s.flight + length (dues s.config s.tick s.server.sessions) ≤ last_tick = omega (arith, c.in_ok-first.ensures.room, ap (λ (l : List Flown). length l) c.as_slice.ensures.value, ap (λ (l : List Due). length l) turns) in
    let fated : AllFated s.events.fates (length s.flight) more =
    subst (λ (l : List Flown). AllFated s.events.fates (length l) more) c.reserve_both.ensures.flight flies.fated in
    subst IsSound (sym (turns_is s c.tick.new.self c.push_packets.new.flight.items more c.push_turns.new.kept.items c.in_ok-packets.ensures.next added kept))
    (sound_turns s more c.self.invariant served c.in_ok-packets.ensures.ascending sent room fated)

pub returns-clause-ok : goal.returns-clause-ok
returns-clause-ok c =
    let s = view_of c.self.inside in
    let turns : c.as_slice-turns.result.now ≡ dues s.config s.tick s.server.sessions = c.as_slice-turns.ensures ∙ c.in_ok-turns.ensures in
    let served : s.to_server ≡ [] = subst (λ (v : SegmentView). v.to_server ≡ []) (sym c.self.view_is) c.requires.served in
    let flies = c.push_packets.ensures in
    let more = flies.more in
    let here : c.in_ok-first.first ≡ length s.flight = c.in_ok-first.ensures.next ∙ ap (λ (l : List Flown). length l) c.as_slice.ensures.value in
    let sent : map flying_of more ≡ map (flying Server s.tick) (flat_map (sent_at s.config s.tick) s.server.sessions) = flies.sent ∙ ap (λ (l : List Packet). map (flying Server s.tick) l) c.in_ok-packets.ensures.sent in
    let added = flies.added ∙ ap (λ (l : List Flown). l ++ more) c.reserve_both.ensures.flight in
    let kept = c.push_turns.ensures ∙ (λ i. (c.reserve_both.ensures.kept i) ++ turns_kept s.tick (here i) (turns i)) in
    let after : SegmentView = record s { config = c.tick.new.self.config; server = c.tick.new.self.part; flight = c.push_packets.new.flight.items; kept = c.push_turns.new.kept.items } in
    let is : after ≡ turns_next s more = turns_is s c.tick.new.self c.push_packets.new.flight.items more c.push_turns.new.kept.items c.in_ok-packets.ensures.next added kept in
    subst (λ (v : SegmentView). TakesTurns v after) c.self.view_is
    (subst (λ (v : SegmentView). TakesTurns s v) (sym is)
    (takes_turns s more c.self.invariant served c.in_ok-packets.ensures.ascending sent (subst IsSound is (invariant_of-self-2 c))))

pub returns-clause-rests : goal.returns-clause-rests
returns-clause-rests c =
    let s = view_of c.self.inside in
    let turns : c.as_slice-turns.result.now ≡ dues s.config s.tick s.server.sessions = c.as_slice-turns.ensures ∙ c.in_ok-turns.ensures in
    let served : s.to_server ≡ [] = subst (λ (v : SegmentView). v.to_server ≡ []) (sym c.self.view_is) c.requires.served in
    let flies = c.push_packets.ensures in
    let more = flies.more in
    let here : c.in_ok-first.first ≡ length s.flight = c.in_ok-first.ensures.next ∙ ap (λ (l : List Flown). length l) c.as_slice.ensures.value in
    let sent : map flying_of more ≡ map (flying Server s.tick) (flat_map (sent_at s.config s.tick) s.server.sessions) = flies.sent ∙ ap (λ (l : List Packet). map (flying Server s.tick) l) c.in_ok-packets.ensures.sent in
    let added = flies.added ∙ ap (λ (l : List Flown). l ++ more) c.reserve_both.ensures.flight in
    let kept = c.push_turns.ensures ∙ (λ i. (c.reserve_both.ensures.kept i) ++ turns_kept s.tick (here i) (turns i)) in
    subst Rests (sym (turns_is s c.tick.new.self c.push_packets.new.flight.items more c.push_turns.new.kept.items c.in_ok-packets.ensures.next added kept))
    (rests_then s more c.self.invariant served c.in_ok-packets.ensures.ascending sent)
