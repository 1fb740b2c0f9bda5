use Rattle.std.proofs.Common.{◌≡◌, ℕ, ◌<◌, [], ◌∷◌, ◌++◌, List, Some, length, ◌∙◌, refl, sym, ap, subst, rules}
use Rattle.std.specs.Prelude.{slice_get}
use Rattle.sd_config.specs.Events.{fate_in}
use Rattle.sd_link.specs.Link.{last_tick}
use Rattle.sd_services.specs.Reply.{out_of, next_of}
use Rattle.sd_link.specs.Steps.{Serve, goes_to_server}
use Rattle.sd_segment.specs.declared.flown.Flown.{Flown}
use Rattle.sd_segment.specs.declared.flown.Kept.{Kept}
use Rattle.sd_segment.specs.declared.flown.What.TheVariants.{Served}
use Rattle.sd_segment.specs.Calm.{CalmView}
use Rattle.sd_segment.specs.Flight.{delays_of, replied}
use Rattle.sd_segment.specs.Inside.{view_of}
use Rattle.sd_segment.specs.Segment.{SegmentView, IsSound}
use Rattle.sd_segment.proofs.Passing.{served_next, served_is, sound_served, passes_served, passes_at, refused_is, fate_found, found_in, coming_to_server, coming_inside}
use Rattle.sd_segment.proofs.segment.Segment.serve.Goals as goal

pub bounds-flight-id : goal.bounds-flight-id
bounds-flight-id c =
    let s = view_of c.self.inside in
    let next : slice_get s.to_server 0 ≡ Some c.args.id = subst (λ (v : SegmentView). slice_get v.to_server 0 ≡ Some c.args.id) (sym c.self.view_is) c.requires.next in
    subst (λ (l : List Flown). c.args.id < length l) (sym (c.as_slice-flight.ensures.value ∙ c.reserve_both.ensures.flight))
    (coming_inside s (goes_to_server s.config) c.args.id (coming_to_server s c.args.id c.self.invariant next))

pub offset_bounds-flight-id : goal.offset_bounds-flight-id
offset_bounds-flight-id c = let inside = bounds-flight-id c in search rules

pub invariant_of-self-in_err-packets : goal.invariant_of-self-in_err-packets
invariant_of-self-in_err-packets c =
    let s = view_of c.self.inside in
    let e = c.reserve_both.ensures in
    subst IsSound (sym (refused_is s c.serve.new.self c.reserve_both.new.flight.items c.reserve_both.new.kept.items c.in_err-packets.ensures.err e.flight e.kept)) c.self.invariant

pub invariant_of-self-2 : goal.invariant_of-self-2
invariant_of-self-2 c =
    let s = view_of c.self.inside in
    let id = c.args.id in
    let first = c.in_ok-first.first in
    let fate = c.place_of-fate.result in
    let f = c.index-flight-id.result in
    let packets = c.in_ok-packets.packets in
    let new = c.push_served.new in
    let e = c.in_ok-packets.ensures in
    let part = next_of s.config s.tick s.server f.packet in
    let same : length c.as_slice.result.now ≡ length s.flight = ap (λ (l : List Flown). length l) c.as_slice.ensures.value in
    let here : first ≡ length s.flight = c.in_ok-first.ensures.next ∙ same in
    let room : length s.flight < last_tick = subst (λ (n : ℕ). n < last_tick) same c.in_ok-first.ensures.room in
    let next : slice_get s.to_server 0 ≡ Some id = subst (λ (v : SegmentView). slice_get v.to_server 0 ≡ Some id) (sym c.self.view_is) c.requires.next in
    let at : slice_get s.flight id ≡ Some f = found_in c.as_slice-flight.result.now s.flight id f (c.as_slice-flight.ensures.value ∙ c.reserve_both.ensures.flight) (coming_inside s (goes_to_server s.config) id (coming_to_server s id c.self.invariant next)) c.index-flight-id.is in
    let found : delays_of s.events.fates fate ≡ fate_in s.events.fates (length s.flight) =
    fate_found s.events.fates s.events.fates first (length s.flight) fate refl here c.place_of-fate.ensures in
    let out : packets ≡ out_of s.config s.tick s.server f.packet = subst (λ (x : Flown). packets ≡ out_of s.config s.tick s.server x.packet) (sym c.index-flight-id.is) e.out in
    let server : CalmView = record { config = s.config; part = part } in
    let becomes : c.serve.new.self ≡ server = subst (λ (x : Flown). c.serve.new.self ≡ record { config = s.config; part = next_of s.config s.tick s.server x.packet }) (sym c.index-flight-id.is) e.next in
    let flight = c.push_served.ensures.flight ∙ ap (λ (l : List Flown). l ++ replied s.tick fate packets) c.reserve_both.ensures.flight in
    let kept = c.push_served.ensures.kept ∙ ap (λ (l : List Kept). l ++ record { tick = s.tick; what = Served id first (length packets) } ∷ []) c.reserve_both.ensures.kept in
    subst IsSound (sym (served_is s id fate packets c.serve.new.self part new.flight.items new.kept.items c.take_next.new.self first becomes flight kept here c.take_next.ensures))
    (sound_served s id f fate packets part c.self.invariant next at out (λ i. part) e.few room found)

pub returns-clause-ok : goal.returns-clause-ok
returns-clause-ok c =
    let s = view_of c.self.inside in
    let id = c.args.id in
    let first = c.in_ok-first.first in
    let fate = c.place_of-fate.result in
    let f = c.index-flight-id.result in
    let packets = c.in_ok-packets.packets in
    let new = c.push_served.new in
    let e = c.in_ok-packets.ensures in
    let part = next_of s.config s.tick s.server f.packet in
    let here : first ≡ length s.flight = c.in_ok-first.ensures.next ∙ ap (λ (l : List Flown). length l) c.as_slice.ensures.value in
    let becomes : c.serve.new.self ≡ record { config = s.config; part = part } = subst (λ (x : Flown). c.serve.new.self ≡ record { config = s.config; part = next_of s.config s.tick s.server x.packet }) (sym c.index-flight-id.is) e.next in
    let flight = c.push_served.ensures.flight ∙ ap (λ (l : List Flown). l ++ replied s.tick fate packets) c.reserve_both.ensures.flight in
    let kept = c.push_served.ensures.kept ∙ ap (λ (l : List Kept). l ++ record { tick = s.tick; what = Served id first (length packets) } ∷ []) c.reserve_both.ensures.kept in
    let after : SegmentView = record s { config = c.serve.new.self.config; server = c.serve.new.self.part; flight = new.flight.items; kept = new.kept.items; to_server = c.take_next.new.self } in
    passes_at s c.args.self.now (served_next s id fate packets part) after (Serve id ∷ []) c.self.view_is
    (served_is s id fate packets c.serve.new.self part new.flight.items new.kept.items c.take_next.new.self first becomes flight kept here c.take_next.ensures)
    (invariant_of-self-2 c)
    (passes_served s id fate packets part c.self.invariant)
