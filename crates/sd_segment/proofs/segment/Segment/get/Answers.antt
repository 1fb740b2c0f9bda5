use Rattle.std.proofs.Common.{◌≡◌, ◌<◌, [], ◌∷◌, List, Some, length, ◌∙◌, sym, ap, subst, rules}
use Rattle.std.specs.Prelude.{slice_get}
use Rattle.sd_outside.specs.declared.packet.Packet.{Packet}
use Rattle.sd_link.specs.Steps.{Get, goes_to_client}
use Rattle.sd_segment.specs.declared.flown.Flown.{Flown}
use Rattle.sd_segment.specs.Inside.{view_of}
use Rattle.sd_segment.specs.Segment.{SegmentView, IsSound, Rests}
use Rattle.sd_segment.specs.Passing.{Passes}
use Rattle.sd_segment.proofs.Passing.{got_next, got_is, sound_got, passes_got, passes_at, found_in, coming_to_client, coming_inside}
use Rattle.sd_segment.proofs.segment.Segment.get.Goals as goal

pub bounds-flight-id : goal.bounds-flight-id
bounds-flight-id c =
    let s = view_of c.self.inside in
    let next : slice_get s.to_client 0 ≡ Some c.args.id = subst (λ (v : SegmentView). slice_get v.to_client 0 ≡ Some c.args.id) (sym c.self.view_is) c.requires.next in
    subst (λ (l : List Flown). c.args.id < length l) (sym c.as_slice-flight.ensures.value)
    (coming_inside s (goes_to_client s.config) c.args.id (coming_to_client s c.args.id c.self.invariant next))

pub offset_bounds-flight-id : goal.offset_bounds-flight-id
offset_bounds-flight-id c = let inside = bounds-flight-id c in search rules

pub invariant_of-self-2 : goal.invariant_of-self-2
invariant_of-self-2 c =
    let s = view_of c.self.inside in
    let id = c.args.id in
    let f = c.index-flight-id.result in
    let handed = c.saturating_add-self-inside.result in
    let ready : Rests s = subst Rests (sym c.self.view_is) c.requires.ready in
    let next : slice_get s.to_client 0 ≡ Some id = subst (λ (v : SegmentView). slice_get v.to_client 0 ≡ Some id) (sym c.self.view_is) c.requires.next in
    let at : slice_get s.flight id ≡ Some f = found_in c.as_slice-flight.result.now s.flight id f c.as_slice-flight.ensures.value (coming_inside s (goes_to_client s.config) id (coming_to_client s id c.self.invariant next)) c.index-flight-id.is in
    subst IsSound (sym (got_is s id handed c.push.new.self.items c.take_next.new.self c.in_ok-push.ensures.items c.take_next.ensures))
    (sound_got s id handed f c.self.invariant ready next at)

pub returns-clause-ok : goal.returns-clause-ok
returns-clause-ok c =
    let s = view_of c.self.inside in
    let id = c.args.id in
    let f = c.index-flight-id.result in
    let kept = c.push.new.self.items in
    let handed = c.saturating_add-self-inside.result in
    let next : slice_get s.to_client 0 ≡ Some id = subst (λ (v : SegmentView). slice_get v.to_client 0 ≡ Some id) (sym c.self.view_is) c.requires.next in
    let at : slice_get s.flight id ≡ Some f = found_in c.as_slice-flight.result.now s.flight id f c.as_slice-flight.ensures.value (coming_inside s (goes_to_client s.config) id (coming_to_client s id c.self.invariant next)) c.index-flight-id.is in
    let new : SegmentView = record s { kept = kept; to_client = c.take_next.new.self; handed = handed } in
    let is : c.in_ok-packet.packet ≡ f.packet = c.in_ok-packet.ensures ∙ ap (λ (x : Flown). x.packet) (sym c.index-flight-id.is) in
    subst (λ (p : Packet). Passes c.args.self.now new (Get id p ∷ [])) (sym is)
    (passes_at s c.args.self.now (got_next s id handed) new (Get id f.packet ∷ []) c.self.view_is
    (got_is s id handed kept c.take_next.new.self c.in_ok-push.ensures.items c.take_next.ensures)
    (invariant_of-self-2 c)
    (passes_got s id handed f c.self.invariant at))

pub returns-clause-rests : goal.returns-clause-rests
returns-clause-rests c =
    let ready : Rests (view_of c.self.inside) = subst Rests (sym c.self.view_is) c.requires.ready in
    record { served = ready.served; sessions = ready.sessions }
