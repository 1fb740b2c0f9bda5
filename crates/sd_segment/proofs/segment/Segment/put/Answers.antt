use Rattle.std.proofs.Common.{◌≡◌, false, ℕ, ◌<◌, [], ◌∷◌, List, length, ◌∙◌, refl, sym, ap, subst}
use Rattle.sd_config.specs.Events.{fate_in}
use Rattle.sd_config.specs.Plan.{plan_of}
use Rattle.sd_link.specs.Link.{last_tick}
use Rattle.sd_link.specs.Steps.{Send}
use Rattle.sd_segment.specs.declared.flown.Flown.{Flown}
use Rattle.sd_segment.specs.Flight.{delays_of}
use Rattle.sd_segment.specs.Inside.{view_of}
use Rattle.sd_segment.specs.Segment.{SegmentView, IsSound, Rests}
use Rattle.sd_segment.proofs.Passing.{sent_next, sent_is, sound_sent, passes_sent, passes_at, fate_found}
use Rattle.sd_segment.proofs.segment.Segment.put.Goals as goal

pub invariant_of-self-2 : goal.invariant_of-self-2
invariant_of-self-2 c =
    let s = view_of c.self.inside in
    let id = c.in_ok-id.id in
    let fate = c.place_of-fate.result in
    let same : length c.as_slice.result.now ≡ length s.flight = ap (λ (l : List Flown). length l) c.as_slice.ensures.value in
    let here : id ≡ length s.flight = c.in_ok-id.ensures.next ∙ same in
    let room : length s.flight < last_tick = subst (λ (n : ℕ). n < last_tick) same c.in_ok-id.ensures.room in
    let ready : Rests s = subst Rests (sym c.self.view_is) c.requires.ready in
    let found : delays_of s.events.fates fate ≡ fate_in s.events.fates (length s.flight) =
    fate_found s.events.fates s.events.fates id (length s.flight) fate refl here c.place_of-fate.ensures in
    let calm : (plan_of s.events).sends (length s.flight) ≡ false = subst (λ (v : SegmentView). (plan_of v.events).sends (length v.flight) ≡ false) (sym c.self.view_is) c.requires.calm in
    subst IsSound (sym (sent_is s c.args.packet fate c.push_both.new.flight.items c.push_both.new.kept.items id c.in_ok-push_both.ensures.flight c.in_ok-push_both.ensures.kept here))
    (sound_sent s c.args.packet fate c.self.invariant ready room found calm)

pub returns-clause-ok : goal.returns-clause-ok
returns-clause-ok c =
    let s = view_of c.self.inside in
    let id = c.in_ok-id.id in
    let fate = c.place_of-fate.result in
    let flight = c.push_both.new.flight.items in
    let kept = c.push_both.new.kept.items in
    let here : id ≡ length s.flight = c.in_ok-id.ensures.next ∙ ap (λ (l : List Flown). length l) c.as_slice.ensures.value in
    let new : SegmentView = record s { flight = flight; kept = kept } in
    passes_at s c.args.self.now (sent_next s c.args.packet fate) new (Send c.args.packet ∷ []) c.self.view_is
    (sent_is s c.args.packet fate flight kept id c.in_ok-push_both.ensures.flight c.in_ok-push_both.ensures.kept here)
    (invariant_of-self-2 c)
    (passes_sent s c.args.packet fate c.self.invariant)
