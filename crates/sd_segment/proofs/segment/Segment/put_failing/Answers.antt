use Rattle.std.proofs.Common.{◌≡◌, true, ℕ, ◌<◌, [], ◌∷◌, ◌++◌, List, length, ◌∙◌, refl, sym, ap, subst}
use Rattle.sd_config.specs.Events.{fate_in}
use Rattle.sd_config.specs.Plan.{plan_of}
use Rattle.sd_link.specs.Link.{last_tick}
use Rattle.sd_segment.specs.declared.flown.Flown.{Flown}
use Rattle.sd_segment.specs.declared.flown.Kept.{Kept}
use Rattle.sd_segment.specs.declared.flown.What.TheVariants.{Sent, Failed}
use Rattle.sd_segment.specs.Flight.{delays_of}
use Rattle.sd_segment.specs.Inside.{view_of}
use Rattle.sd_segment.specs.Segment.{SegmentView, IsSound, Rests}
use Rattle.sd_segment.specs.Passing.{FailsToSend}
use Rattle.sd_segment.proofs.Passing.{failing_next, failing_is, flown_of, sound_failing, passes_failing, fate_found}
use Rattle.sd_segment.proofs.segment.Segment.put_failing.Goals as goal

pub invariant_of-self-2 : goal.invariant_of-self-2
invariant_of-self-2 c =
    let s = view_of c.self.inside in
    let id = c.in_ok-id.id in
    let fate = c.place_of-fate.result in
    let faults = c.saturating_add-self-inside.result in
    let e = c.reserve_both.ensures in
    let f = flown_of s.tick fate c.args.packet in
    let same : length c.as_slice.result.now ≡ length s.flight = ap (λ (l : List Flown). length l) c.as_slice.ensures.value in
    let here : id ≡ length s.flight = c.in_ok-id.ensures.next ∙ same in
    let room : length s.flight < last_tick = subst (λ (n : ℕ). n < last_tick) same c.in_ok-id.ensures.room in
    let ready : Rests s = subst Rests (sym c.self.view_is) c.requires.ready in
    let named = subst (λ (v : SegmentView). (plan_of v.events).sends (length v.flight) ≡ true) (sym c.self.view_is) c.requires.named in
    let found : delays_of s.events.fates fate ≡ fate_in s.events.fates (length s.flight) =
    fate_found s.events.fates s.events.fates id (length s.flight) fate refl here c.place_of-fate.ensures in
    let flight = c.push_failed_send.ensures.flight ∙ ap (λ (l : List Flown). l ++ f ∷ []) e.flight in
    let kept = c.push_failed_send.ensures.kept ∙ ap (λ (l : List Kept). (l ++ record { tick = s.tick; what = Sent id } ∷ []) ++ record { tick = s.tick; what = Failed } ∷ []) e.kept in
    subst IsSound (sym (failing_is s c.args.packet fate faults c.push_failed_send.new.flight.items c.push_failed_send.new.kept.items id flight kept here))
    (subst (λ (n : ℕ). IsSound (failing_next s c.args.packet fate n)) (sym c.saturating_add-self-inside.ensures) (sound_failing s c.args.packet fate c.self.invariant ready room found named))

pub returns-clause-ok : goal.returns-clause-ok
returns-clause-ok c =
    let s = view_of c.self.inside in
    let id = c.in_ok-id.id in
    let fate = c.place_of-fate.result in
    let faults = c.saturating_add-self-inside.result in
    let e = c.reserve_both.ensures in
    let f = flown_of s.tick fate c.args.packet in
    let here : id ≡ length s.flight = c.in_ok-id.ensures.next ∙ ap (λ (l : List Flown). length l) c.as_slice.ensures.value in
    let flight = c.push_failed_send.ensures.flight ∙ ap (λ (l : List Flown). l ++ f ∷ []) e.flight in
    let kept = c.push_failed_send.ensures.kept ∙ ap (λ (l : List Kept). (l ++ record { tick = s.tick; what = Sent id } ∷ []) ++ record { tick = s.tick; what = Failed } ∷ []) e.kept in
    let is = failing_is s c.args.packet fate faults c.push_failed_send.new.flight.items c.push_failed_send.new.kept.items id flight kept here in
    let new : SegmentView = record s { flight = c.push_failed_send.new.flight.items; kept = c.push_failed_send.new.kept.items; faults = faults } in
    let j : IsSound (failing_next s c.args.packet fate faults) = subst IsSound is (invariant_of-self-2 c) in
    subst (λ (v : SegmentView). FailsToSend v new c.args.packet) c.self.view_is
    (subst (λ (v : SegmentView). FailsToSend s v c.args.packet) (sym is) (passes_failing s c.args.packet fate faults c.self.invariant j))
