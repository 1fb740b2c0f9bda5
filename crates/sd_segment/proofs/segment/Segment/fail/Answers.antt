use Rattle.std.proofs.Common.{◌≡◌, ℕ, sym, subst}
use Rattle.sd_link.specs.Link.{last_tick}
use Rattle.sd_segment.specs.Inside.{view_of}
use Rattle.sd_segment.specs.Segment.{SegmentView, IsSound, Rests}
use Rattle.sd_segment.specs.Passing.{Fails}
use Rattle.sd_segment.proofs.Passing.{failed_next, failed_is, sound_late, passes_failed}
use Rattle.sd_segment.proofs.segment.Segment.fail.Goals as goal

pub invariant_of-self-2 : goal.invariant_of-self-2
invariant_of-self-2 c =
    let s = view_of c.self.inside in
    let faults = c.saturating_add-self-inside.result in
    let ready : Rests s = subst Rests (sym c.self.view_is) c.requires.ready in
    let late : s.tick ≡ last_tick = subst (λ (v : SegmentView). v.tick ≡ last_tick) (sym c.self.view_is) c.requires.late in
    subst IsSound (sym (failed_is s s.calls faults c.push.new.self.items c.in_ok-push.ensures.items)) (subst (λ (n : ℕ). IsSound (failed_next s s.calls n)) (sym c.saturating_add-self-inside.ensures) (sound_late s c.self.invariant ready late))

pub returns-clause-ok : goal.returns-clause-ok
returns-clause-ok c =
    let s = view_of c.self.inside in
    let faults = c.saturating_add-self-inside.result in
    let is = failed_is s s.calls faults c.push.new.self.items c.in_ok-push.ensures.items in
    let j : IsSound (failed_next s s.calls faults) = subst IsSound is (invariant_of-self-2 c) in
    subst (λ (v : SegmentView). Fails v (record s { kept = c.push.new.self.items; faults = faults })) c.self.view_is
    (subst (λ (v : SegmentView). Fails s v) (sym is) (passes_failed s s.calls faults c.self.invariant j))
