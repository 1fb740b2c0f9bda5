use Rattle.std.proofs.Common.{◌≡◌, ℕ, ◌+◌, ◌-◌, ◌^◌, true, sym, subst}
use Rattle.std.specs.Prelude.{min}
use Rattle.std.specs.List.{list_any}
use Rattle.sd_segment.specs.Inside.{view_of}
use Rattle.sd_segment.specs.Failing.{names_call}
use Rattle.sd_segment.specs.Segment.{SegmentView, IsSound, Rests}
use Rattle.sd_segment.specs.Passing.{Fails}
use Rattle.sd_segment.proofs.Passing.{failed_next, failed_is, sound_named, passes_failed}
use Rattle.sd_segment.proofs.segment.Segment.fail_call.Goals as goal

pub invariant_of-self-2 : goal.invariant_of-self-2
invariant_of-self-2 c =
    let s = view_of c.self.inside in
    let ready : Rests s = subst Rests (sym c.self.view_is) c.requires.ready in
    let named = subst (λ (v : SegmentView). list_any (names_call v.calls) v.events.faults ≡ true) (sym c.self.view_is) c.requires.named in
    subst IsSound (sym (failed_is s c.saturating_add-self-inside-2.result c.saturating_add-self-inside.result c.push.new.self.items c.in_ok-push.ensures.items))
    (subst (λ (n : ℕ). IsSound (failed_next s c.saturating_add-self-inside-2.result n)) (sym c.saturating_add-self-inside.ensures)
    (subst (λ (n : ℕ). IsSound (failed_next s n (min (s.faults + 1) (2 ^ 64 - 1)))) (sym c.saturating_add-self-inside-2.ensures) (sound_named s c.self.invariant ready named)))

pub returns-clause-ok : goal.returns-clause-ok
returns-clause-ok c =
    let s = view_of c.self.inside in
    let faults = c.saturating_add-self-inside.result in
    let calls = c.saturating_add-self-inside-2.result in
    let is = failed_is s calls faults c.push.new.self.items c.in_ok-push.ensures.items in
    let j : IsSound (failed_next s calls faults) = subst IsSound is (invariant_of-self-2 c) in
    subst (λ (v : SegmentView). Fails v (record s { kept = c.push.new.self.items; faults = faults; calls = calls })) c.self.view_is
    (subst (λ (v : SegmentView). Fails s v) (sym is) (passes_failed s calls faults c.self.invariant j))
