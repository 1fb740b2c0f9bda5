use Rattle.std.proofs.Common.{◌≡◌, ◌+◌, ℕ, List, [], ◌∷◌, length, get_or, false, refl, sym, ◌∙◌, ap, subst, arith, length-append}
use Rattle.sd_outside.specs.Ranges.{Torn}
use Rattle.sd_outside.specs.Disk.{Elapses}
use Rattle.sd_outside.specs.Moments.{State, Change, MayLeave, MightHaveLeft, after, replay}
use Rattle.sd_outside.specs.Moments.Change.{Write}
use Rattle.sd_outside.specs.Kept.{AllFit}
use Rattle.sd_outside.proofs.RangeLaws.{put_torn}
use Rattle.sd_outside.proofs.ChangeLaws.{Refused, not_refused, answers_change, long_write}
use Rattle.sd_outside.proofs.HistoryLaws.{after_size, fit_more, bytes_more, unsynced_more, elapses, torn_by_write}
use Rattle.sd_outside.proofs.mem_disk.MemDiskDisk.write.Goals as goal

pub returns-clause-plan : goal.returns-clause-plan
returns-clause-plan c =
    let self = c.args.self.now in
    let kept = length self.history.changes in
    answers_change self.changes c.refuses.new.changes self.reads self.stop c.refuses.new.stop kept kept (length c.args.bytes.now) _ _ c.refuses.ensures.changes c.refuses.ensures.stop (omega arith) (omega arith) (long_write (length c.args.bytes.now)) (λ why. refl)
    (λ fails. subst (λ (n : ℕ). Refused c.refuses.new.changes self.changes self.stop n (length c.args.bytes.now)) c.kept-kept.ensures.kept c.if-not-refuses.ensures.yes)

pub returns-then-not-refuses-clause-plan : goal.returns-then-not-refuses-clause-plan
returns-then-not-refuses-clause-plan c =
    let self = c.args.self.now in
    let more : length c.add_write.new.self.changes ≡ length self.history.changes + 1 = ap length c.add_write.ensures.changes ∙ length-append self.history.changes (Write c.args.at c.args.bytes.now ∷ []) in
    answers_change self.changes c.refuses.new.changes self.reads self.stop c.refuses.new.stop (length self.history.changes) (length c.add_write.new.self.changes) (length c.args.bytes.now) _ _ c.refuses.ensures.changes c.refuses.ensures.stop (omega (arith, more)) (omega (arith, more)) (long_write (length c.args.bytes.now))
    (not_refused c.refuses.new.changes self.changes self.stop (length self.history.changes) _ (length c.args.bytes.now) c.kept-kept.ensures.kept c.if-not-refuses.ensures.no) (λ fails. absurd (cc fails))

pub invariant_of-self-clause-bytes_replayed : goal.invariant_of-self-clause-bytes_replayed
invariant_of-self-clause-bytes_replayed c =
    let self = c.args.self.now in
    (λ i. (replay (c.add_write.ensures.changes i) (c.add_write.ensures.named i)).bytes)
    ∙ bytes_more self.history.named self.history.changes (Write c.args.at c.args.bytes.now) self.surface.state self.bytes_replayed self.unsynced_replayed
    ∙ sym (ap (λ (s : State). s.bytes) c.write.ensures.state)

pub invariant_of-self-clause-unsynced_replayed : goal.invariant_of-self-clause-unsynced_replayed
invariant_of-self-clause-unsynced_replayed c =
    let self = c.args.self.now in
    (λ i. (replay (c.add_write.ensures.changes i) (c.add_write.ensures.named i)).unsynced)
    ∙ unsynced_more self.history.named self.history.changes (Write c.args.at c.args.bytes.now) self.surface.state self.bytes_replayed self.unsynced_replayed
    ∙ sym (ap (λ (s : State). s.unsynced) c.write.ensures.state)

pub invariant_of-self-clause-fit : goal.invariant_of-self-clause-fit
invariant_of-self-clause-fit c =
    let self = c.args.self.now in
    let size : length c.write.new.self.state.bytes ≡ length self.surface.state.bytes = ap (λ (s : State). length s.bytes) c.write.ensures.state ∙ (after_size (Write c.args.at c.args.bytes.now) self.surface.state (length self.surface.state.bytes) (c.requires) (λ i. length self.surface.state.bytes) self.unsynced_size).0 in
    subst (λ (n : ℕ). AllFit n c.add_write.new.self.changes) (sym size) (subst (λ (l : List Change). AllFit (length self.surface.state.bytes) l) (sym c.add_write.ensures.changes) (fit_more (length self.surface.state.bytes) self.history.changes (Write c.args.at c.args.bytes.now) self.fit (c.requires)))

pub invariant_of-self-clause-few : goal.invariant_of-self-clause-few
invariant_of-self-clause-few c =
    omega (arith, ap length c.add_write.ensures.changes, length-append c.args.self.now.history.changes (Write c.args.at c.args.bytes.now ∷ []), c.if-not-refuses.ensures.no.1, c.kept-kept.ensures.kept)

pub invariant_of-self-clause-covered : goal.invariant_of-self-clause-covered
invariant_of-self-clause-covered c place outside = ap (λ (s : State). get_or s.unsynced place false) c.add_write.ensures.named ∙ c.args.self.now.covered place outside

pub returns-then-not-refuses-clause-time : goal.returns-then-not-refuses-clause-time
returns-then-not-refuses-clause-time c =
    let self = c.args.self.now in
    let goes = elapses self.history.named self.history.changes (Write c.args.at c.args.bytes.now) self.surface.state self.bytes_replayed self.unsynced_replayed in
    subst (λ (s : State). Elapses (length self.history.changes) (length c.add_write.new.self.changes) (MightHaveLeft self.history.named self.history.changes) (MightHaveLeft c.add_write.new.self.named c.add_write.new.self.changes) (MayLeave s)) (sym c.write.ensures.state)
    (subst (λ (s : State). Elapses (length self.history.changes) (length c.add_write.new.self.changes) (MightHaveLeft self.history.named self.history.changes) (MightHaveLeft s c.add_write.new.self.changes) (MayLeave (after (Write c.args.at c.args.bytes.now) self.surface.state))) (sym c.add_write.ensures.named)
    (subst (λ (l : List Change). Elapses (length self.history.changes) (length l) (MightHaveLeft self.history.named self.history.changes) (MightHaveLeft self.history.named l) (MayLeave (after (Write c.args.at c.args.bytes.now) self.surface.state))) (sym c.add_write.ensures.changes) goes))

pub invariant_of-self-clause-synced_size : goal.invariant_of-self-clause-synced_size
invariant_of-self-clause-synced_size c =
    let self = c.args.self.now in
    let sizes = after_size (Write c.args.at c.args.bytes.now) self.surface.state (length self.surface.state.bytes) (c.requires) (λ i. length self.surface.state.bytes) self.unsynced_size in
    let size : length c.write.new.self.state.bytes ≡ length self.surface.state.bytes = ap (λ (s : State). length s.bytes) c.write.ensures.state ∙ sizes.0 in
    ap length c.write.ensures.synced ∙ self.synced_size ∙ sym size

pub invariant_of-self-clause-unsynced_size : goal.invariant_of-self-clause-unsynced_size
invariant_of-self-clause-unsynced_size c =
    let self = c.args.self.now in
    let sizes = after_size (Write c.args.at c.args.bytes.now) self.surface.state (length self.surface.state.bytes) (c.requires) (λ i. length self.surface.state.bytes) self.unsynced_size in
    let size : length c.write.new.self.state.bytes ≡ length self.surface.state.bytes = ap (λ (s : State). length s.bytes) c.write.ensures.state ∙ sizes.0 in
    ap (λ (s : State). length s.unsynced) c.write.ensures.state ∙ sizes.1 ∙ sym size

pub invariant_of-self-clause-named_size : goal.invariant_of-self-clause-named_size
invariant_of-self-clause-named_size c =
    let self = c.args.self.now in
    let sizes = after_size (Write c.args.at c.args.bytes.now) self.surface.state (length self.surface.state.bytes) (c.requires) (λ i. length self.surface.state.bytes) self.unsynced_size in
    let size : length c.write.new.self.state.bytes ≡ length self.surface.state.bytes = ap (λ (s : State). length s.bytes) c.write.ensures.state ∙ sizes.0 in
    ap (λ (s : State). length s.bytes) c.add_write.ensures.named ∙ self.named_size ∙ sym size

pub invariant_of-self-clause-named_unsynced_size : goal.invariant_of-self-clause-named_unsynced_size
invariant_of-self-clause-named_unsynced_size c =
    let self = c.args.self.now in
    let sizes = after_size (Write c.args.at c.args.bytes.now) self.surface.state (length self.surface.state.bytes) (c.requires) (λ i. length self.surface.state.bytes) self.unsynced_size in
    let size : length c.write.new.self.state.bytes ≡ length self.surface.state.bytes = ap (λ (s : State). length s.bytes) c.write.ensures.state ∙ sizes.0 in
    ap (λ (s : State). length s.unsynced) c.add_write.ensures.named ∙ self.named_unsynced_size ∙ sym size

pub invariant_of-self-clause-inside : goal.invariant_of-self-clause-inside
invariant_of-self-clause-inside c =
    let self = c.args.self.now in
    let sizes = after_size (Write c.args.at c.args.bytes.now) self.surface.state (length self.surface.state.bytes) (c.requires) (λ i. length self.surface.state.bytes) self.unsynced_size in
    let size : length c.write.new.self.state.bytes ≡ length self.surface.state.bytes = ap (λ (s : State). length s.bytes) c.write.ensures.state ∙ sizes.0 in
    omega (arith, self.inside, size)

pub returns-then-not-refuses-clause-seen : goal.returns-then-not-refuses-clause-seen
returns-then-not-refuses-clause-seen c =
    let old = c.args.self.now.surface.state.bytes in
    subst (λ (new : List ℕ). Torn c.args.at (length c.args.bytes.now) old new) (sym (ap (λ (s : State). s.bytes) c.write.ensures.state)) (put_torn c.args.at c.args.bytes.now old c.requires)

pub returns-then-not-refuses-clause-crash : goal.returns-then-not-refuses-clause-crash
returns-then-not-refuses-clause-crash c image left =
    let self = c.args.self.now in
    torn_by_write c.args.at c.args.bytes.now self.surface.state image c.requires self.unsynced_size (subst (λ (s : State). MayLeave s image) c.write.ensures.state left)
