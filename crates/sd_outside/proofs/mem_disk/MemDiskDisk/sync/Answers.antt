use Rattle.std.proofs.Common.{◌≡◌, ◌+◌, ℕ, List, [], ◌∷◌, length, get_or, false, refl, sym, ◌∙◌, ap, subst, arith, length-append}
use Rattle.sd_outside.specs.Disk.{Elapses}
use Rattle.sd_outside.specs.Moments.{State, Change, MayLeave, MightHaveLeft, after, replay}
use Rattle.sd_outside.specs.Moments.Change.{Sync}
use Rattle.sd_outside.specs.Kept.{AllFit}
use Rattle.sd_outside.proofs.ChangeLaws.{Refused, not_refused, answers_change, long_sync}
use Rattle.sd_outside.proofs.HistoryLaws.{after_size, fit_more, bytes_more, unsynced_more, elapses, only_seen}
use Rattle.sd_outside.proofs.mem_disk.MemDiskDisk.sync.Goals as goal

pub returns-then-refuses-clause-plan : goal.returns-then-refuses-clause-plan
returns-then-refuses-clause-plan c =
    let self = c.args.self.now in
    let kept = length self.history.changes in
    answers_change self.changes c.refuses.new.changes self.reads self.stop c.refuses.new.stop kept kept 0 _ _ c.refuses.ensures.changes c.refuses.ensures.stop (omega arith) (omega arith) long_sync (λ why. refl)
    (λ fails. subst (λ (n : ℕ). Refused c.refuses.new.changes self.changes self.stop n 0) c.kept.ensures.kept c.if-refuses.ensures.yes)

pub returns-clause-plan : goal.returns-clause-plan
returns-clause-plan c =
    let self = c.args.self.now in
    let more : length c.add_sync.new.self.changes ≡ length self.history.changes + 1 = ap length c.add_sync.ensures.changes ∙ length-append self.history.changes (Sync ∷ []) in
    answers_change self.changes c.refuses.new.changes self.reads self.stop c.refuses.new.stop (length self.history.changes) (length c.add_sync.new.self.changes) 0 _ _ c.refuses.ensures.changes c.refuses.ensures.stop (omega (arith, more)) (omega (arith, more)) long_sync
    (not_refused c.refuses.new.changes self.changes self.stop (length self.history.changes) _ 0 c.kept.ensures.kept c.if-refuses.ensures.no) (λ fails. absurd (cc fails))

pub invariant_of-self-2-clause-bytes_replayed : goal.invariant_of-self-2-clause-bytes_replayed
invariant_of-self-2-clause-bytes_replayed c =
    let self = c.args.self.now in
    (λ i. (replay (c.add_sync.ensures.changes i) (c.add_sync.ensures.named i)).bytes)
    ∙ bytes_more self.history.named self.history.changes (Sync) self.surface.state self.bytes_replayed self.unsynced_replayed
    ∙ sym (ap (λ (s : State). s.bytes) c.sync.ensures.state)

pub invariant_of-self-2-clause-unsynced_replayed : goal.invariant_of-self-2-clause-unsynced_replayed
invariant_of-self-2-clause-unsynced_replayed c =
    let self = c.args.self.now in
    (λ i. (replay (c.add_sync.ensures.changes i) (c.add_sync.ensures.named i)).unsynced)
    ∙ unsynced_more self.history.named self.history.changes (Sync) self.surface.state self.bytes_replayed self.unsynced_replayed
    ∙ sym (ap (λ (s : State). s.unsynced) c.sync.ensures.state)

pub invariant_of-self-2-clause-fit : goal.invariant_of-self-2-clause-fit
invariant_of-self-2-clause-fit c =
    let self = c.args.self.now in
    let size : length c.sync.new.self.state.bytes ≡ length self.surface.state.bytes = ap (λ (s : State). length s.bytes) c.sync.ensures.state ∙ (after_size (Sync) self.surface.state (length self.surface.state.bytes) (omega arith) (λ i. length self.surface.state.bytes) self.unsynced_size).0 in
    subst (λ (n : ℕ). AllFit n c.add_sync.new.self.changes) (sym size) (subst (λ (l : List Change). AllFit (length self.surface.state.bytes) l) (sym c.add_sync.ensures.changes) (fit_more (length self.surface.state.bytes) self.history.changes (Sync) self.fit (omega arith)))

pub invariant_of-self-2-clause-few : goal.invariant_of-self-2-clause-few
invariant_of-self-2-clause-few c =
    omega (arith, ap length c.add_sync.ensures.changes, length-append c.args.self.now.history.changes (Sync ∷ []), c.if-refuses.ensures.no.1, c.kept.ensures.kept)

pub invariant_of-self-2-clause-covered : goal.invariant_of-self-2-clause-covered
invariant_of-self-2-clause-covered c place outside = ap (λ (s : State). get_or s.unsynced place false) c.add_sync.ensures.named ∙ c.args.self.now.covered place outside

pub returns-clause-time : goal.returns-clause-time
returns-clause-time c =
    let self = c.args.self.now in
    let goes = elapses self.history.named self.history.changes (Sync) self.surface.state self.bytes_replayed self.unsynced_replayed in
    subst (λ (s : State). Elapses (length self.history.changes) (length c.add_sync.new.self.changes) (MightHaveLeft self.history.named self.history.changes) (MightHaveLeft c.add_sync.new.self.named c.add_sync.new.self.changes) (MayLeave s)) (sym c.sync.ensures.state)
    (subst (λ (s : State). Elapses (length self.history.changes) (length c.add_sync.new.self.changes) (MightHaveLeft self.history.named self.history.changes) (MightHaveLeft s c.add_sync.new.self.changes) (MayLeave (after (Sync) self.surface.state))) (sym c.add_sync.ensures.named)
    (subst (λ (l : List Change). Elapses (length self.history.changes) (length l) (MightHaveLeft self.history.named self.history.changes) (MightHaveLeft self.history.named l) (MayLeave (after (Sync) self.surface.state))) (sym c.add_sync.ensures.changes) goes))

pub invariant_of-self-2-clause-synced_size : goal.invariant_of-self-2-clause-synced_size
invariant_of-self-2-clause-synced_size c =
    let self = c.args.self.now in
    let sizes = after_size (Sync) self.surface.state (length self.surface.state.bytes) (omega arith) (λ i. length self.surface.state.bytes) self.unsynced_size in
    let size : length c.sync.new.self.state.bytes ≡ length self.surface.state.bytes = ap (λ (s : State). length s.bytes) c.sync.ensures.state ∙ sizes.0 in
    ap length c.sync.ensures.synced ∙ sym size

pub invariant_of-self-2-clause-unsynced_size : goal.invariant_of-self-2-clause-unsynced_size
invariant_of-self-2-clause-unsynced_size c =
    let self = c.args.self.now in
    let sizes = after_size (Sync) self.surface.state (length self.surface.state.bytes) (omega arith) (λ i. length self.surface.state.bytes) self.unsynced_size in
    let size : length c.sync.new.self.state.bytes ≡ length self.surface.state.bytes = ap (λ (s : State). length s.bytes) c.sync.ensures.state ∙ sizes.0 in
    ap (λ (s : State). length s.unsynced) c.sync.ensures.state ∙ sizes.1 ∙ sym size

pub invariant_of-self-2-clause-named_size : goal.invariant_of-self-2-clause-named_size
invariant_of-self-2-clause-named_size c =
    let self = c.args.self.now in
    let sizes = after_size (Sync) self.surface.state (length self.surface.state.bytes) (omega arith) (λ i. length self.surface.state.bytes) self.unsynced_size in
    let size : length c.sync.new.self.state.bytes ≡ length self.surface.state.bytes = ap (λ (s : State). length s.bytes) c.sync.ensures.state ∙ sizes.0 in
    ap (λ (s : State). length s.bytes) c.add_sync.ensures.named ∙ self.named_size ∙ sym size

pub invariant_of-self-2-clause-named_unsynced_size : goal.invariant_of-self-2-clause-named_unsynced_size
invariant_of-self-2-clause-named_unsynced_size c =
    let self = c.args.self.now in
    let sizes = after_size (Sync) self.surface.state (length self.surface.state.bytes) (omega arith) (λ i. length self.surface.state.bytes) self.unsynced_size in
    let size : length c.sync.new.self.state.bytes ≡ length self.surface.state.bytes = ap (λ (s : State). length s.bytes) c.sync.ensures.state ∙ sizes.0 in
    ap (λ (s : State). length s.unsynced) c.add_sync.ensures.named ∙ self.named_unsynced_size ∙ sym size

pub invariant_of-self-2-clause-inside : goal.invariant_of-self-2-clause-inside
invariant_of-self-2-clause-inside c =
    let self = c.args.self.now in
    let sizes = after_size (Sync) self.surface.state (length self.surface.state.bytes) (omega arith) (λ i. length self.surface.state.bytes) self.unsynced_size in
    let size : length c.sync.new.self.state.bytes ≡ length self.surface.state.bytes = ap (λ (s : State). length s.bytes) c.sync.ensures.state ∙ sizes.0 in
    omega (arith, self.inside, size)

pub returns-clause-durable : goal.returns-clause-durable
returns-clause-durable c =
    only_seen c.sync.new.self.state c.args.self.now.surface.state.bytes _ (ap (λ (s : State). s.bytes) c.sync.ensures.state) (ap (λ (s : State). s.unsynced) c.sync.ensures.state)
