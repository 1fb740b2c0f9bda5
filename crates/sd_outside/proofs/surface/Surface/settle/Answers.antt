use Rattle.std.proofs.Common.{◌≡◌, List, ℕ, sym, ◌∙◌, subst}
use Rattle.sd_outside.specs.Moments.{State, MayLeave, picked}
use Rattle.sd_outside.specs.MomentLaws.{picked_may_happen}
use Rattle.sd_outside.specs.Kept.{IsSurface, SurfaceView}
use Rattle.sd_outside.proofs.SurfaceLaws.{surface_settled}
use Rattle.sd_outside.proofs.surface.Surface.settle.Goals as goal

pub invariant_of-self : goal.invariant_of-self
invariant_of-self c =
    let inside = c.self.inside in
    let settled : c.settle_span.new.bytes.items ≡ picked c.args.outcome 0 inside.synced.items inside.bytes.items inside.unsynced.items = c.settle_span.ensures ∙ (λ i. picked c.args.outcome 0 (c.deref.ensures.value i) inside.bytes.items (c.deref-2.ensures.value i)) in
    subst (λ (l : List ℕ). IsSurface l inside.synced.items inside.unsynced.items inside.dirty) (sym settled) (surface_settled inside.bytes.items inside.synced.items inside.unsynced.items inside.dirty c.self.invariant c.args.outcome)

pub returns-clause-may_be : goal.returns-clause-may_be
returns-clause-may_be c =
    let inside = c.self.inside in
    let settled : c.settle_span.new.bytes.items ≡ picked c.args.outcome 0 inside.synced.items inside.bytes.items inside.unsynced.items = c.settle_span.ensures ∙ (λ i. picked c.args.outcome 0 (c.deref.ensures.value i) inside.bytes.items (c.deref-2.ensures.value i)) in
    let old : State = record { bytes = inside.bytes.items; unsynced = inside.unsynced.items } in
    let may : MayLeave old (picked c.args.outcome 0 inside.synced.items inside.bytes.items inside.unsynced.items) = picked_may_happen c.args.outcome inside.synced.items old c.self.invariant.synced_size c.self.invariant.unsynced_size in
    subst (λ (l : List ℕ). MayLeave c.args.self.now.state l) (sym settled)
    (subst (λ (v : SurfaceView). MayLeave v.state (picked c.args.outcome 0 inside.synced.items inside.bytes.items inside.unsynced.items)) c.self.view_is may)
