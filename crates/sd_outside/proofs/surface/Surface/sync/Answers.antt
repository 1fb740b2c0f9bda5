use Rattle.std.proofs.Common.{length, List, ℕ, false, replicate, refl, ◌∙◌, ap, subst}
use Rattle.sd_outside.specs.Kept.{Outside, Refreshed}
use Rattle.sd_outside.proofs.SurfaceLaws.{all_synced, all_unmarked, surface_clean}
use Rattle.sd_outside.proofs.surface.Surface.sync.Goals as goal

pub invariant_of-self : goal.invariant_of-self
invariant_of-self c =
    let inside = c.self.inside in
    let fresh = subst (λ (l : List ℕ). Refreshed (Outside inside.dirty) l inside.synced.items c.refresh.new.items.items) c.deref.ensures.value c.refresh.ensures in
    let synced = all_synced inside.bytes.items inside.synced.items inside.unsynced.items inside.dirty c.self.invariant c.refresh.new.items.items fresh in
    let unmarked = c.unmark.ensures ∙ all_unmarked inside.bytes.items inside.synced.items inside.unsynced.items inside.dirty c.self.invariant in
    surface_clean inside.bytes.items c.refresh.new.items.items c.unmark.new.marks.items _ (length inside.unsynced.items) synced unmarked c.self.invariant.unsynced_size refl refl

pub returns-clause-state : goal.returns-clause-state
returns-clause-state c =
    let inside = c.self.inside in
    let unmarked = c.unmark.ensures ∙ all_unmarked inside.bytes.items inside.synced.items inside.unsynced.items inside.dirty c.self.invariant in
    let bytes = ap (λ v. v.state.bytes) c.self.view_is in
    let marks = unmarked ∙ ap (λ v. replicate (length v.state.unsynced) false) c.self.view_is in
    λ i. record { bytes = bytes i; unsynced = marks i }

pub returns-clause-synced : goal.returns-clause-synced
returns-clause-synced c =
    let inside = c.self.inside in
    let fresh = subst (λ (l : List ℕ). Refreshed (Outside inside.dirty) l inside.synced.items c.refresh.new.items.items) c.deref.ensures.value c.refresh.ensures in
    all_synced inside.bytes.items inside.synced.items inside.unsynced.items inside.dirty c.self.invariant c.refresh.new.items.items fresh ∙ ap (λ v. v.state.bytes) c.self.view_is
