use Rattle.std.proofs.Common.{◌≡◌, ◌+◌, ◌≤◌, length, List, ℕ, Bool, sym, ap, subst, arith}
use Rattle.sd_outside.specs.Ranges.{put}
use Rattle.sd_outside.specs.Kept.{IsSurface}
use Rattle.sd_outside.proofs.SurfaceLaws.{surface_written}
use Rattle.sd_outside.proofs.surface.Surface.write.Goals as goal

pub invariant_of-self : goal.invariant_of-self
invariant_of-self c =
    let inside = c.self.inside in
    let size : length inside.bytes.items ≡ length c.args.self.now.state.bytes = ap (λ v. length v.state.bytes) c.self.view_is in
    let fits : c.args.at + length c.args.bytes.now ≤ length inside.bytes.items = omega (arith, size, c.requires) in
    let joined = c.joined-self-inside.result in
    let surface = surface_written inside.bytes.items inside.synced.items inside.unsynced.items inside.dirty c.self.invariant c.args.at c.args.bytes.now joined fits c.joined-self-inside.ensures.covers c.joined-self-inside.ensures.ordered (c.joined-self-inside.ensures.inside (length inside.bytes.items) c.self.invariant.inside fits) in
    subst (λ (l : List ℕ). IsSurface l inside.synced.items c.mark.new.marks.items joined) (sym c.overwrite.ensures)
    (subst (λ (l : List Bool). IsSurface (put c.args.at c.args.bytes.now inside.bytes.items) inside.synced.items l joined) (sym c.mark.ensures) surface)
