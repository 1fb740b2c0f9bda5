use Rattle.std.proofs.Common.{not, rules, ◌∙◌, ap, arith}
use Rattle.sd_mount.specs.Tables.{is_mount, without}
use Rattle.sd_mount.proofs.Kept.{kept_by}
use Rattle.sd_mount.proofs.Mounted.{differ_without}
use Rattle.sd_mount.proofs.mounts.MountList.remove.Goals as goal

pub invariant_of-self : goal.invariant_of-self
invariant_of-self c = (
  omega (arith, c.self.invariant.0, c.retain.ensures.capacity),
  omega (arith, c.self.invariant.1, c.retain.ensures.bound),
  differ_without c.args.host c.args.path.now c.self.inside.mounts.items _ c.self.invariant.2
      (kept_by _ (λ m. not (is_mount c.args.host c.args.path.now m)) _ (λ x b q k. search (rules)) _ _ c.retain.ensures.filtered),
)

pub returns : goal.returns
returns c =
    kept_by _ (λ m. not (is_mount c.args.host c.args.path.now m)) _ (λ x b q k. search (rules)) _ _ c.retain.ensures.filtered
    ∙ ap (λ t. without c.args.host c.args.path.now t) c.self.view_is
