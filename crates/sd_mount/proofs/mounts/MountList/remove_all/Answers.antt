use Rattle.std.proofs.Common.{not, eqb, rules, ◌∙◌, ap, arith}
use Rattle.sd_mount.specs.Tables.{without_host}
use Rattle.sd_mount.proofs.Kept.{kept_by}
use Rattle.sd_mount.proofs.Mounted.{differ_without_host}
use Rattle.sd_mount.proofs.mounts.MountList.remove_all.Goals as goal

pub invariant_of-self : goal.invariant_of-self
invariant_of-self c = (
  omega (arith, c.self.invariant.0, c.retain.ensures.capacity),
  omega (arith, c.self.invariant.1, c.retain.ensures.bound),
  differ_without_host c.args.host c.self.inside.mounts.items _ c.self.invariant.2
      (kept_by _ (λ m. not (eqb m.0 c.args.host)) _ (λ x b q k. search (rules)) _ _ c.retain.ensures.filtered),
)

pub returns : goal.returns
returns c =
    kept_by _ (λ m. not (eqb m.0 c.args.host)) _ (λ x b q k. search (rules)) _ _ c.retain.ensures.filtered
    ∙ ap (λ t. without_host c.args.host t) c.self.view_is
