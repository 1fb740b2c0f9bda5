use Rattle.std.proofs.Common.{◌≡◌, false, arith}
use Rattle.sd_mount.specs.Tables.{has}
use Rattle.sd_mount.proofs.Mounted.{differ_with, few_with}
use Rattle.sd_mount.proofs.mounts.MountList.add.Goals as goal

pub invariant_of-self : goal.invariant_of-self
invariant_of-self c =
    let no_such : has c.self.inside.mounts.items c.args.host c.args.path ≡ false = cc (c.has.ensures, c.if-has.false, c.as_slice.ensures, c.self.view_is, c.path.view_is) in (
      omega (arith, c.self.invariant.0, c.push_latest.ensures.room),
      few_with _ c.self.inside.mounts.items _ c.self.invariant.1 c.push_latest.ensures.latest,
      differ_with c.args.host c.args.path c.self.inside.mounts.items _ c.self.invariant.2 no_such c.push_latest.ensures.latest,
    )
