use Rattle.std.proofs.Common.{length, sym, subst, ap, ◌∙◌}
use Rattle.sd_outside.specs.Ranges.{Torn}
use Rattle.sd_outside.proofs.RangeLaws.{put_torn, length-put}
use Rattle.sd_outside.proofs.calm_disk.CalmDiskDisk.write.Goals as goal

pub returns-clause-seen : goal.returns-clause-seen
returns-clause-seen c =
    subst (λ new. Torn c.args.at (length c.args.bytes.now) c.args.self.now.bytes.items new) (sym c.overwrite.ensures) (put_torn c.args.at c.args.bytes.now c.args.self.now.bytes.items c.requires)

pub returns-clause-size : goal.returns-clause-size
returns-clause-size c = ap length c.overwrite.ensures ∙ length-put c.args.at c.args.bytes.now c.args.self.now.bytes.items c.requires
