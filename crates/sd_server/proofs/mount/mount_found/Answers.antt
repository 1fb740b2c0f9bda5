use Rattle.std.proofs.Common.{◌≡◌, List, Option, Some, sym, ap, ◌∙◌, subst}
use Rattle.std.specs.Prelude.{IfSome}
use Rattle.sd_mount.specs.declared.message.MountArgs.{MountArgs}
use Rattle.sd_mount.specs.Layout.{ArgsFit}
use Rattle.sd_services.specs.MountReply.{mounts_by}
use Rattle.sd_server.specs.Mounting.{Mounts, mounts_found}
use Rattle.sd_server.proofs.MountsFit.{mounts_so}
use Rattle.sd_server.proofs.mount.mount_found.Goals as goal

pub returns-in_ok-results-in-Some-clause-mounts : goal.returns-in_ok-results-in-Some-clause-mounts
returns-in_ok-results-in-Some-clause-mounts c = λ part same.
    mounts_so c.args.setup.now c.args.mounts.now c.args.from part c.args.found c.in-Some.args c.mount_change.result c.in-Some.is same (c.mount_change.ensures.mounts part)
    (c.mount_change.ensures.fit part (subst (λ (o : Option MountArgs). IfSome o ArgsFit) c.in-Some.is c.requires.fit))
