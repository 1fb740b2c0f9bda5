use Rattle.sd_nfs_server.specs.Placing.{none_yet}
use Rattle.sd_nfs_server.proofs.Lines.{looked_at}
use Rattle.sd_nfs_server.proofs.build.place_directories.Goals as goal

pub loop-i-init : goal.loop-i-init
loop-i-init c = (none_yet, c.requires)

pub loop-i-preserved : goal.loop-i-preserved
loop-i-preserved c = (looked_at _ _ _ _ _ c.loop-i.invariant.0 c.in_ok-place_before.ensures.looked, c.in_ok-place_before.ensures.up)
