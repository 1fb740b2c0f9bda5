use Rattle.std.proofs.Common.{◌≡◌, ◌++◌, take, map}
use Rattle.sd_services.specs.MountReply.{pair_of}
use Rattle.sd_server.proofs.mount.push_pairs.Given as goal

abbrev pub invariant-loop-mount : goal.invariant-loop-mount
invariant-loop-mount l = l.list ≡ l.initial.list ++ map pair_of (take l.mount-index l.more)
