use Rattle.std.proofs.Common.{◌≡◌, ◌++◌, take, map}
use Rattle.sd_services.specs.MountReply.{item_of}
use Rattle.sd_server.proofs.mount.push_items.Given as goal

abbrev pub invariant-loop-entry : goal.invariant-loop-entry
invariant-loop-entry l = l.list ≡ l.initial.list ++ map item_of (take l.entry-index l.more)
