use Rattle.std.proofs.Common.{◌≡◌, ◌++◌, take}
use Rattle.sd_config.proofs.copying.push_hosts.Given as goal

abbrev pub invariant-loop-host : goal.invariant-loop-host
invariant-loop-host l = l.list ≡ l.initial.list ++ take l.host-index l.hosts
