use Rattle.std.proofs.Common.{◌≡◌, ◌++◌, take}
use Rattle.sd_server.proofs.setup.push_hosts.Given as goal

abbrev pub invariant-loop-host : goal.invariant-loop-host
invariant-loop-host l = l.hosts ≡ l.initial.hosts ++ take l.host-index l.more
