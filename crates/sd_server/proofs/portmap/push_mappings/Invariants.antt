use Rattle.std.proofs.Common.{◌≡◌, ◌++◌, take}
use Rattle.sd_server.proofs.portmap.push_mappings.Given as goal

abbrev pub invariant-loop-mapping : goal.invariant-loop-mapping
invariant-loop-mapping l = l.list ≡ l.initial.list ++ take l.mapping-index l.more
