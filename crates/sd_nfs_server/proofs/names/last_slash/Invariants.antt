use Rattle.sd_nfs_server.specs.Steps.{IsLastSlash}
use Rattle.sd_nfs_server.proofs.names.last_slash.Given as goal

abbrev pub invariant-loop-i : goal.invariant-loop-i
invariant-loop-i l = IsLastSlash l.path l.i l.last
