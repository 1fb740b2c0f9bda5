use Rattle.sd_nfs_server.specs.Placing.{Ascends, PlacedDirectories}
use Rattle.sd_nfs_server.proofs.build.place_directories.Given as goal

abbrev pub invariant-loop-i : goal.invariant-loop-i
invariant-loop-i l = PlacedDirectories l.path l.fn.nodes.items l.i l.nodes.items × Ascends l.nodes.items
