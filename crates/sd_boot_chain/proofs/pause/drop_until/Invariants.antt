use Rattle.std.proofs.Common.{◌≡◌, ◌≤◌}
use Rattle.sd_link.specs.Link.{Moves}
use Rattle.sd_rpc_retry.specs.Lasting.{Fails}
use Rattle.sd_rpc_retry.specs.Sending.{RoseBy}
use Rattle.sd_boot_chain.proofs.Dropping.{Drops}
use Rattle.sd_boot_chain.proofs.pause.drop_until.Given as goal

abbrev pub invariant-loop-count : goal.invariant-loop-count
invariant-loop-count g l = record {
  moves : Moves (g.L.Link.told l.initial.link) (g.L.Link.told l.link) (Drops l.until l.count);
  fails : Fails 0 (g.L.Link.told l.initial.link) (g.L.Link.told l.link);
  handed : RoseBy l.count (g.L.Link.handed l.initial.link) (g.L.Link.handed l.link);
  counts : g.L.Link.handed l.initial.link ≤ g.L.Link.handed l.link;
  later : g.L.Link.clock l.initial.link ≤ g.L.Link.clock l.link;
  faults : g.L.Link.faults l.initial.link ≤ g.L.Link.faults l.link;
  drained : g.L.Link.drained l.link ≡ g.L.Link.drained l.initial.link;
}
