use Rattle.std.proofs.Common.{◌≡◌, ◌≤◌}
use Rattle.sd_link.specs.Link.{Moves}
use Rattle.sd_rpc_retry.specs.Sending.{RoseBy, SendsOnly, IsReply}
use Rattle.sd_rpc_retry.specs.Lasting.{Fails}
use Rattle.sd_rpc_retry.proofs.Listening.{Quiet}
use Rattle.sd_rpc_retry.proofs.asking.listen.Given as goal

abbrev pub invariant-loop-count : goal.invariant-loop-count
invariant-loop-count g l = record {
  moves : Moves (g.L.Link.told l.initial.link) (g.L.Link.told l.link) (Quiet (g.H.Listener.hearing l.initial.listener) l.until l.count);
  fails : Fails 0 (g.L.Link.told l.initial.link) (g.L.Link.told l.link);
  sends : SendsOnly (IsReply (g.H.Listener.hearing l.initial.listener)) (g.L.Link.told l.initial.link) (g.L.Link.told l.link);
  same : l.listener ≡ l.initial.listener;
  faults : g.L.Link.faults l.initial.link ≤ g.L.Link.faults l.link;
  handed : RoseBy l.count (g.L.Link.handed l.initial.link) (g.L.Link.handed l.link);
  counts : g.L.Link.handed l.initial.link ≤ g.L.Link.handed l.link;
  later : g.L.Link.clock l.initial.link ≤ g.L.Link.clock l.link;
  drained : g.L.Link.drained l.link ≡ g.L.Link.drained l.initial.link;
}
