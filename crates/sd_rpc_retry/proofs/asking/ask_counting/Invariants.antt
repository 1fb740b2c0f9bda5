use Rattle.std.proofs.Common.{◌≡◌, ◌<◌, ◌≤◌, ◌+◌, ◌*◌}
use Rattle.std.specs.Prelude.{IfSome}
use Rattle.sd_link.specs.Steps.{IsLawfulSoFar}
use Rattle.sd_link.specs.Link.{Moves, last_tick}
use Rattle.sd_rpc_retry.specs.Lasting.{Lasts, Fails}
use Rattle.sd_rpc_retry.specs.Sending.{SendsOnly, IsAsking}
use Rattle.sd_rpc_retry.proofs.Trying.{Vain}
use Rattle.sd_rpc_retry.proofs.Tallying.{Counted}
use Rattle.sd_rpc_retry.proofs.asking.ask_counting.Given as goal

abbrev pub invariant-loop-count : goal.invariant-loop-count
invariant-loop-count g l = record {
  moves : Moves (g.L.Link.told l.initial.link) (g.L.Link.told l.link) (Vain l.request (g.H.Listener.hearing l.initial.listener) l.wait l.count);
  counted : Moves (g.L.Link.told l.initial.link) (g.L.Link.told l.link) (Counted l.request (g.H.Listener.hearing l.initial.listener) l.wait l.count l.tally.last);
  sends : l.tally.sends ≡ l.count;
  asks : SendsOnly (IsAsking l.request (g.H.Listener.hearing l.initial.listener)) (g.L.Link.told l.initial.link) (g.L.Link.told l.link);
  same : l.listener ≡ l.initial.listener;
  lasts : Lasts (l.count * 1000) (g.L.Link.told l.initial.link) (g.L.Link.told l.link);
  lawful : 0 < l.count → IfSome (g.L.Link.told l.initial.link) IsLawfulSoFar;
  fails : Fails 0 (g.L.Link.told l.initial.link) (g.L.Link.told l.link);
  waited : g.L.Link.clock l.initial.link + l.count * l.wait ≤ g.L.Link.clock l.link;
  began : 0 < l.count → g.L.Link.clock l.initial.link ≤ l.tally.last;
  ended : 0 < l.count → l.tally.last ≤ g.L.Link.clock l.link;
  low : l.tally.last ≤ last_tick;
  counts : g.L.Link.handed l.initial.link ≤ g.L.Link.handed l.link;
  faults : g.L.Link.faults l.initial.link ≤ g.L.Link.faults l.link;
  drained : g.L.Link.drained l.link ≡ g.L.Link.drained l.initial.link;
}
