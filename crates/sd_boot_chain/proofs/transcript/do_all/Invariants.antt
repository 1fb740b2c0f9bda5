use Rattle.std.proofs.Common.{◌≡◌, ◌≤◌, ◌+◌, ◌*◌, take}
use Rattle.sd_config.specs.Config.{IsFor}
use Rattle.sd_link.specs.Link.{Moves}
use Rattle.sd_claims.specs.Wrote.{Wrote}
use Rattle.sd_boot_chain.proofs.Stepping.{SessionAt}
use Rattle.sd_rpc_retry.specs.Lasting.{Lasts}
use Rattle.sd_boot_chain.specs.Durations.{most_ticks, most_calls}
use Rattle.sd_boot_chain.proofs.transcript.do_all.Given as goal

abbrev pub invariant-loop-command : goal.invariant-loop-command
invariant-loop-command g l = record {
  config : l.client.config ≡ l.initial.client.config;
  done : Moves (g.L.Link.told l.initial.link) (g.L.Link.told l.link) (λ old part. IsFor old.config l.initial.client.config →
      SessionAt (take l.command-index l.commands) (g.L.Link.drained l.initial.link) (g.L.Link.drained l.link) (g.K.Sink.written l.initial.sink) (g.K.Sink.written l.sink) l.client old part);
  calls : l.client.next_xid ≤ 1 + l.command-index * most_calls;
  lasts : Lasts (l.command-index * most_ticks) (g.L.Link.told l.initial.link) (g.L.Link.told l.link);
  wrote : Wrote (l.initial.client.config.tries * l.initial.client.config.wait) (take l.command-index l.commands) (record { handed = g.L.Link.handed l.initial.link; clock = g.L.Link.clock l.initial.link; faults = g.L.Link.faults l.initial.link }) (record { handed = g.L.Link.handed l.link; clock = g.L.Link.clock l.link; faults = g.L.Link.faults l.link }) (g.L.Link.drained l.initial.link) (g.L.Link.drained l.link)
      (g.K.Sink.written l.initial.sink) (g.K.Sink.written l.sink);
  faults : g.L.Link.faults l.initial.link ≤ g.L.Link.faults l.link;
  sink_faults : g.K.Sink.faults l.sink ≡ g.K.Sink.faults l.initial.sink;
}
