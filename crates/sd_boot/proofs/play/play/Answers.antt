use Rattle.sd_boot.proofs.Composing.{on_err, unplayed}
use Rattle.sd_boot.proofs.play.play.Goals as goal

pub returns-in_err-client-clause-cut : goal.returns-in_err-client-clause-cut
returns-in_err-client-clause-cut g c = on_err c.from_residual.result (unplayed c.args.script (g.K.Sink.written c.args.sink.now) c.requires.events)
