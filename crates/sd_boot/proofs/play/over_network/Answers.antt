use Rattle.std.proofs.Common.{Result, Ok, Err, subst}
use Rattle.std.specs.Prelude.{OnOk, OnErr}
use Rattle.sd_link.specs.Steps.{History}
use Rattle.sd_claims.specs.Headline.{Plays, PlaysPrefix}
use Rattle.sd_streams.specs.Writing.{GainsSome}
use Rattle.sd_boot.specs.Play.{script_of}
use Rattle.sd_boot.proofs.Composing.{on_err, unplayed}
use Rattle.sd_boot.proofs.play.over_network.Goals as goal

pub returns-in_err-link-clause-cut : goal.returns-in_err-link-clause-cut
returns-in_err-link-clause-cut g c =
    on_err c.from_residual.result (unplayed (record { config = c.args.config; events = c.args.events; commands = c.args.commands.now }) (g.K.Sink.written c.args.sink.now) c.requires.events)

pub returns-clause-done : goal.returns-clause-done
returns-clause-done g c =
    subst (λ (h : History). OnOk c.commanded.result (GainsSome (g.K.Sink.written c.args.sink.now) (g.K.Sink.written c.commanded.new.sink) (Plays (script_of h c.args.commands.now)))) c.in_ok-link.ensures.told c.commanded.ensures.done

pub returns-clause-cut : goal.returns-clause-cut
returns-clause-cut g c =
    subst (λ (h : History). OnErr c.commanded.result (GainsSome (g.K.Sink.written c.args.sink.now) (g.K.Sink.written c.commanded.new.sink) (PlaysPrefix (script_of h c.args.commands.now)))) c.in_ok-link.ensures.told c.commanded.ensures.cut
