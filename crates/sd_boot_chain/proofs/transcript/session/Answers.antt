use Rattle.std.proofs.Common.{ℕ, ◌*◌, List, [], Result, Ok, Err, ap, subst, arith}
use Rattle.std.specs.Prelude.{OnOk, OnErr}
use Rattle.std.proofs.lemmas.List.{append-nil}
use Rattle.sd_config.specs.declared.config.ClientConfig.{ClientConfig}
use Rattle.sd_config.specs.Config.{IsFor}
use Rattle.sd_link.specs.Link.{Moves}
use Rattle.sd_config.specs.declared.command.Command.{Command}
use Rattle.sd_link.proofs.Histories.{moves_not}
use Rattle.sd_claims.specs.Session.{IsSession, IsCutSession}
use Rattle.sd_claims.specs.Wrote.{Counted, Wrote, WrotePrefix}
use Rattle.sd_boot_chain.specs.Step.{ClientView}
use Rattle.sd_boot_chain.proofs.Stepping.{session_none, session_cut}
use Rattle.sd_boot_chain.proofs.Saying.{wrote_nothing, wrote_cut}
use Rattle.sd_boot_chain.proofs.transcript.session.Goals as goal

on_err : {T E P : Type 0} (r : Result T E) → P → OnErr r P
on_err (Ok x) p = tt
on_err (Err e) p = p

-- what a link counts
abbrev counted : ℕ → ℕ → ℕ → Counted
counted handed clock faults = record { handed = handed; clock = clock; faults = faults }

-- no client was made
pub returns-in_err-client-clause-cut : goal.returns-in_err-client-clause-cut
returns-in_err-client-clause-cut g c =
    let before = g.K.Sink.written c.args.sink.now in
    let drained = g.L.Link.drained c.args.link.now in
    on_err c.from_residual.result
    (moves_not _ (λ a part. IsFor a.config c.args.config → IsCutSession c.args.commands.now drained before before a part)
    (λ h is_for. session_cut c.args.commands.now 0 drained before before h [] [] (session_none drained before h)))

pub returns-clause-done : goal.returns-clause-done
returns-clause-done g c =
    subst (λ (k : ClientConfig). OnOk c.do_all.result (Moves (g.L.Link.told c.args.link.now) (g.L.Link.told c.do_all.new.link) (λ a part. IsFor a.config k → IsSession c.args.commands.now (g.L.Link.drained c.args.link.now) (g.K.Sink.written c.args.sink.now) (g.K.Sink.written c.do_all.new.sink) a part)))
    (ap (λ (v : ClientView). v.config) c.in_ok-client.ensures) (subst (λ (l : List Command). OnOk c.do_all.result (Moves (g.L.Link.told c.args.link.now) (g.L.Link.told c.do_all.new.link) (λ a part. IsFor a.config c.in_ok-client.client.config → IsSession l (g.L.Link.drained c.args.link.now) (g.K.Sink.written c.args.sink.now) (g.K.Sink.written c.do_all.new.sink) a part)))
    c.as_slice.ensures.all c.do_all.ensures.done)

pub returns-clause-cut : goal.returns-clause-cut
returns-clause-cut g c =
    subst (λ (k : ClientConfig). OnErr c.do_all.result (Moves (g.L.Link.told c.args.link.now) (g.L.Link.told c.do_all.new.link) (λ a part. IsFor a.config k → IsCutSession c.args.commands.now (g.L.Link.drained c.args.link.now) (g.K.Sink.written c.args.sink.now) (g.K.Sink.written c.do_all.new.sink) a part)))
    (ap (λ (v : ClientView). v.config) c.in_ok-client.ensures) (subst (λ (l : List Command). OnErr c.do_all.result (Moves (g.L.Link.told c.args.link.now) (g.L.Link.told c.do_all.new.link) (λ a part. IsFor a.config c.in_ok-client.client.config → IsCutSession l (g.L.Link.drained c.args.link.now) (g.K.Sink.written c.args.sink.now) (g.K.Sink.written c.do_all.new.sink) a part)))
    c.as_slice.ensures.all c.do_all.ensures.cut)

pub returns-clause-wrote : goal.returns-clause-wrote
returns-clause-wrote g c =
    subst (λ (k : ClientConfig). OnOk c.do_all.result (Wrote (k.tries * k.wait) c.args.commands.now (counted (g.L.Link.handed c.args.link.now) (g.L.Link.clock c.args.link.now) (g.L.Link.faults c.args.link.now)) (counted (g.L.Link.handed c.do_all.new.link) (g.L.Link.clock c.do_all.new.link) (g.L.Link.faults c.do_all.new.link)) (g.L.Link.drained c.args.link.now) (g.L.Link.drained c.do_all.new.link) (g.K.Sink.written c.args.sink.now) (g.K.Sink.written c.do_all.new.sink))) (ap (λ (v : ClientView). v.config) c.in_ok-client.ensures)
    (subst (λ (l : List Command). OnOk c.do_all.result (Wrote (c.in_ok-client.client.config.tries * c.in_ok-client.client.config.wait) l (counted (g.L.Link.handed c.args.link.now) (g.L.Link.clock c.args.link.now) (g.L.Link.faults c.args.link.now)) (counted (g.L.Link.handed c.do_all.new.link) (g.L.Link.clock c.do_all.new.link) (g.L.Link.faults c.do_all.new.link)) (g.L.Link.drained c.args.link.now) (g.L.Link.drained c.do_all.new.link) (g.K.Sink.written c.args.sink.now) (g.K.Sink.written c.do_all.new.sink))) c.as_slice.ensures.all c.do_all.ensures.wrote)

pub returns-clause-wrote_prefix : goal.returns-clause-wrote_prefix
returns-clause-wrote_prefix g c =
    subst (λ (k : ClientConfig). OnErr c.do_all.result (WrotePrefix (k.tries * k.wait) c.args.commands.now (counted (g.L.Link.handed c.args.link.now) (g.L.Link.clock c.args.link.now) (g.L.Link.faults c.args.link.now)) (counted (g.L.Link.handed c.do_all.new.link) (g.L.Link.clock c.do_all.new.link) (g.L.Link.faults c.do_all.new.link)) (g.L.Link.drained c.args.link.now) (g.L.Link.drained c.do_all.new.link) (g.K.Sink.written c.args.sink.now) (g.K.Sink.written c.do_all.new.sink))) (ap (λ (v : ClientView). v.config) c.in_ok-client.ensures)
    (subst (λ (l : List Command). OnErr c.do_all.result (WrotePrefix (c.in_ok-client.client.config.tries * c.in_ok-client.client.config.wait) l (counted (g.L.Link.handed c.args.link.now) (g.L.Link.clock c.args.link.now) (g.L.Link.faults c.args.link.now)) (counted (g.L.Link.handed c.do_all.new.link) (g.L.Link.clock c.do_all.new.link) (g.L.Link.faults c.do_all.new.link)) (g.L.Link.drained c.args.link.now) (g.L.Link.drained c.do_all.new.link) (g.K.Sink.written c.args.sink.now) (g.K.Sink.written c.do_all.new.sink))) c.as_slice.ensures.all c.do_all.ensures.wrote_prefix)

pub returns-in_err-client-clause-wrote_prefix : goal.returns-in_err-client-clause-wrote_prefix
returns-in_err-client-clause-wrote_prefix g c =
    on_err c.from_residual.result (wrote_cut (c.args.config.tries * c.args.config.wait) c.args.commands.now 0 _ _ _ _ _ _ _ _ (wrote_nothing _ _ _ _) (omega arith) (omega arith) (omega arith) ([], append-nil _))
