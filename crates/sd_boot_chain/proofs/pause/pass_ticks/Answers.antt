use Rattle.std.proofs.Common.{◌+◌, Option, sym, subst}
use Rattle.std.proofs.lemmas.Result.{IfOk-weaker}
use Rattle.sd_link.specs.Steps.{History}
use Rattle.sd_link.specs.Link.{Moves, IsNow}
use Rattle.sd_rpc_retry.specs.Lasting.{Lasts}
use Rattle.sd_boot_chain.specs.Pause.{Passes, IsPause}
use Rattle.sd_rpc_retry.proofs.Getting.{lasts_from}
use Rattle.sd_rpc_retry.proofs.Lasting.{lasts_more}
use Rattle.sd_boot_chain.proofs.Pausing.{pauses}
use Rattle.sd_boot_chain.proofs.pause.pass_ticks.Goals as goal

pub returns-clause-told : goal.returns-clause-told
returns-clause-told g c =
    let at : IsNow (g.L.Link.told c.now.new.self) c.now.result = subst (λ n. IsNow (g.L.Link.told c.now.new.self) n) (sym c.now.ensures.value) c.now.ensures.tick in
    IfOk-weaker c.drop_until.result
    (λ pause. Moves (g.L.Link.told c.now.new.self) (g.L.Link.told c.drop_until.new.link) (Passes (c.now.result + c.args.ticks) pause))
    (λ pause. Moves (g.L.Link.told c.args.link.now) (g.L.Link.told c.drop_until.new.link) (IsPause c.args.ticks pause))
    (λ pause m. subst (λ (o : Option History). Moves o (g.L.Link.told c.drop_until.new.link) (IsPause c.args.ticks pause)) c.now.ensures.told (pauses _ _ c.args.ticks c.now.result pause at m))
    c.drop_until.ensures.told

pub returns-clause-goes : goal.returns-clause-goes
returns-clause-goes g c =
    let at : IsNow (g.L.Link.told c.now.new.self) c.now.result = subst (λ n. IsNow (g.L.Link.told c.now.new.self) n) (sym c.now.ensures.value) c.now.ensures.tick in
    subst (λ (o : Option History). Lasts 100000 o (g.L.Link.told c.drop_until.new.link)) c.now.ensures.told
    (lasts_more _ _ c.args.ticks 100000 c.requires (lasts_from _ _ c.now.result c.args.ticks at c.drop_until.ensures.goes))
