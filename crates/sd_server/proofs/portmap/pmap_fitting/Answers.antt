use Rattle.std.proofs.Common.{◌≡◌, Option, sym, subst}
use Rattle.std.specs.Prelude.{IfSome}
use Rattle.std.proofs.lemmas.Result.{IfOk-weaker}
use Rattle.sd_portmap.specs.declared.message.PmapResult.{PmapResult}
use Rattle.sd_portmap.specs.Layout.{ResultFits}
use Rattle.sd_services.specs.RpcReply.{pmap_answer}
use Rattle.sd_server.proofs.Fitting.{pmap_answer_fits}
use Rattle.sd_server.proofs.portmap.pmap_fitting.Goals as goal

pub returns-clause-fits : goal.returns-clause-fits
returns-clause-fits c =
    IfOk-weaker c.pmap_answer.result (λ answer. answer ≡ pmap_answer c.args.setup.now c.args.args.now) (λ answer. IfSome answer ResultFits)
    (λ answer is. subst (λ (o : Option PmapResult). IfSome o ResultFits) (sym is) (pmap_answer_fits c.args.setup.now c.config.ensures.rules c.args.args.now)) c.pmap_answer.ensures.answer
