use Rattle.std.proofs.Common.{◌≡◌, Option, sym, subst}
use Rattle.std.specs.Prelude.{IfSome}
use Rattle.std.proofs.lemmas.Result.{IfOk-weaker}
use Rattle.sd_bootparams.specs.declared.message.BpResult.{BpResult}
use Rattle.sd_bootparams.specs.Layout.{ResultFits}
use Rattle.sd_services.specs.RpcReply.{bp_answer}
use Rattle.sd_server.proofs.Fitting.{bp_answer_fits}
use Rattle.sd_server.proofs.bootparams.bp_fitting.Goals as goal

pub returns-clause-fits : goal.returns-clause-fits
returns-clause-fits c =
    IfOk-weaker c.bp_answer.result (λ answer. answer ≡ bp_answer c.args.setup.now c.args.args.now) (λ answer. IfSome answer ResultFits)
    (λ answer is. subst (λ (o : Option BpResult). IfSome o ResultFits) (sym is) (bp_answer_fits c.args.setup.now c.bp_answer.ensures.rules c.args.args.now)) c.bp_answer.ensures.answer
