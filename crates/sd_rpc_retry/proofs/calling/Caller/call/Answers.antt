use Rattle.std.specs.Prelude.{IfOk}
use Rattle.std.proofs.Common.{sym, subst}
use Rattle.sd_rpc_retry.specs.Calls.{IsTold}
use Rattle.sd_rpc_retry.proofs.Fitting.{told_fits}
use Rattle.sd_rpc_retry.proofs.calling.Caller.call.Goals as goal

pub returns-clause-answers : goal.returns-clause-answers
returns-clause-answers g c =
    let what = g.Q.Question.ask c.args.question.now in
    let shown = g.Q.Question.shown in
    told_fits c.args.self.now c.args.dst what shown c.answer_of.result
    (subst (λ r. IfOk r (IsTold c.args.self.now c.args.dst what shown)) (sym c.answer_of.ensures) c.send_call-asked.ensures.found)
