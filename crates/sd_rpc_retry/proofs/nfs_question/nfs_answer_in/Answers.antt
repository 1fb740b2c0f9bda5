use Rattle.std.proofs.Common.{◌≡◌, ap, subst, ◌∙◌, Some, Option, IfSome}
use Rattle.std.specs.Option.{option_map}
use Rattle.sd_nfs_msg.specs.declared.message.NfsResult.{NfsResult}
use Rattle.sd_nfs_msg.specs.Layout.{proc_of, IsResultOf, ResultFits, result_kind, result_value}
use Rattle.sd_services.specs.RpcCalls.{spelled}
use Rattle.sd_rpc_retry.specs.declared.calling.Answer.{Answer}
use Rattle.sd_rpc_retry.proofs.Typed.{answers_again}
use Rattle.sd_rpc_retry.proofs.nfs_question.nfs_answer_in.Goals as goal

pub returns-in-Some : goal.returns-in-Some
returns-in-Some c =
    let n = c.nfs_procedure.result in
    let bs = c.args.results.now in
    ap (λ (a : Answer). Some a) c.nfs_answer.ensures
    ∙ answers_again n (proc_of c.args.args.now) c.in-Some.done bs c.nfs_procedure.ensures.is
    (subst (λ (o : Option NfsResult). IfSome o (IsResultOf n)) c.in-Some.is c.in_ok-done.ensures.of_proc)
    (subst (λ (o : Option NfsResult). IfSome o ResultFits) c.in-Some.is c.in_ok-done.ensures.fits)
    (subst (λ (o : Option NfsResult). option_map result_value o ≡ spelled (result_kind n) bs) c.in-Some.is c.in_ok-done.ensures.value)
