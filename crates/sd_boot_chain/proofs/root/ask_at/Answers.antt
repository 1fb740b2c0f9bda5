use Rattle.std.proofs.Common.{subst}
use Rattle.std.specs.Prelude.{IfOk}
use Rattle.sd_link.specs.Link.{Moves}
use Rattle.sd_rpc_retry.specs.Calls.{asked_as, CameOf}
use Rattle.sd_boot_chain.proofs.Rooting.{no_answer}
use Rattle.sd_boot_chain.proofs.root.ask_at.Goals as goal

pub returns-in-Err-clause-told : goal.returns-in-Err-clause-told
returns-in-Err-clause-told g c =
    let old = g.L.Link.told c.args.link.now in
    let new = g.L.Link.told c.call.new.link in
    let what = g.Q.Question.ask c.args.question.now in
    no_answer g.Q.Question.shown old new c.args.caller.now c.args.dst what c.in-Err.error
    (subst (λ r. IfOk (asked_as r) (λ came. Moves old new (CameOf c.args.caller.now c.args.dst what g.Q.Question.shown came))) c.in-Err.is c.call.ensures.told) c.call.ensures.lasts
