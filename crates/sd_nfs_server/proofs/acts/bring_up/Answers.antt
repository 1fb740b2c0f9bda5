use Rattle.std.proofs.Common.{ap, subst, ◌∙◌}
use Rattle.std.proofs.lemmas.Bool.{false≢true}
use Rattle.std.specs.Result.{result_err}
use Rattle.std.specs.Prelude.{IsOk, is_ok}
use Rattle.sd_nfs_server.specs.declared.acts.Acted.{Acted}
use Rattle.sd_nfs_server.proofs.Storing.{down_where, none_damaged, place_damaged, not_refused, was_refused, up_where, down_as}
use Rattle.sd_nfs_server.proofs.acts.bring_up.Goals as goal

pub returns-in-Ok-clause-durable : goal.returns-in-Ok-clause-durable
returns-in-Ok-clause-durable g c = λ down done. c.in-Ok.ensures.durable down

pub returns-in-Ok-clause-damaged : goal.returns-in-Ok-clause-damaged
returns-in-Ok-clause-damaged g c = none_damaged _ _ (λ down. c.rise.ensures.refusal down ∙ ap result_err c.in-Ok.is)

pub returns-in-Err-clause-damaged : goal.returns-in-Err-clause-damaged
returns-in-Err-clause-damaged g c =
    let down = down_where c.args.store.now.up (λ up. false≢true (subst IsOk c.in-Err.is (c.rise.ensures.kept up).1)) in
    ap (λ (a : Acted). a.damaged) c.refused.ensures ∙ place_damaged _ _ _ down (c.rise.ensures.refusal down ∙ ap result_err c.in-Err.is)

pub returns-in-Ok-clause-came_up : goal.returns-in-Ok-clause-came_up
returns-in-Ok-clause-came_up g c =
    up_where c.rise.new.store.up c.args.store.now.up c.rise.new.store.refusal (c.rise.ensures.up ∙ ap is_ok c.in-Ok.is)
    (not_refused c.args.store.now.up c.rise.new.store.refusal (λ down. c.rise.ensures.refusal down ∙ ap result_err c.in-Ok.is))

pub returns-in-Err-clause-came_up : goal.returns-in-Err-clause-came_up
returns-in-Err-clause-came_up g c =
    let down = down_where c.args.store.now.up (λ up. false≢true (subst IsOk c.in-Err.is (c.rise.ensures.kept up).1)) in
    down_as c.rise.new.store.up c.args.store.now.up c.rise.new.store.refusal (c.rise.ensures.up ∙ ap is_ok c.in-Err.is)
    (was_refused c.args.store.now.up c.rise.new.store.refusal c.in-Err.error down (c.rise.ensures.refusal down ∙ ap result_err c.in-Err.is))
