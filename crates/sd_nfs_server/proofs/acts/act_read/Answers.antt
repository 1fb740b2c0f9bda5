use Rattle.std.proofs.Common.{◌≡◌, ◌⊎◌, inr, ap, subst, ◌∙◌}
use Rattle.std.proofs.lemmas.Bool.{false≢true}
use Rattle.std.specs.Result.{is_err, result_err}
use Rattle.std.specs.Prelude.{None, IsOk, is_ok}
use Rattle.sd_outside.proofs.MakesLaws.{plan_then}
use Rattle.sd_stable_disk.specs.Files.{files, may_hold, held_since}
use Rattle.sd_nfs_server.specs.Acts.{IsFault}
use Rattle.sd_nfs_server.specs.declared.acts.Acted.{Acted}
use Rattle.sd_nfs_server.proofs.Storing.{leaves_then, down_where, none_damaged, place_damaged, not_refused, was_refused, up_where, down_as}
use Rattle.sd_nfs_server.proofs.acts.act_read.Goals as goal

pub returns-in-Ok-read-clause-durable : goal.returns-in-Ok-read-clause-durable
returns-in-Ok-read-clause-durable g c = λ done left held. c.read.ensures.durable left held ∙ c.rise.ensures.files

pub returns-in-Ok-read-clause-crash : goal.returns-in-Ok-read-clause-crash
returns-in-Ok-read-clause-crash g c = λ left held. inr (c.read.ensures.durable left held ∙ c.rise.ensures.files)

pub returns-in-Ok-read-clause-moments : goal.returns-in-Ok-read-clause-moments
returns-in-Ok-read-clause-moments g c =
    let seen = g.D.Disk.seen in
    let old = c.args.store.now in
    leaves_then (λ store. g.D.Disk.moment store.disk) (held_since g.D.Disk.left_since) old c.rise.new.store c.read.new.self
    (λ left. may_hold g.D.Disk.may_leave old left ⊎ (left ≡ files seen old)) (λ left. left ≡ files seen c.rise.new.store)
    (λ left same. inr (same ∙ c.rise.ensures.files)) c.rise.ensures.moments c.read.ensures.moments

pub returns-in-Ok-read-clause-plan : goal.returns-in-Ok-read-clause-plan
returns-in-Ok-read-clause-plan g c =
    let p = g.D.Disk.plan in
    plan_then (p c.args.store.now.disk) (p c.rise.new.store.disk) (p c.read.new.self.disk) 5 3 0 1 _ _ (IsFault (record { status = 0; damaged = None }))
    (λ fault. absurd (cc fault.status)) c.rise.ensures.plan c.read.ensures.plan

pub returns-in-Err-DiskFault-clause-crash : goal.returns-in-Err-DiskFault-clause-crash
returns-in-Err-DiskFault-clause-crash g c = λ left held. inr (c.read.ensures.durable left held ∙ c.rise.ensures.files)

pub returns-in-Err-DiskFault-clause-moments : goal.returns-in-Err-DiskFault-clause-moments
returns-in-Err-DiskFault-clause-moments g c =
    let seen = g.D.Disk.seen in
    let old = c.args.store.now in
    leaves_then (λ store. g.D.Disk.moment store.disk) (held_since g.D.Disk.left_since) old c.rise.new.store c.read.new.self
    (λ left. may_hold g.D.Disk.may_leave old left ⊎ (left ≡ files seen old)) (λ left. left ≡ files seen c.rise.new.store)
    (λ left same. inr (same ∙ c.rise.ensures.files)) c.rise.ensures.moments c.read.ensures.moments

pub returns-in-Err-DiskFault-clause-plan : goal.returns-in-Err-DiskFault-clause-plan
returns-in-Err-DiskFault-clause-plan g c =
    let p = g.D.Disk.plan in
    plan_then (p c.args.store.now.disk) (p c.rise.new.store.disk) (p c.read.new.self.disk) 5 3 0 1 _ _ (IsFault (record { status = 5; damaged = None }))
    (λ fault. ap is_err c.in-Err-DiskFault.is) c.rise.ensures.plan c.read.ensures.plan

pub returns-in-Err-DiskFault-clause-durable : goal.returns-in-Err-DiskFault-clause-durable
returns-in-Err-DiskFault-clause-durable g c = λ up left held. c.read.ensures.durable left held ∙ c.rise.ensures.files

pub returns-in-Ok-read-clause-damaged : goal.returns-in-Ok-read-clause-damaged
returns-in-Ok-read-clause-damaged g c = none_damaged _ _ (λ down. c.read.ensures.refusal ∙ c.rise.ensures.refusal down ∙ ap result_err c.in-Ok.is)

pub returns-in-Err-DiskFault-clause-damaged : goal.returns-in-Err-DiskFault-clause-damaged
returns-in-Err-DiskFault-clause-damaged g c = none_damaged _ _ (λ down. c.read.ensures.refusal ∙ c.rise.ensures.refusal down ∙ ap result_err c.in-Ok.is)

pub returns-in-Err-clause-damaged : goal.returns-in-Err-clause-damaged
returns-in-Err-clause-damaged g c =
    let down = down_where c.args.store.now.up (λ up. false≢true (subst IsOk c.in-Err.is (c.rise.ensures.kept up).1)) in
    ap (λ (a : Acted). a.damaged) c.refused.ensures ∙ place_damaged _ _ _ down (c.rise.ensures.refusal down ∙ ap result_err c.in-Err.is)

pub returns-in-Ok-read-clause-came_up : goal.returns-in-Ok-read-clause-came_up
returns-in-Ok-read-clause-came_up g c =
    up_where c.read.new.self.up c.args.store.now.up c.read.new.self.refusal c.read.ensures.up
    (not_refused c.args.store.now.up c.read.new.self.refusal (λ down. c.read.ensures.refusal ∙ c.rise.ensures.refusal down ∙ ap result_err c.in-Ok.is))

pub returns-in-Err-DiskFault-clause-came_up : goal.returns-in-Err-DiskFault-clause-came_up
returns-in-Err-DiskFault-clause-came_up g c =
    up_where c.read.new.self.up c.args.store.now.up c.read.new.self.refusal c.read.ensures.up
    (not_refused c.args.store.now.up c.read.new.self.refusal (λ down. c.read.ensures.refusal ∙ c.rise.ensures.refusal down ∙ ap result_err c.in-Ok.is))

pub returns-in-Err-clause-came_up : goal.returns-in-Err-clause-came_up
returns-in-Err-clause-came_up g c =
    let down = down_where c.args.store.now.up (λ up. false≢true (subst IsOk c.in-Err.is (c.rise.ensures.kept up).1)) in
    down_as c.rise.new.store.up c.args.store.now.up c.rise.new.store.refusal (c.rise.ensures.up ∙ ap is_ok c.in-Err.is)
    (was_refused c.args.store.now.up c.rise.new.store.refusal c.in-Err.error down (c.rise.ensures.refusal down ∙ ap result_err c.in-Err.is))
