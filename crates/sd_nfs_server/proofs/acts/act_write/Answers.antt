use Rattle.std.proofs.Common.{◌≡◌, ◌⊎◌, inr, ap, sym, subst, ◌∙◌, Bool}
use Rattle.std.proofs.lemmas.Bool.{false≢true}
use Rattle.std.specs.Result.{is_err, result_err}
use Rattle.std.specs.Prelude.{None, IsOk}
use Rattle.sd_outside.proofs.MakesLaws.{plan_then}
use Rattle.sd_stable_disk.specs.Files.{files, may_hold, held_since, IsEither}
use Rattle.sd_nfs_server.specs.Acts.{IsFault, LeavesOneDoubt}
use Rattle.sd_nfs_server.specs.declared.acts.Acted.{Acted}
use Rattle.sd_nfs_server.proofs.Storing.{leaves_then, leaves_weaker, kept_or, down_where, none_damaged, place_damaged, not_refused, was_refused}
use Rattle.sd_nfs_server.proofs.acts.act_write.Goals as goal

pub returns-in-Ok-write-clause-crash : goal.returns-in-Ok-write-clause-crash
returns-in-Ok-write-clause-crash g c = λ left held. inr (subst (λ old. IsEither 0 c.args.at c.args.bytes.now old left) c.rise.ensures.files (c.write.ensures.crash left held))

pub returns-in-Ok-write-clause-moments : goal.returns-in-Ok-write-clause-moments
returns-in-Ok-write-clause-moments g c =
    let seen = g.D.Disk.seen in
    let old = c.args.store.now in
    let at = c.args.at in
    let bytes = c.args.bytes.now in
    leaves_then (λ store. g.D.Disk.moment store.disk) (held_since g.D.Disk.left_since) old c.rise.new.store c.write.new.self
    (λ left. may_hold g.D.Disk.may_leave old left ⊎ IsEither 0 at bytes (files seen old) left) (IsEither 0 at bytes (files seen c.rise.new.store))
    (λ left which. inr (subst (λ files_then. IsEither 0 at bytes files_then left) c.rise.ensures.files which))
    (leaves_weaker (λ store. g.D.Disk.moment store.disk) (held_since g.D.Disk.left_since) old c.rise.new.store
    (λ left. may_hold g.D.Disk.may_leave old left ⊎ IsEither 0 at bytes (files seen old) left) (λ left. may_hold g.D.Disk.may_leave old left ⊎ (left ≡ files seen old))
    (λ left. kept_or 0 at bytes (may_hold g.D.Disk.may_leave old left) (files seen old) left) c.rise.ensures.moments)
    c.write.ensures.moments

pub returns-in-Ok-write-clause-plan : goal.returns-in-Ok-write-clause-plan
returns-in-Ok-write-clause-plan g c =
    let p = g.D.Disk.plan in
    plan_then (p c.args.store.now.disk) (p c.rise.new.store.disk) (p c.write.new.self.disk) 5 3 8 0 _ _ (IsFault (record { status = 0; damaged = None }))
    (λ fault. absurd (cc fault.status)) c.rise.ensures.plan c.write.ensures.plan

pub returns-in-Err-DiskFault-clause-crash : goal.returns-in-Err-DiskFault-clause-crash
returns-in-Err-DiskFault-clause-crash g c = λ left held. inr (subst (λ old. IsEither 0 c.args.at c.args.bytes.now old left) c.rise.ensures.files (c.write.ensures.crash left held))

pub returns-in-Err-DiskFault-clause-moments : goal.returns-in-Err-DiskFault-clause-moments
returns-in-Err-DiskFault-clause-moments g c =
    let seen = g.D.Disk.seen in
    let old = c.args.store.now in
    let at = c.args.at in
    let bytes = c.args.bytes.now in
    leaves_then (λ store. g.D.Disk.moment store.disk) (held_since g.D.Disk.left_since) old c.rise.new.store c.write.new.self
    (λ left. may_hold g.D.Disk.may_leave old left ⊎ IsEither 0 at bytes (files seen old) left) (IsEither 0 at bytes (files seen c.rise.new.store))
    (λ left which. inr (subst (λ files_then. IsEither 0 at bytes files_then left) c.rise.ensures.files which))
    (leaves_weaker (λ store. g.D.Disk.moment store.disk) (held_since g.D.Disk.left_since) old c.rise.new.store
    (λ left. may_hold g.D.Disk.may_leave old left ⊎ IsEither 0 at bytes (files seen old) left) (λ left. may_hold g.D.Disk.may_leave old left ⊎ (left ≡ files seen old))
    (λ left. kept_or 0 at bytes (may_hold g.D.Disk.may_leave old left) (files seen old) left) c.rise.ensures.moments)
    c.write.ensures.moments

pub returns-in-Err-DiskFault-clause-plan : goal.returns-in-Err-DiskFault-clause-plan
returns-in-Err-DiskFault-clause-plan g c =
    let p = g.D.Disk.plan in
    plan_then (p c.args.store.now.disk) (p c.rise.new.store.disk) (p c.write.new.self.disk) 5 3 8 0 _ _ (IsFault (record { status = 5; damaged = None }))
    (λ fault. ap is_err c.in-Err-DiskFault.is) c.rise.ensures.plan c.write.ensures.plan

pub returns-in-Err-clause-crash : goal.returns-in-Err-clause-crash
returns-in-Err-clause-crash g c = λ left held.
    let old = c.args.store.now in
    kept_or 0 c.args.at c.args.bytes.now (may_hold g.D.Disk.may_leave old left) (files g.D.Disk.seen old) left (c.rise.ensures.crash left held)

pub returns-in-Err-clause-moments : goal.returns-in-Err-clause-moments
returns-in-Err-clause-moments g c =
    let seen = g.D.Disk.seen in
    let old = c.args.store.now in
    let at = c.args.at in
    let bytes = c.args.bytes.now in
    leaves_weaker (λ store. g.D.Disk.moment store.disk) (held_since g.D.Disk.left_since) old c.rise.new.store
    (λ left. may_hold g.D.Disk.may_leave old left ⊎ IsEither 0 at bytes (files seen old) left) (λ left. may_hold g.D.Disk.may_leave old left ⊎ (left ≡ files seen old))
    (λ left. kept_or 0 at bytes (may_hold g.D.Disk.may_leave old left) (files seen old) left) c.rise.ensures.moments

pub returns-in-Err-DiskFault-clause-apart : goal.returns-in-Err-DiskFault-clause-apart
returns-in-Err-DiskFault-clause-apart g c = λ failed.
    let no_refusal = not_refused c.args.store.now.up c.write.new.self.refusal (λ down. c.write.ensures.refusal ∙ c.rise.ensures.refusal down ∙ ap result_err c.in-Ok.is) in
    subst (λ (b : Bool). LeavesOneDoubt g.D.Disk.seen g.D.Disk.may_leave 0 c.args.at c.args.bytes.now c.args.store.now c.write.new.self b) (sym no_refusal)
    (λ left held. subst (λ old. IsEither 0 c.args.at c.args.bytes.now old left) c.rise.ensures.files (c.write.ensures.crash left held))

pub returns-in-Err-clause-apart : goal.returns-in-Err-clause-apart
returns-in-Err-clause-apart g c = λ failed.
    let down = down_where c.args.store.now.up (λ up. false≢true (subst IsOk c.in-Err.is (c.rise.ensures.kept up).1)) in
    let refused = was_refused c.args.store.now.up c.rise.new.store.refusal c.in-Err.error down (c.rise.ensures.refusal down ∙ ap result_err c.in-Err.is) in
    subst (λ (b : Bool). LeavesOneDoubt g.D.Disk.seen g.D.Disk.may_leave 0 c.args.at c.args.bytes.now c.args.store.now c.rise.new.store b) (sym refused)
    (down, c.rise.ensures.files, c.rise.ensures.crash)

pub returns-in-Ok-write-clause-came_up : goal.returns-in-Ok-write-clause-came_up
returns-in-Ok-write-clause-came_up g c = λ done. not_refused c.args.store.now.up c.write.new.self.refusal (λ down. c.write.ensures.refusal ∙ c.rise.ensures.refusal down ∙ ap result_err c.in-Ok.is)

pub returns-in-Ok-write-clause-damaged : goal.returns-in-Ok-write-clause-damaged
returns-in-Ok-write-clause-damaged g c = none_damaged _ _ (λ down. c.write.ensures.refusal ∙ c.rise.ensures.refusal down ∙ ap result_err c.in-Ok.is)

pub returns-in-Err-DiskFault-clause-damaged : goal.returns-in-Err-DiskFault-clause-damaged
returns-in-Err-DiskFault-clause-damaged g c = none_damaged _ _ (λ down. c.write.ensures.refusal ∙ c.rise.ensures.refusal down ∙ ap result_err c.in-Ok.is)

pub returns-in-Err-clause-damaged : goal.returns-in-Err-clause-damaged
returns-in-Err-clause-damaged g c =
    let down = down_where c.args.store.now.up (λ up. false≢true (subst IsOk c.in-Err.is (c.rise.ensures.kept up).1)) in
    ap (λ (a : Acted). a.damaged) c.refused.ensures ∙ place_damaged _ _ _ down (c.rise.ensures.refusal down ∙ ap result_err c.in-Err.is)
