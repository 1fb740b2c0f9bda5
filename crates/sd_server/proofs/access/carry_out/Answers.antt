use Rattle.std.proofs.Common.{◌≡◌, ◌+◌, ◌≤◌, List, ℕ, length, Option, Some, None, sym, ap, subst}
use Rattle.std.specs.Prelude.{slice_index}
use Rattle.sd_server.specs.declared.access.Act.{Act}
use Rattle.sd_server.specs.Access.{Acts, ActLeaves, ActFits, change_by}
use Rattle.sd_server.proofs.Acting.{brought_up, did_read, did_write, leaves_same, either_sized}
use Rattle.sd_server.proofs.access.carry_out.Goals as goal

pub returns-in-Nothing-clause-acts : goal.returns-in-Nothing-clause-acts
returns-in-Nothing-clause-acts g c =
    let e = c.bring_up.ensures in
    subst (λ (a : Act). Acts g.D.Disk.seen g.D.Disk.may_leave (change_by a) c.args.store.now c.bring_up.new.store c.bring_up.result.status) (sym c.in-Nothing.is)
    (brought_up g.D.Disk.seen g.D.Disk.may_leave c.args.store.now c.bring_up.new.store c.bring_up.result e.reason.status e.up e.kept e.files e.durable e.crash e.came_up)

pub returns-in-Nothing-clause-moments : goal.returns-in-Nothing-clause-moments
returns-in-Nothing-clause-moments g c =
    subst (λ (a : Act). ActLeaves g.D.Disk.moment g.D.Disk.seen g.D.Disk.may_leave g.D.Disk.left_since (change_by a) c.args.store.now c.bring_up.new.store) (sym c.in-Nothing.is)
    (leaves_same g.D.Disk.moment g.D.Disk.seen g.D.Disk.may_leave g.D.Disk.left_since c.args.store.now c.bring_up.new.store c.bring_up.ensures.moments)

pub returns-in-Read-clause-acts : goal.returns-in-Read-clause-acts
returns-in-Read-clause-acts g c =
    let e = c.act_read.ensures in
    subst (λ (a : Act). Acts g.D.Disk.seen g.D.Disk.may_leave (change_by a) c.args.store.now c.act_read.new.store c.act_read.result.status) (sym c.in-Read.is)
    (did_read g.D.Disk.seen g.D.Disk.may_leave c.args.store.now c.act_read.new.store c.act_read.result e.reason.status e.up e.came_up e.files e.durable e.crash)

pub returns-in-Read-clause-moments : goal.returns-in-Read-clause-moments
returns-in-Read-clause-moments g c =
    subst (λ (a : Act). ActLeaves g.D.Disk.moment g.D.Disk.seen g.D.Disk.may_leave g.D.Disk.left_since (change_by a) c.args.store.now c.act_read.new.store) (sym c.in-Read.is)
    (leaves_same g.D.Disk.moment g.D.Disk.seen g.D.Disk.may_leave g.D.Disk.left_since c.args.store.now c.act_read.new.store c.act_read.ensures.moments)

pub returns-in-Write-clause-acts : goal.returns-in-Write-clause-acts
returns-in-Write-clause-acts g c =
    let e = c.act_write.ensures in
    subst (λ (a : Act). Acts g.D.Disk.seen g.D.Disk.may_leave (change_by a) c.args.store.now c.act_write.new.store c.act_write.result.status) (sym c.in-Write.is)
    (subst (λ (bs : List ℕ). Acts g.D.Disk.seen g.D.Disk.may_leave (Some (record { file = 0; at = c.in-Write.at; bytes = bs })) c.args.store.now c.act_write.new.store c.act_write.result.status) c.as_slice.ensures
    (did_write g.D.Disk.seen g.D.Disk.may_leave c.args.store.now c.act_write.new.store c.act_write.result c.in-Write.at c.as_slice.result.now e.reason.status e.up e.written e.durable e.files e.apart e.came_up))

pub returns-in-Write-clause-moments : goal.returns-in-Write-clause-moments
returns-in-Write-clause-moments g c =
    subst (λ (a : Act). ActLeaves g.D.Disk.moment g.D.Disk.seen g.D.Disk.may_leave g.D.Disk.left_since (change_by a) c.args.store.now c.act_write.new.store) (sym c.in-Write.is)
    (subst (λ (bs : List ℕ). ActLeaves g.D.Disk.moment g.D.Disk.seen g.D.Disk.may_leave g.D.Disk.left_since (Some (record { file = 0; at = c.in-Write.at; bytes = bs })) c.args.store.now c.act_write.new.store) c.as_slice.ensures
    c.act_write.ensures.moments)

pub returns-in-Write-clause-sized : goal.returns-in-Write-clause-sized
returns-in-Write-clause-sized g c =
    let fits = subst (λ (a : Act). ActFits c.args.store.now.sizes a) c.in-Write.is c.requires in
    either_sized c.args.store.now.sizes c.in-Write.at c.as_slice.result.now (Rattle.sd_stable_disk.specs.Files.files g.D.Disk.seen c.args.store.now) (Rattle.sd_stable_disk.specs.Files.files g.D.Disk.seen c.act_write.new.store)
    (subst (λ (bs : List ℕ). c.in-Write.at + length bs ≤ slice_index c.args.store.now.sizes 0) (sym c.as_slice.ensures) fits.1) c.act_write.ensures.files
