use Rattle.std.proofs.Common.{List, ap, sym, subst, ◌∙◌, append-nil}
use Rattle.sd_turnstile.specs.Seats.{opening_of, number_of, seen_by}
use Rattle.sd_workers.specs.declared.account.Entry.{Entry}
use Rattle.sd_workers.specs.Legal.{Leads, leads_on}
use Rattle.sd_workers.proofs.OneCall.{served}
use Rattle.sd_workers.proofs.hall.Hall.serve.Goals as goal

pub leave-requires-clause-legal : goal.leave-requires-clause-legal
leave-requires-clause-legal g c κs within =
    let d = g.D.Disk in
    let e = c.serve.ensures in
    leads_on d.seen d.may_leave d.faults _ _ _ (seen_by c.enter-server.new.seat) _ c.enter-server.ensures.legal
    (served d.seen d.may_leave d.faults _ _ (number_of c.enter-server.new.seat) c.args.now c.args.packet.now c.in-Ok.replies _ _
    (ap (λ v. d.faults v.store.disk) c.of-before.ensures) (ap (λ v. d.faults v.store.disk) c.of-after.ensures) e.config c.in-Ok.ensures.turns c.in-Ok.ensures.goes e.later c.in-Ok.ensures.faulted c.in-Ok.ensures.counted c.in-Ok.ensures.damaged c.in-Ok.ensures.told)

pub returns-in-Ok-clause-legal : goal.returns-in-Ok-clause-legal
returns-in-Ok-clause-legal g c =
    let d = g.D.Disk in
    let e = c.serve.ensures in (
      c.serve.new.self,
      record {
        legal = subst (λ (l : List Entry). Leads d.seen d.may_leave d.faults (opening_of c.args.self.now.turnstile).server l c.serve.new.self) (sym c.leave.ensures.seen)
            (leads_on d.seen d.may_leave d.faults _ _ _ (seen_by c.enter-server.new.seat) _ c.enter-server.ensures.legal
            (served d.seen d.may_leave d.faults _ _ (number_of c.enter-server.new.seat) c.args.now c.args.packet.now c.in-Ok.replies _ _
            (ap (λ v. d.faults v.store.disk) c.of-before.ensures) (ap (λ v. d.faults v.store.disk) c.of-after.ensures) e.config c.in-Ok.ensures.turns c.in-Ok.ensures.goes e.later c.in-Ok.ensures.faulted c.in-Ok.ensures.counted c.in-Ok.ensures.damaged c.in-Ok.ensures.told));
        mine = c.leave.ensures.mine c.enter-server.ensures.mine;
      },
    )

pub returns-in-Err-clause-legal : goal.returns-in-Err-clause-legal
returns-in-Err-clause-legal g c =
    let d = g.D.Disk in (
      c.enter-server.result.server,
      record {
        legal = subst (λ (l : List Entry). Leads d.seen d.may_leave d.faults (opening_of c.args.self.now.turnstile).server l c.enter-server.result.server)
            (sym (c.leave-in-Err.ensures.seen ∙ append-nil (seen_by c.enter-server.new.seat))) c.enter-server.ensures.legal;
        mine = c.leave-in-Err.ensures.mine c.enter-server.ensures.mine;
      },
    )
