use Rattle.std.proofs.Common.{◌≡◌, List, [], ◌∷◌, sym, ap, ◌∙◌, subst}
use Rattle.sd_outside.specs.declared.packet.Packet.{Packet}
use Rattle.sd_config.specs.declared.config.Config.{Config}
use Rattle.sd_server.specs.Access.{sizes_of, ActFits, datagram}
use Rattle.sd_server.specs.Standing.{ServerView, Accessed}
use Rattle.sd_server.proofs.Accesses.{accessed_so}
use Rattle.sd_server.proofs.server.Server.access.Goals as goal

pub returns-clause-accessed : goal.returns-clause-accessed
returns-clause-accessed g c =
    let i = c.self.inside in
    let e = c.carry_out-acted.ensures in
    let range : ActFits (sizes_of i.desk.config) c.args.access.act = subst (λ (v : ServerView g.row.D.Denot). ActFits (sizes_of v.config) c.args.access.act) (sym c.self.view_is) c.requires.range in
    subst (λ (v : ServerView g.row.D.Denot). Accessed g.D.Disk.seen g.D.Disk.may_leave v.config c.args.access v.store c.carry_out-acted.new.store c.in_room.result c.is_fault.result c.carry_out-acted.result.damaged) c.self.view_is
    (accessed_so g.D.Disk.seen g.D.Disk.may_leave i.desk.config c.args.access i.store c.carry_out-acted.new.store c.carry_out-acted.new.act c.carry_out-acted.result
    (g.D.Disk.faults i.store.disk) (g.D.Disk.faults c.carry_out-acted.new.store.disk) c.body_of-body.result c.in_room.result c.is_fault.result
    e.acts e.read e.shape e.reason e.damaged range c.body_of-body.ensures
    (c.in_room.ensures ∙ ap (λ (k : Config). datagram k c.args.access.to c.body_of-body.result ∷ []) c.config.ensures.same) c.is_fault.ensures)
