use Rattle.std.proofs.Common.{◌≡◌, refl, sym, ap, ◌∙◌, subst}
use Rattle.std.specs.List.{flat_map}
use Rattle.sd_server.specs.Ticks.{after_tick}
use Rattle.sd_server.specs.Standing.{ServerView, Ticks}
use Rattle.sd_server.proofs.Standings.{tick_turn}
use Rattle.sd_server.proofs.server.Server.tick.Goals as goal

pub returns-clause-ticks : goal.returns-clause-ticks
returns-clause-ticks g c = λ s may.
    let old = c.args.self.now in
    let e = c.in_ok-packets.ensures in
    subst (λ (v : ServerView g.row.D.Denot). Ticks g.D.Disk.seen g.D.Disk.may_leave c.args.now old c.in_ok-packets.packets v s) (sym e.ok)
    (tick_turn g.D.Disk.seen g.D.Disk.may_leave old.config c.args.now old.volatile old.store s c.in_ok-packets.packets e.packets may)
