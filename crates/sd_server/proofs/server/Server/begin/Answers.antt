use Rattle.std.proofs.Common.{◌≡◌, refl, sym, subst}
use Rattle.sd_server.specs.State.{State}
use Rattle.sd_server.specs.Standing.{ServerView, MayBe}
use Rattle.sd_server.proofs.Accesses.{stays_same}
use Rattle.sd_server.proofs.server.Server.begin.Goals as goal

pub returns-clause-stays : goal.returns-clause-stays
returns-clause-stays g c = λ s may.
    let i = c.self.inside in
    let e = c.begin.ensures in
    let old : ServerView g.row.D.Denot = record { config = i.desk.config; volatile = i.desk.volatile; store = i.store } in
    let new : ServerView g.row.D.Denot = record { config = i.desk.config; volatile = i.desk.volatile; store = c.begin.new.self } in
    stays_same g.D.Disk.seen g.D.Disk.may_leave old new s refl refl e.up e.files (λ left held. (e.crash left).0 held)
    (subst (λ (v : ServerView g.row.D.Denot). MayBe g.D.Disk.seen g.D.Disk.may_leave v s) (sym c.self.view_is) may)
