use Rattle.std.proofs.Common.{◌≡◌, ℕ, List, Option, refl, sym, subst}
use Rattle.std.specs.Prelude.{◌↔◌}
use Rattle.sd_stable_disk.specs.Files.{held_since}
use Rattle.sd_server.specs.State.{State}
use Rattle.sd_server.specs.Standing.{ServerView, MayBe}
use Rattle.sd_server.proofs.Accesses.{stays_same}
use Rattle.sd_server.proofs.server.Server.stop_after.Goals as goal

pub returns-clause-stays : goal.returns-clause-stays
returns-clause-stays g c = λ s may.
    let i = c.self.inside in
    let e = c.stop_after.ensures in
    let old : ServerView g.row.D.Denot = record { config = i.desk.config; volatile = i.desk.volatile; store = i.store } in
    let new : ServerView g.row.D.Denot = record { config = i.desk.config; volatile = i.desk.volatile; store = c.stop_after.new.self } in
    stays_same g.D.Disk.seen g.D.Disk.may_leave old new s refl refl e.up e.files (λ left held. (e.crash left).0 held)
    (subst (λ (v : ServerView g.row.D.Denot). MayBe g.D.Disk.seen g.D.Disk.may_leave v s) (sym c.self.view_is) may)

pub returns-clause-time : goal.returns-clause-time
returns-clause-time g c =
    subst (λ (v : ServerView g.row.D.Denot). (since : ℕ) (left : Option (List (List ℕ))) → held_since g.D.Disk.left_since c.stop_after.new.self since left ↔ held_since g.D.Disk.left_since v.store since left) c.self.view_is c.stop_after.ensures.time
