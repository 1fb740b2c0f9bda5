use Rattle.std.proofs.Common.{◌≡◌, List, sym, subst}
use Rattle.std.specs.Prelude.{◌==◌, not}
use Rattle.std.specs.List.{AllByRecursion}
use Rattle.sd_mount.specs.Tables.{Mount, is_mount}
use Rattle.sd_server.specs.Mounting.{MountHasRoom}
use Rattle.sd_server.proofs.Numbering.{all-filter}
use Rattle.sd_server.proofs.desk.Desk.remove_mounts.Goals as goal

pub invariant_of-self : goal.invariant_of-self
invariant_of-self c = record {
  sessions_are = c.self.invariant.sessions_are;
  room = subst (λ (l : List Mount). AllByRecursion MountHasRoom l) (sym c.remove_all.ensures) (all-filter MountHasRoom (λ m. not (m.0 == c.args.host)) c.self.inside.mounts c.self.invariant.room);
}
