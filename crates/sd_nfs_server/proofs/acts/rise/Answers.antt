use Rattle.std.proofs.Common.{◌≡◌, arith}
use Rattle.std.specs.Prelude.{Result, Ok, Err}
use Rattle.sd_outside.proofs.MakesLaws.{plan_none, plan_fewer}
use Rattle.sd_stable_disk.specs.declared.errors.OpenError.{OpenError}
use Rattle.sd_stable_disk.specs.declared.errors.OpenError.TheVariants.{DiskFault}
use Rattle.sd_nfs_server.proofs.acts.rise.Goals as goal

pub returns-then-is_up-clause-plan : goal.returns-then-is_up-clause-plan
returns-then-is_up-clause-plan g c =
    let p = g.D.Disk.plan c.args.store.now.disk in
    let done : Result (Unit {0}) OpenError = Ok tt in
    let F = done ≡ Err DiskFault in
    plan_fewer p p p 0 0 5 3 F F (omega arith) (omega arith) (λ fails. fails) (plan_none F (λ fails. absurd (cc fails)) p)
