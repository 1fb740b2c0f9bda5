use Rattle.std.proofs.Common.{◌≡◌, sym, ◌∙◌, subst, arith, rules}
use Rattle.std.proofs.lemmas.Grind.{common_steps}
use Rattle.std.specs.Prelude.{Result, Ok, Err, IsErr, Vec, ℕ}
use Rattle.std.specs.declared.alloc.Global.{Global}
use Rattle.sd_outside.specs.DiskPlan.{Both, Makes}
use Rattle.sd_outside.proofs.MakesLaws.{plan_one, plan_fewer, plan_then, is_an_err}
use Rattle.sd_stable_disk.specs.declared.errors.OpenError.{OpenError}
use Rattle.sd_stable_disk.specs.declared.errors.OpenError.TheVariants.{DiskFault}
use Rattle.sd_stable_disk.proofs.StoreLaws.{refused_short}
use Rattle.sd_stable_disk.proofs.opening.load.Goals as goal

pub returns-then-size-lt-HOMES-clause-refused : goal.returns-then-size-lt-HOMES-clause-refused
returns-then-size-lt-HOMES-clause-refused g c =
    refused_short (g.D.Disk.seen c.args.disk.now) c.in_ok-size.size (λ image is. g.met.D.Disk.is_whole c.args.disk.now image is ∙ sym c.sync.ensures.size ∙ sym c.in_ok-size.ensures.len) c.if-size-lt-HOMES.true

pub returns-in_err-read-clause-plan : goal.returns-in_err-read-clause-plan
returns-in_err-read-clause-plan g c =
    let p = g.D.Disk.plan in
    let p0 = p c.args.disk.now in
    let p1 = p c.sync.new.self in
    let p2 = p c.len.new.self in
    let r1 = plan_one p0 p1 p1 1 0 ⊥ _ (λ long. long) c.sync.ensures.plan in
    let r2 = subst (λ x. Both (Makes 1 0 (IsErr c.sync.result)) p0 x) (sym c.len.ensures.plan) r1 in
    let p3 = p c.read.new.self in
    let r3 = plan_one p2 p3 p3 0 1 ⊥ _ (λ long. long) c.read.ensures.plan in
    let F = c.from_residual-in_err-read.result ≡ Err DiskFault in
    plan_fewer p0 p3 p3 1 1 5 4 F F (omega arith) (omega arith) (λ fails. fails) (plan_then p0 p2 p3 1 0 0 1 _ _ F (λ fails. is_an_err _ _ c.in_err-read.was) r2 r3)

pub returns-in_err-sizes-clause-plan : goal.returns-in_err-sizes-clause-plan
returns-in_err-sizes-clause-plan g c =
    let p = g.D.Disk.plan in
    let p0 = p c.args.disk.now in
    let p1 = p c.sync.new.self in
    let p2 = p c.len.new.self in
    let r1 = plan_one p0 p1 p1 1 0 ⊥ _ (λ long. long) c.sync.ensures.plan in
    let r2 = subst (λ x. Both (Makes 1 0 (IsErr c.sync.result)) p0 x) (sym c.len.ensures.plan) r1 in
    let p3 = p c.read.new.self in
    let r3 = plan_one p2 p3 p3 0 1 ⊥ _ (λ long. long) c.read.ensures.plan in
    let F = c.from_residual-in_err-sizes.result ≡ Err DiskFault in
    let never : F → ⊥ = λ fails. first_of (grind (arith, common_steps), search rules) in
    plan_fewer p0 p3 p3 1 1 5 4 F F (omega arith) (omega arith) (λ fails. fails) (plan_then p0 p2 p3 1 0 0 1 _ _ F (λ fails. absurd (never fails)) r2 r3)

pub returns-in_err-settle_journal-clause-plan : goal.returns-in_err-settle_journal-clause-plan
returns-in_err-settle_journal-clause-plan g c =
    let p = g.D.Disk.plan in
    let p0 = p c.args.disk.now in
    let p1 = p c.sync.new.self in
    let p2 = p c.len.new.self in
    let r1 = plan_one p0 p1 p1 1 0 ⊥ _ (λ long. long) c.sync.ensures.plan in
    let r2 = subst (λ x. Both (Makes 1 0 (IsErr c.sync.result)) p0 x) (sym c.len.ensures.plan) r1 in
    let p3 = p c.read.new.self in
    let r3 = plan_one p2 p3 p3 0 1 ⊥ _ (λ long. long) c.read.ensures.plan in
    let p4 = p c.settle_journal.new.disk in
    let F = c.from_residual-in_err-settle_journal.result ≡ Err DiskFault in
    let why : F → c.settle_journal.result ≡ Err DiskFault = λ fails. first_of (grind (arith, common_steps), search rules) in
    plan_then p0 p3 p4 1 1 4 3 _ _ F why (plan_then p0 p2 p3 1 0 0 1 _ _ ⊥ (λ fails. absurd fails) r2 r3) c.settle_journal.ensures.plan

pub returns-clause-plan : goal.returns-clause-plan
returns-clause-plan g c =
    let p = g.D.Disk.plan in
    let p0 = p c.args.disk.now in
    let p1 = p c.sync.new.self in
    let p2 = p c.len.new.self in
    let r1 = plan_one p0 p1 p1 1 0 ⊥ _ (λ long. long) c.sync.ensures.plan in
    let r2 = subst (λ x. Both (Makes 1 0 (IsErr c.sync.result)) p0 x) (sym c.len.ensures.plan) r1 in
    let p3 = p c.read.new.self in
    let r3 = plan_one p2 p3 p3 0 1 ⊥ _ (λ long. long) c.read.ensures.plan in
    let p4 = p c.settle_journal.new.disk in
    let done : Result (Vec ℕ Global) OpenError = Ok c.in_ok-sizes.sizes in
    let F = done ≡ Err DiskFault in
    plan_then p0 p3 p4 1 1 4 3 _ _ F (λ fails. absurd (cc fails)) (plan_then p0 p2 p3 1 0 0 1 _ _ ⊥ (λ fails. absurd fails) r2 r3) c.settle_journal.ensures.plan
