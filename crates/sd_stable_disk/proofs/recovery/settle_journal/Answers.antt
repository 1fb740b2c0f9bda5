use Rattle.std.proofs.Common.{◌≡◌, ◌+◌, ◌-◌, ◌≤◌, ℕ, List, length, get_or, take, drop, sym, ◌∙◌, ap, subst, arith, length-take, length-drop}
use Rattle.std.proofs.Common.{rules}
use Rattle.std.proofs.lemmas.Grind.{common_steps}
use Rattle.std.specs.Prelude.{IfSome, Result, Ok, Err}
use Rattle.std.specs.Option.{option_map}
use Rattle.sd_outside.specs.Ranges.{part}
use Rattle.sd_outside.specs.Disk.{LeavesOnly}
use Rattle.sd_outside.specs.DiskPlan.{Both}
use Rattle.sd_outside.proofs.MakesLaws.{plan_one, plan_fewer, plan_then, is_an_err}
use Rattle.sd_stable_disk.specs.Image.{opens, home_of}
use Rattle.sd_stable_disk.specs.Run.{MidWrite, Midway, gated}
use Rattle.sd_stable_disk.specs.Files.{OpensAs, IsShut}
use Rattle.sd_stable_disk.specs.declared.errors.OpenError.{OpenError}
use Rattle.sd_stable_disk.specs.declared.errors.OpenError.TheVariants.{DiskFault}
use Rattle.sd_stable_disk.proofs.CrashLaws.{Waits}
use Rattle.sd_stable_disk.proofs.HeadLaws.{rounded_more, home_of_after, home_of_fits}
use Rattle.sd_stable_disk.proofs.StoreLaws.{leaves_then, leaves_none, leaves_step, waits_read, shut_read, home_seen, home_crash, home_whole, rest_shut, rest_told, opens_same}
use Rattle.sd_stable_disk.proofs.recovery.settle_journal.Goals as goal

pub returns-then-gate-ne1-clause-shut : goal.returns-then-gate-ne1-clause-shut
returns-then-gate-ne1-clause-shut g c =
    subst IsShut (sym c.read.ensures.seen) (shut_read (g.D.Disk.seen c.args.disk.now) c.read.new.into c.in_ok-read.ensures.read c.if-gate-ne1.true)

pub returns-in_err-read-2-clause-plan : goal.returns-in_err-read-2-clause-plan
returns-in_err-read-2-clause-plan g c =
    let p = g.D.Disk.plan in
    let p0 = p c.args.disk.now in
    let p1 = p c.read.new.self in
    let r1 = plan_one p0 p1 p1 0 1 ⊥ _ (λ long. long) c.read.ensures.plan in
    let p2 = p c.read-2.new.self in
    let r2 = plan_one p1 p2 p2 0 1 ⊥ _ (λ long. long) c.read-2.ensures.plan in
    let F = c.from_residual-in_err-read-2.result ≡ Err DiskFault in
    plan_fewer p0 p2 p2 0 2 4 3 F F (omega arith) (omega arith) (λ fails. fails) (plan_then p0 p1 p2 0 1 0 1 _ _ F (λ fails. is_an_err _ _ c.in_err-read-2.was) r1 r2)

pub returns-in_err-entry-clause-plan : goal.returns-in_err-entry-clause-plan
returns-in_err-entry-clause-plan g c =
    let p = g.D.Disk.plan in
    let p0 = p c.args.disk.now in
    let p1 = p c.read.new.self in
    let r1 = plan_one p0 p1 p1 0 1 ⊥ _ (λ long. long) c.read.ensures.plan in
    let p2 = p c.read-2.new.self in
    let r2 = plan_one p1 p2 p2 0 1 ⊥ _ (λ long. long) c.read-2.ensures.plan in
    let F = c.from_residual-in_err-entry.result ≡ Err DiskFault in
    let never : F → ⊥ = λ fails. first_of (grind (arith, common_steps), search rules) in
    plan_fewer p0 p2 p2 0 2 4 3 F F (omega arith) (omega arith) (λ fails. fails) (plan_then p0 p1 p2 0 1 0 1 _ _ F (λ fails. absurd (never fails)) r1 r2)

pub returns-in_err-read-3-clause-plan : goal.returns-in_err-read-3-clause-plan
returns-in_err-read-3-clause-plan g c =
    let p = g.D.Disk.plan in
    let p0 = p c.args.disk.now in
    let p1 = p c.read.new.self in
    let r1 = plan_one p0 p1 p1 0 1 ⊥ _ (λ long. long) c.read.ensures.plan in
    let p2 = p c.read-2.new.self in
    let r2 = plan_one p1 p2 p2 0 1 ⊥ _ (λ long. long) c.read-2.ensures.plan in
    let p3 = p c.read-3.new.self in
    let r3 = plan_one p2 p3 p3 0 1 ⊥ _ (λ long. long) c.read-3.ensures.plan in
    let F = c.from_residual-in_err-read-3.result ≡ Err DiskFault in
    plan_fewer p0 p3 p3 0 3 4 3 F F (omega arith) (omega arith) (λ fails. fails) (plan_then p0 p2 p3 0 2 0 1 _ _ F (λ fails. is_an_err _ _ c.in_err-read-3.was) (plan_then p0 p1 p2 0 1 0 1 _ _ ⊥ (λ fails. absurd fails) r1 r2) r3)

pub overflow_add-bytes : goal.overflow_add-bytes
overflow_add-bytes g c =
    omega (arith, c.in_ok-entry.ensures.fits.short)

pub slice_bounds-bytes-end : goal.slice_bounds-bytes-end
slice_bounds-bytes-end g c =
    omega (arith, c.in_ok-entry.ensures.fits.short, ap length c.deref_mut.ensures.value, c.requires.room)

pub read-requires-3 : goal.read-requires-3
read-requires-3 g c =
    let seen = g.D.Disk.seen in
    let d0 = c.args.disk.now in
    let sizes = c.args.sizes.now in
    let entry = c.in_ok-entry.entry in
    let fits = c.in_ok-entry.ensures.fits in
    let file = entry.file in
    let at = entry.at in
    let buffer = c.deref_mut.result.now in
    let arg = take ((64 + entry.len) - 64) (drop 64 buffer) in
    let long : length buffer ≡ 8256 = ap length c.deref_mut.ensures.value ∙ c.requires.room in
    let arg_size : length arg ≡ entry.len = omega (arith, length-take ((64 + entry.len) - 64) (drop 64 buffer), length-drop 64 buffer, long, fits.short) in
    omega (arith, arg_size, fits.short, c.read.ensures.size, c.read-2.ensures.size, c.requires.whole)

pub overflow_add-home_place : goal.overflow_add-home_place
overflow_add-home_place g c =
    let seen = g.D.Disk.seen in
    let d0 = c.args.disk.now in
    let sizes = c.args.sizes.now in
    let entry = c.in_ok-entry.entry in
    let fits = c.in_ok-entry.ensures.fits in
    let file = entry.file in
    let at = entry.at in
    let buffer = c.deref_mut.result.now in
    let arg = take ((64 + entry.len) - 64) (drop 64 buffer) in
    let long : length buffer ≡ 8256 = ap length c.deref_mut.ensures.value ∙ c.requires.room in
    let arg_size : length arg ≡ entry.len = omega (arith, length-take ((64 + entry.len) - 64) (drop 64 buffer), length-drop 64 buffer, long, fits.short) in
    omega (arith, c.home_place.ensures, fits.inside, c.requires.fit.room, rounded_more (get_or sizes file 0), home_of_fits 16384 sizes file fits.file)

pub home-requires-clause-fits : goal.home-requires-clause-fits
home-requires-clause-fits g c =
    let seen = g.D.Disk.seen in
    let d0 = c.args.disk.now in
    let sizes = c.args.sizes.now in
    let entry = c.in_ok-entry.entry in
    let fits = c.in_ok-entry.ensures.fits in
    let file = entry.file in
    let at = entry.at in
    let buffer = c.deref_mut.result.now in
    let arg = take ((64 + entry.len) - 64) (drop 64 buffer) in
    let long : length buffer ≡ 8256 = ap length c.deref_mut.ensures.value ∙ c.requires.room in
    let arg_size : length arg ≡ entry.len = omega (arith, length-take ((64 + entry.len) - 64) (drop 64 buffer), length-drop 64 buffer, long, fits.short) in
    let bytes = c.read-3.new.into in
    let size : length bytes ≡ entry.len = omega (arith, c.read-3.auto.into, arg_size) in
    let inside : at + length bytes ≤ get_or sizes file 0 = omega (arith, fits.inside, size) in
    let place : c.home_place.result + at ≡ home_of 16384 sizes file + at = (λ i. c.home_place.ensures i + at) in
    omega (arith, place, inside, c.requires.whole, c.read.ensures.size, c.read-2.ensures.size, c.read-3.ensures.size, rounded_more (get_or sizes file 0), home_of_fits 16384 sizes file fits.file)

pub home-requires-clause-far : goal.home-requires-clause-far
home-requires-clause-far g c =
    let seen = g.D.Disk.seen in
    let d0 = c.args.disk.now in
    let sizes = c.args.sizes.now in
    let entry = c.in_ok-entry.entry in
    let fits = c.in_ok-entry.ensures.fits in
    let file = entry.file in
    let at = entry.at in
    let buffer = c.deref_mut.result.now in
    let arg = take ((64 + entry.len) - 64) (drop 64 buffer) in
    let long : length buffer ≡ 8256 = ap length c.deref_mut.ensures.value ∙ c.requires.room in
    let arg_size : length arg ≡ entry.len = omega (arith, length-take ((64 + entry.len) - 64) (drop 64 buffer), length-drop 64 buffer, long, fits.short) in
    let place : c.home_place.result + at ≡ home_of 16384 sizes file + at = (λ i. c.home_place.ensures i + at) in
    omega (arith, place, home_of_after 16384 sizes file)

pub home-requires-clause-short : goal.home-requires-clause-short
home-requires-clause-short g c =
    let seen = g.D.Disk.seen in
    let d0 = c.args.disk.now in
    let sizes = c.args.sizes.now in
    let entry = c.in_ok-entry.entry in
    let fits = c.in_ok-entry.ensures.fits in
    let file = entry.file in
    let at = entry.at in
    let buffer = c.deref_mut.result.now in
    let arg = take ((64 + entry.len) - 64) (drop 64 buffer) in
    let long : length buffer ≡ 8256 = ap length c.deref_mut.ensures.value ∙ c.requires.room in
    let arg_size : length arg ≡ entry.len = omega (arith, length-take ((64 + entry.len) - 64) (drop 64 buffer), length-drop 64 buffer, long, fits.short) in
    let bytes = c.read-3.new.into in
    let size : length bytes ≡ entry.len = omega (arith, c.read-3.auto.into, arg_size) in
    let inside : at + length bytes ≤ get_or sizes file 0 = omega (arith, fits.inside, size) in
    omega (arith, size, fits.short)

pub returns-in_err-home-clause-same : goal.returns-in_err-home-clause-same
returns-in_err-home-clause-same g c =
    let seen = g.D.Disk.seen in
    let d0 = c.args.disk.now in
    let sizes = c.args.sizes.now in
    let entry = c.in_ok-entry.entry in
    let fits = c.in_ok-entry.ensures.fits in
    let file = entry.file in
    let at = entry.at in
    let buffer = c.deref_mut.result.now in
    let arg = take ((64 + entry.len) - 64) (drop 64 buffer) in
    let long : length buffer ≡ 8256 = ap length c.deref_mut.ensures.value ∙ c.requires.room in
    let arg_size : length arg ≡ entry.len = omega (arith, length-take ((64 + entry.len) - 64) (drop 64 buffer), length-drop 64 buffer, long, fits.short) in
    let bytes = c.read-3.new.into in
    let size : length bytes ≡ entry.len = omega (arith, c.read-3.auto.into, arg_size) in
    let inside : at + length bytes ≤ get_or sizes file 0 = omega (arith, fits.inside, size) in
    let place : c.home_place.result + at ≡ home_of 16384 sizes file + at = (λ i. c.home_place.ensures i + at) in
    let short : length bytes ≤ 8192 = omega (arith, fits.short, size) in
    let below = fits.file in
    let o = seen d0 in
    let p = seen c.read-3.new.self in
    let q = seen c.home.new.disk in
    let same : p ≡ o = c.read-3.ensures.seen ∙ c.read-2.ensures.seen ∙ c.read.ensures.seen in
    let head_read = subst (λ s. IfSome s (λ image. c.read-2.new.into ≡ part 1024 16 image)) c.read.ensures.seen c.in_ok-read-2.ensures.read in
    let bytes_read = subst (λ s. IfSome s (λ image. bytes ≡ part 1088 (length arg) image)) (c.read-2.ensures.seen ∙ c.read.ensures.seen) c.in_ok-read-3.ensures.read in
    let waits_first = waits_read o sizes c.read.new.into c.read-2.new.into bytes file at entry.len (length arg) c.requires.told c.in_ok-read.ensures.read c.if-gate-ne1.false head_read (sym c.in_ok-entry.ensures.told) bytes_read size arg_size
    (λ image is. g.met.D.Disk.is_whole d0 image is ∙ c.requires.whole) in
    let waits = subst (λ s. IfSome s (Waits sizes file at bytes)) (sym same) waits_first in
    let hboth = subst (λ (h : ℕ). Both (MidWrite h bytes) p q) place c.home.ensures.seen in
    let hcrash = subst (λ (h : ℕ). (image : List ℕ) → g.D.Disk.may_leave c.home.new.disk image → Midway h bytes p image) place c.home.ensures.crash in
    let hmoments = subst (λ (h : ℕ). LeavesOnly g.D.Disk.moment g.D.Disk.left_since c.read-3.new.self c.home.new.disk (Midway h bytes p)) place c.home.ensures.moments in
    let after : (image : List ℕ) → Midway (home_of 16384 sizes file + at) bytes p image → OpensAs o image = λ image midway. subst (λ s. OpensAs s image) same (home_crash sizes file at bytes below inside short p image waits midway) in
    let home = home_seen sizes file at bytes below inside short p q waits hboth in
    home.2 ∙ ap (option_map opens) same

pub returns-in_err-home-clause-told : goal.returns-in_err-home-clause-told
returns-in_err-home-clause-told g c =
    let seen = g.D.Disk.seen in
    let d0 = c.args.disk.now in
    let sizes = c.args.sizes.now in
    let entry = c.in_ok-entry.entry in
    let fits = c.in_ok-entry.ensures.fits in
    let file = entry.file in
    let at = entry.at in
    let buffer = c.deref_mut.result.now in
    let arg = take ((64 + entry.len) - 64) (drop 64 buffer) in
    let long : length buffer ≡ 8256 = ap length c.deref_mut.ensures.value ∙ c.requires.room in
    let arg_size : length arg ≡ entry.len = omega (arith, length-take ((64 + entry.len) - 64) (drop 64 buffer), length-drop 64 buffer, long, fits.short) in
    let bytes = c.read-3.new.into in
    let size : length bytes ≡ entry.len = omega (arith, c.read-3.auto.into, arg_size) in
    let inside : at + length bytes ≤ get_or sizes file 0 = omega (arith, fits.inside, size) in
    let place : c.home_place.result + at ≡ home_of 16384 sizes file + at = (λ i. c.home_place.ensures i + at) in
    let short : length bytes ≤ 8192 = omega (arith, fits.short, size) in
    let below = fits.file in
    let o = seen d0 in
    let p = seen c.read-3.new.self in
    let q = seen c.home.new.disk in
    let same : p ≡ o = c.read-3.ensures.seen ∙ c.read-2.ensures.seen ∙ c.read.ensures.seen in
    let head_read = subst (λ s. IfSome s (λ image. c.read-2.new.into ≡ part 1024 16 image)) c.read.ensures.seen c.in_ok-read-2.ensures.read in
    let bytes_read = subst (λ s. IfSome s (λ image. bytes ≡ part 1088 (length arg) image)) (c.read-2.ensures.seen ∙ c.read.ensures.seen) c.in_ok-read-3.ensures.read in
    let waits_first = waits_read o sizes c.read.new.into c.read-2.new.into bytes file at entry.len (length arg) c.requires.told c.in_ok-read.ensures.read c.if-gate-ne1.false head_read (sym c.in_ok-entry.ensures.told) bytes_read size arg_size
    (λ image is. g.met.D.Disk.is_whole d0 image is ∙ c.requires.whole) in
    let waits = subst (λ s. IfSome s (Waits sizes file at bytes)) (sym same) waits_first in
    let hboth = subst (λ (h : ℕ). Both (MidWrite h bytes) p q) place c.home.ensures.seen in
    let hcrash = subst (λ (h : ℕ). (image : List ℕ) → g.D.Disk.may_leave c.home.new.disk image → Midway h bytes p image) place c.home.ensures.crash in
    let hmoments = subst (λ (h : ℕ). LeavesOnly g.D.Disk.moment g.D.Disk.left_since c.read-3.new.self c.home.new.disk (Midway h bytes p)) place c.home.ensures.moments in
    let after : (image : List ℕ) → Midway (home_of 16384 sizes file + at) bytes p image → OpensAs o image = λ image midway. subst (λ s. OpensAs s image) same (home_crash sizes file at bytes below inside short p image waits midway) in
    let home = home_seen sizes file at bytes below inside short p q waits hboth in
    home.0

pub returns-in_err-home-clause-crash : goal.returns-in_err-home-clause-crash
returns-in_err-home-clause-crash g c =
    let seen = g.D.Disk.seen in
    let d0 = c.args.disk.now in
    let sizes = c.args.sizes.now in
    let entry = c.in_ok-entry.entry in
    let fits = c.in_ok-entry.ensures.fits in
    let file = entry.file in
    let at = entry.at in
    let buffer = c.deref_mut.result.now in
    let arg = take ((64 + entry.len) - 64) (drop 64 buffer) in
    let long : length buffer ≡ 8256 = ap length c.deref_mut.ensures.value ∙ c.requires.room in
    let arg_size : length arg ≡ entry.len = omega (arith, length-take ((64 + entry.len) - 64) (drop 64 buffer), length-drop 64 buffer, long, fits.short) in
    let bytes = c.read-3.new.into in
    let size : length bytes ≡ entry.len = omega (arith, c.read-3.auto.into, arg_size) in
    let inside : at + length bytes ≤ get_or sizes file 0 = omega (arith, fits.inside, size) in
    let place : c.home_place.result + at ≡ home_of 16384 sizes file + at = (λ i. c.home_place.ensures i + at) in
    let short : length bytes ≤ 8192 = omega (arith, fits.short, size) in
    let below = fits.file in
    let o = seen d0 in
    let p = seen c.read-3.new.self in
    let q = seen c.home.new.disk in
    let same : p ≡ o = c.read-3.ensures.seen ∙ c.read-2.ensures.seen ∙ c.read.ensures.seen in
    let head_read = subst (λ s. IfSome s (λ image. c.read-2.new.into ≡ part 1024 16 image)) c.read.ensures.seen c.in_ok-read-2.ensures.read in
    let bytes_read = subst (λ s. IfSome s (λ image. bytes ≡ part 1088 (length arg) image)) (c.read-2.ensures.seen ∙ c.read.ensures.seen) c.in_ok-read-3.ensures.read in
    let waits_first = waits_read o sizes c.read.new.into c.read-2.new.into bytes file at entry.len (length arg) c.requires.told c.in_ok-read.ensures.read c.if-gate-ne1.false head_read (sym c.in_ok-entry.ensures.told) bytes_read size arg_size
    (λ image is. g.met.D.Disk.is_whole d0 image is ∙ c.requires.whole) in
    let waits = subst (λ s. IfSome s (Waits sizes file at bytes)) (sym same) waits_first in
    let hboth = subst (λ (h : ℕ). Both (MidWrite h bytes) p q) place c.home.ensures.seen in
    let hcrash = subst (λ (h : ℕ). (image : List ℕ) → g.D.Disk.may_leave c.home.new.disk image → Midway h bytes p image) place c.home.ensures.crash in
    let hmoments = subst (λ (h : ℕ). LeavesOnly g.D.Disk.moment g.D.Disk.left_since c.read-3.new.self c.home.new.disk (Midway h bytes p)) place c.home.ensures.moments in
    let after : (image : List ℕ) → Midway (home_of 16384 sizes file + at) bytes p image → OpensAs o image = λ image midway. subst (λ s. OpensAs s image) same (home_crash sizes file at bytes below inside short p image waits midway) in
    λ image now. after image (hcrash image now)

pub returns-in_err-home-clause-moments : goal.returns-in_err-home-clause-moments
returns-in_err-home-clause-moments g c =
    let seen = g.D.Disk.seen in
    let d0 = c.args.disk.now in
    let sizes = c.args.sizes.now in
    let entry = c.in_ok-entry.entry in
    let fits = c.in_ok-entry.ensures.fits in
    let file = entry.file in
    let at = entry.at in
    let buffer = c.deref_mut.result.now in
    let arg = take ((64 + entry.len) - 64) (drop 64 buffer) in
    let long : length buffer ≡ 8256 = ap length c.deref_mut.ensures.value ∙ c.requires.room in
    let arg_size : length arg ≡ entry.len = omega (arith, length-take ((64 + entry.len) - 64) (drop 64 buffer), length-drop 64 buffer, long, fits.short) in
    let bytes = c.read-3.new.into in
    let size : length bytes ≡ entry.len = omega (arith, c.read-3.auto.into, arg_size) in
    let inside : at + length bytes ≤ get_or sizes file 0 = omega (arith, fits.inside, size) in
    let place : c.home_place.result + at ≡ home_of 16384 sizes file + at = (λ i. c.home_place.ensures i + at) in
    let short : length bytes ≤ 8192 = omega (arith, fits.short, size) in
    let below = fits.file in
    let o = seen d0 in
    let p = seen c.read-3.new.self in
    let q = seen c.home.new.disk in
    let same : p ≡ o = c.read-3.ensures.seen ∙ c.read-2.ensures.seen ∙ c.read.ensures.seen in
    let head_read = subst (λ s. IfSome s (λ image. c.read-2.new.into ≡ part 1024 16 image)) c.read.ensures.seen c.in_ok-read-2.ensures.read in
    let bytes_read = subst (λ s. IfSome s (λ image. bytes ≡ part 1088 (length arg) image)) (c.read-2.ensures.seen ∙ c.read.ensures.seen) c.in_ok-read-3.ensures.read in
    let waits_first = waits_read o sizes c.read.new.into c.read-2.new.into bytes file at entry.len (length arg) c.requires.told c.in_ok-read.ensures.read c.if-gate-ne1.false head_read (sym c.in_ok-entry.ensures.told) bytes_read size arg_size
    (λ image is. g.met.D.Disk.is_whole d0 image is ∙ c.requires.whole) in
    let waits = subst (λ s. IfSome s (Waits sizes file at bytes)) (sym same) waits_first in
    let hboth = subst (λ (h : ℕ). Both (MidWrite h bytes) p q) place c.home.ensures.seen in
    let hcrash = subst (λ (h : ℕ). (image : List ℕ) → g.D.Disk.may_leave c.home.new.disk image → Midway h bytes p image) place c.home.ensures.crash in
    let hmoments = subst (λ (h : ℕ). LeavesOnly g.D.Disk.moment g.D.Disk.left_since c.read-3.new.self c.home.new.disk (Midway h bytes p)) place c.home.ensures.moments in
    let after : (image : List ℕ) → Midway (home_of 16384 sizes file + at) bytes p image → OpensAs o image = λ image midway. subst (λ s. OpensAs s image) same (home_crash sizes file at bytes below inside short p image waits midway) in
    let at_rest : (image : List ℕ) → g.D.Disk.may_leave d0 image → OpensAs o image = λ image now. opens_same o image (c.requires.only image now) in
    let none = leaves_none g.D.Disk.moment g.D.Disk.left_since d0 (OpensAs o) (λ image since. at_rest image (g.met.D.Disk.only_now d0 image since)) in
    let one = leaves_step g.D.Disk.moment g.D.Disk.left_since d0 d0 c.read.new.self (OpensAs o) _ none c.read.ensures.time (λ image now. at_rest image (c.read.ensures.crash image now)) in
    let two = leaves_step g.D.Disk.moment g.D.Disk.left_since d0 c.read.new.self c.read-2.new.self (OpensAs o) _ one c.read-2.ensures.time (λ image now. at_rest image (c.read.ensures.crash image (c.read-2.ensures.crash image now))) in
    let three = leaves_step g.D.Disk.moment g.D.Disk.left_since d0 c.read-2.new.self c.read-3.new.self (OpensAs o) _ two c.read-3.ensures.time (λ image now. at_rest image (c.read.ensures.crash image (c.read-2.ensures.crash image (c.read-3.ensures.crash image now)))) in
    leaves_then g.D.Disk.moment g.D.Disk.left_since d0 c.read-3.new.self c.home.new.disk (OpensAs o) _ (OpensAs o) three hmoments (λ image so. so) after

pub returns-in_err-home-clause-plan : goal.returns-in_err-home-clause-plan
returns-in_err-home-clause-plan g c =
    let p = g.D.Disk.plan in
    let p0 = p c.args.disk.now in
    let p1 = p c.read.new.self in
    let r1 = plan_one p0 p1 p1 0 1 ⊥ _ (λ long. long) c.read.ensures.plan in
    let p2 = p c.read-2.new.self in
    let r2 = plan_one p1 p2 p2 0 1 ⊥ _ (λ long. long) c.read-2.ensures.plan in
    let p3 = p c.read-3.new.self in
    let r3 = plan_one p2 p3 p3 0 1 ⊥ _ (λ long. long) c.read-3.ensures.plan in
    let p4 = p c.home.new.disk in
    let F = c.from_residual-in_err-home.result ≡ Err DiskFault in
    plan_then p0 p3 p4 0 3 4 0 _ _ F (λ fails. is_an_err _ _ c.in_err-home.was) (plan_then p0 p2 p3 0 2 0 1 _ _ ⊥ (λ fails. absurd fails) (plan_then p0 p1 p2 0 1 0 1 _ _ ⊥ (λ fails. absurd fails) r1 r2) r3) c.home.ensures.plan

pub returns-clause-shut : goal.returns-clause-shut
returns-clause-shut g c =
    let seen = g.D.Disk.seen in
    let d0 = c.args.disk.now in
    let sizes = c.args.sizes.now in
    let entry = c.in_ok-entry.entry in
    let fits = c.in_ok-entry.ensures.fits in
    let file = entry.file in
    let at = entry.at in
    let buffer = c.deref_mut.result.now in
    let arg = take ((64 + entry.len) - 64) (drop 64 buffer) in
    let long : length buffer ≡ 8256 = ap length c.deref_mut.ensures.value ∙ c.requires.room in
    let arg_size : length arg ≡ entry.len = omega (arith, length-take ((64 + entry.len) - 64) (drop 64 buffer), length-drop 64 buffer, long, fits.short) in
    let bytes = c.read-3.new.into in
    let size : length bytes ≡ entry.len = omega (arith, c.read-3.auto.into, arg_size) in
    let inside : at + length bytes ≤ get_or sizes file 0 = omega (arith, fits.inside, size) in
    let place : c.home_place.result + at ≡ home_of 16384 sizes file + at = (λ i. c.home_place.ensures i + at) in
    let short : length bytes ≤ 8192 = omega (arith, fits.short, size) in
    let below = fits.file in
    let o = seen d0 in
    let p = seen c.read-3.new.self in
    let q = seen c.home.new.disk in
    let same : p ≡ o = c.read-3.ensures.seen ∙ c.read-2.ensures.seen ∙ c.read.ensures.seen in
    let head_read = subst (λ s. IfSome s (λ image. c.read-2.new.into ≡ part 1024 16 image)) c.read.ensures.seen c.in_ok-read-2.ensures.read in
    let bytes_read = subst (λ s. IfSome s (λ image. bytes ≡ part 1088 (length arg) image)) (c.read-2.ensures.seen ∙ c.read.ensures.seen) c.in_ok-read-3.ensures.read in
    let waits_first = waits_read o sizes c.read.new.into c.read-2.new.into bytes file at entry.len (length arg) c.requires.told c.in_ok-read.ensures.read c.if-gate-ne1.false head_read (sym c.in_ok-entry.ensures.told) bytes_read size arg_size
    (λ image is. g.met.D.Disk.is_whole d0 image is ∙ c.requires.whole) in
    let waits = subst (λ s. IfSome s (Waits sizes file at bytes)) (sym same) waits_first in
    let hboth = subst (λ (h : ℕ). Both (MidWrite h bytes) p q) place c.home.ensures.seen in
    let hcrash = subst (λ (h : ℕ). (image : List ℕ) → g.D.Disk.may_leave c.home.new.disk image → Midway h bytes p image) place c.home.ensures.crash in
    let hmoments = subst (λ (h : ℕ). LeavesOnly g.D.Disk.moment g.D.Disk.left_since c.read-3.new.self c.home.new.disk (Midway h bytes p)) place c.home.ensures.moments in
    let after : (image : List ℕ) → Midway (home_of 16384 sizes file + at) bytes p image → OpensAs o image = λ image midway. subst (λ s. OpensAs s image) same (home_crash sizes file at bytes below inside short p image waits midway) in
    let hdone = subst (λ (h : ℕ). q ≡ option_map (gated h bytes 0) p) place c.in_ok-home.ensures.done in
    let settled = home_whole sizes file at bytes below inside short p q waits hdone in
    rest_shut q sizes settled.0

pub returns-clause-same : goal.returns-clause-same
returns-clause-same g c =
    let seen = g.D.Disk.seen in
    let d0 = c.args.disk.now in
    let sizes = c.args.sizes.now in
    let entry = c.in_ok-entry.entry in
    let fits = c.in_ok-entry.ensures.fits in
    let file = entry.file in
    let at = entry.at in
    let buffer = c.deref_mut.result.now in
    let arg = take ((64 + entry.len) - 64) (drop 64 buffer) in
    let long : length buffer ≡ 8256 = ap length c.deref_mut.ensures.value ∙ c.requires.room in
    let arg_size : length arg ≡ entry.len = omega (arith, length-take ((64 + entry.len) - 64) (drop 64 buffer), length-drop 64 buffer, long, fits.short) in
    let bytes = c.read-3.new.into in
    let size : length bytes ≡ entry.len = omega (arith, c.read-3.auto.into, arg_size) in
    let inside : at + length bytes ≤ get_or sizes file 0 = omega (arith, fits.inside, size) in
    let place : c.home_place.result + at ≡ home_of 16384 sizes file + at = (λ i. c.home_place.ensures i + at) in
    let short : length bytes ≤ 8192 = omega (arith, fits.short, size) in
    let below = fits.file in
    let o = seen d0 in
    let p = seen c.read-3.new.self in
    let q = seen c.home.new.disk in
    let same : p ≡ o = c.read-3.ensures.seen ∙ c.read-2.ensures.seen ∙ c.read.ensures.seen in
    let head_read = subst (λ s. IfSome s (λ image. c.read-2.new.into ≡ part 1024 16 image)) c.read.ensures.seen c.in_ok-read-2.ensures.read in
    let bytes_read = subst (λ s. IfSome s (λ image. bytes ≡ part 1088 (length arg) image)) (c.read-2.ensures.seen ∙ c.read.ensures.seen) c.in_ok-read-3.ensures.read in
    let waits_first = waits_read o sizes c.read.new.into c.read-2.new.into bytes file at entry.len (length arg) c.requires.told c.in_ok-read.ensures.read c.if-gate-ne1.false head_read (sym c.in_ok-entry.ensures.told) bytes_read size arg_size
    (λ image is. g.met.D.Disk.is_whole d0 image is ∙ c.requires.whole) in
    let waits = subst (λ s. IfSome s (Waits sizes file at bytes)) (sym same) waits_first in
    let hboth = subst (λ (h : ℕ). Both (MidWrite h bytes) p q) place c.home.ensures.seen in
    let hcrash = subst (λ (h : ℕ). (image : List ℕ) → g.D.Disk.may_leave c.home.new.disk image → Midway h bytes p image) place c.home.ensures.crash in
    let hmoments = subst (λ (h : ℕ). LeavesOnly g.D.Disk.moment g.D.Disk.left_since c.read-3.new.self c.home.new.disk (Midway h bytes p)) place c.home.ensures.moments in
    let after : (image : List ℕ) → Midway (home_of 16384 sizes file + at) bytes p image → OpensAs o image = λ image midway. subst (λ s. OpensAs s image) same (home_crash sizes file at bytes below inside short p image waits midway) in
    let hdone = subst (λ (h : ℕ). q ≡ option_map (gated h bytes 0) p) place c.in_ok-home.ensures.done in
    let settled = home_whole sizes file at bytes below inside short p q waits hdone in
    settled.1 ∙ ap (option_map opens) same

pub returns-clause-told : goal.returns-clause-told
returns-clause-told g c =
    let seen = g.D.Disk.seen in
    let d0 = c.args.disk.now in
    let sizes = c.args.sizes.now in
    let entry = c.in_ok-entry.entry in
    let fits = c.in_ok-entry.ensures.fits in
    let file = entry.file in
    let at = entry.at in
    let buffer = c.deref_mut.result.now in
    let arg = take ((64 + entry.len) - 64) (drop 64 buffer) in
    let long : length buffer ≡ 8256 = ap length c.deref_mut.ensures.value ∙ c.requires.room in
    let arg_size : length arg ≡ entry.len = omega (arith, length-take ((64 + entry.len) - 64) (drop 64 buffer), length-drop 64 buffer, long, fits.short) in
    let bytes = c.read-3.new.into in
    let size : length bytes ≡ entry.len = omega (arith, c.read-3.auto.into, arg_size) in
    let inside : at + length bytes ≤ get_or sizes file 0 = omega (arith, fits.inside, size) in
    let place : c.home_place.result + at ≡ home_of 16384 sizes file + at = (λ i. c.home_place.ensures i + at) in
    let short : length bytes ≤ 8192 = omega (arith, fits.short, size) in
    let below = fits.file in
    let o = seen d0 in
    let p = seen c.read-3.new.self in
    let q = seen c.home.new.disk in
    let same : p ≡ o = c.read-3.ensures.seen ∙ c.read-2.ensures.seen ∙ c.read.ensures.seen in
    let head_read = subst (λ s. IfSome s (λ image. c.read-2.new.into ≡ part 1024 16 image)) c.read.ensures.seen c.in_ok-read-2.ensures.read in
    let bytes_read = subst (λ s. IfSome s (λ image. bytes ≡ part 1088 (length arg) image)) (c.read-2.ensures.seen ∙ c.read.ensures.seen) c.in_ok-read-3.ensures.read in
    let waits_first = waits_read o sizes c.read.new.into c.read-2.new.into bytes file at entry.len (length arg) c.requires.told c.in_ok-read.ensures.read c.if-gate-ne1.false head_read (sym c.in_ok-entry.ensures.told) bytes_read size arg_size
    (λ image is. g.met.D.Disk.is_whole d0 image is ∙ c.requires.whole) in
    let waits = subst (λ s. IfSome s (Waits sizes file at bytes)) (sym same) waits_first in
    let hboth = subst (λ (h : ℕ). Both (MidWrite h bytes) p q) place c.home.ensures.seen in
    let hcrash = subst (λ (h : ℕ). (image : List ℕ) → g.D.Disk.may_leave c.home.new.disk image → Midway h bytes p image) place c.home.ensures.crash in
    let hmoments = subst (λ (h : ℕ). LeavesOnly g.D.Disk.moment g.D.Disk.left_since c.read-3.new.self c.home.new.disk (Midway h bytes p)) place c.home.ensures.moments in
    let after : (image : List ℕ) → Midway (home_of 16384 sizes file + at) bytes p image → OpensAs o image = λ image midway. subst (λ s. OpensAs s image) same (home_crash sizes file at bytes below inside short p image waits midway) in
    let hdone = subst (λ (h : ℕ). q ≡ option_map (gated h bytes 0) p) place c.in_ok-home.ensures.done in
    let settled = home_whole sizes file at bytes below inside short p q waits hdone in
    rest_told q sizes settled.0

pub returns-clause-crash : goal.returns-clause-crash
returns-clause-crash g c =
    let seen = g.D.Disk.seen in
    let d0 = c.args.disk.now in
    let sizes = c.args.sizes.now in
    let entry = c.in_ok-entry.entry in
    let fits = c.in_ok-entry.ensures.fits in
    let file = entry.file in
    let at = entry.at in
    let buffer = c.deref_mut.result.now in
    let arg = take ((64 + entry.len) - 64) (drop 64 buffer) in
    let long : length buffer ≡ 8256 = ap length c.deref_mut.ensures.value ∙ c.requires.room in
    let arg_size : length arg ≡ entry.len = omega (arith, length-take ((64 + entry.len) - 64) (drop 64 buffer), length-drop 64 buffer, long, fits.short) in
    let bytes = c.read-3.new.into in
    let size : length bytes ≡ entry.len = omega (arith, c.read-3.auto.into, arg_size) in
    let inside : at + length bytes ≤ get_or sizes file 0 = omega (arith, fits.inside, size) in
    let place : c.home_place.result + at ≡ home_of 16384 sizes file + at = (λ i. c.home_place.ensures i + at) in
    let short : length bytes ≤ 8192 = omega (arith, fits.short, size) in
    let below = fits.file in
    let o = seen d0 in
    let p = seen c.read-3.new.self in
    let q = seen c.home.new.disk in
    let same : p ≡ o = c.read-3.ensures.seen ∙ c.read-2.ensures.seen ∙ c.read.ensures.seen in
    let head_read = subst (λ s. IfSome s (λ image. c.read-2.new.into ≡ part 1024 16 image)) c.read.ensures.seen c.in_ok-read-2.ensures.read in
    let bytes_read = subst (λ s. IfSome s (λ image. bytes ≡ part 1088 (length arg) image)) (c.read-2.ensures.seen ∙ c.read.ensures.seen) c.in_ok-read-3.ensures.read in
    let waits_first = waits_read o sizes c.read.new.into c.read-2.new.into bytes file at entry.len (length arg) c.requires.told c.in_ok-read.ensures.read c.if-gate-ne1.false head_read (sym c.in_ok-entry.ensures.told) bytes_read size arg_size
    (λ image is. g.met.D.Disk.is_whole d0 image is ∙ c.requires.whole) in
    let waits = subst (λ s. IfSome s (Waits sizes file at bytes)) (sym same) waits_first in
    let hboth = subst (λ (h : ℕ). Both (MidWrite h bytes) p q) place c.home.ensures.seen in
    let hcrash = subst (λ (h : ℕ). (image : List ℕ) → g.D.Disk.may_leave c.home.new.disk image → Midway h bytes p image) place c.home.ensures.crash in
    let hmoments = subst (λ (h : ℕ). LeavesOnly g.D.Disk.moment g.D.Disk.left_since c.read-3.new.self c.home.new.disk (Midway h bytes p)) place c.home.ensures.moments in
    let after : (image : List ℕ) → Midway (home_of 16384 sizes file + at) bytes p image → OpensAs o image = λ image midway. subst (λ s. OpensAs s image) same (home_crash sizes file at bytes below inside short p image waits midway) in
    λ image now. after image (hcrash image now)

pub returns-clause-moments : goal.returns-clause-moments
returns-clause-moments g c =
    let seen = g.D.Disk.seen in
    let d0 = c.args.disk.now in
    let sizes = c.args.sizes.now in
    let entry = c.in_ok-entry.entry in
    let fits = c.in_ok-entry.ensures.fits in
    let file = entry.file in
    let at = entry.at in
    let buffer = c.deref_mut.result.now in
    let arg = take ((64 + entry.len) - 64) (drop 64 buffer) in
    let long : length buffer ≡ 8256 = ap length c.deref_mut.ensures.value ∙ c.requires.room in
    let arg_size : length arg ≡ entry.len = omega (arith, length-take ((64 + entry.len) - 64) (drop 64 buffer), length-drop 64 buffer, long, fits.short) in
    let bytes = c.read-3.new.into in
    let size : length bytes ≡ entry.len = omega (arith, c.read-3.auto.into, arg_size) in
    let inside : at + length bytes ≤ get_or sizes file 0 = omega (arith, fits.inside, size) in
    let place : c.home_place.result + at ≡ home_of 16384 sizes file + at = (λ i. c.home_place.ensures i + at) in
    let short : length bytes ≤ 8192 = omega (arith, fits.short, size) in
    let below = fits.file in
    let o = seen d0 in
    let p = seen c.read-3.new.self in
    let q = seen c.home.new.disk in
    let same : p ≡ o = c.read-3.ensures.seen ∙ c.read-2.ensures.seen ∙ c.read.ensures.seen in
    let head_read = subst (λ s. IfSome s (λ image. c.read-2.new.into ≡ part 1024 16 image)) c.read.ensures.seen c.in_ok-read-2.ensures.read in
    let bytes_read = subst (λ s. IfSome s (λ image. bytes ≡ part 1088 (length arg) image)) (c.read-2.ensures.seen ∙ c.read.ensures.seen) c.in_ok-read-3.ensures.read in
    let waits_first = waits_read o sizes c.read.new.into c.read-2.new.into bytes file at entry.len (length arg) c.requires.told c.in_ok-read.ensures.read c.if-gate-ne1.false head_read (sym c.in_ok-entry.ensures.told) bytes_read size arg_size
    (λ image is. g.met.D.Disk.is_whole d0 image is ∙ c.requires.whole) in
    let waits = subst (λ s. IfSome s (Waits sizes file at bytes)) (sym same) waits_first in
    let hboth = subst (λ (h : ℕ). Both (MidWrite h bytes) p q) place c.home.ensures.seen in
    let hcrash = subst (λ (h : ℕ). (image : List ℕ) → g.D.Disk.may_leave c.home.new.disk image → Midway h bytes p image) place c.home.ensures.crash in
    let hmoments = subst (λ (h : ℕ). LeavesOnly g.D.Disk.moment g.D.Disk.left_since c.read-3.new.self c.home.new.disk (Midway h bytes p)) place c.home.ensures.moments in
    let after : (image : List ℕ) → Midway (home_of 16384 sizes file + at) bytes p image → OpensAs o image = λ image midway. subst (λ s. OpensAs s image) same (home_crash sizes file at bytes below inside short p image waits midway) in
    let at_rest : (image : List ℕ) → g.D.Disk.may_leave d0 image → OpensAs o image = λ image now. opens_same o image (c.requires.only image now) in
    let none = leaves_none g.D.Disk.moment g.D.Disk.left_since d0 (OpensAs o) (λ image since. at_rest image (g.met.D.Disk.only_now d0 image since)) in
    let one = leaves_step g.D.Disk.moment g.D.Disk.left_since d0 d0 c.read.new.self (OpensAs o) _ none c.read.ensures.time (λ image now. at_rest image (c.read.ensures.crash image now)) in
    let two = leaves_step g.D.Disk.moment g.D.Disk.left_since d0 c.read.new.self c.read-2.new.self (OpensAs o) _ one c.read-2.ensures.time (λ image now. at_rest image (c.read.ensures.crash image (c.read-2.ensures.crash image now))) in
    let three = leaves_step g.D.Disk.moment g.D.Disk.left_since d0 c.read-2.new.self c.read-3.new.self (OpensAs o) _ two c.read-3.ensures.time (λ image now. at_rest image (c.read.ensures.crash image (c.read-2.ensures.crash image (c.read-3.ensures.crash image now)))) in
    leaves_then g.D.Disk.moment g.D.Disk.left_since d0 c.read-3.new.self c.home.new.disk (OpensAs o) _ (OpensAs o) three hmoments (λ image so. so) after

pub returns-clause-plan : goal.returns-clause-plan
returns-clause-plan g c =
    let p = g.D.Disk.plan in
    let p0 = p c.args.disk.now in
    let p1 = p c.read.new.self in
    let r1 = plan_one p0 p1 p1 0 1 ⊥ _ (λ long. long) c.read.ensures.plan in
    let p2 = p c.read-2.new.self in
    let r2 = plan_one p1 p2 p2 0 1 ⊥ _ (λ long. long) c.read-2.ensures.plan in
    let p3 = p c.read-3.new.self in
    let r3 = plan_one p2 p3 p3 0 1 ⊥ _ (λ long. long) c.read-3.ensures.plan in
    let p4 = p c.home.new.disk in
    let done : Result (Unit {0}) OpenError = Ok tt in
    let F = done ≡ Err DiskFault in
    plan_then p0 p3 p4 0 3 4 0 _ _ F (λ fails. absurd (cc fails)) (plan_then p0 p2 p3 0 2 0 1 _ _ ⊥ (λ fails. absurd fails) (plan_then p0 p1 p2 0 1 0 1 _ _ ⊥ (λ fails. absurd fails) r1 r2) r3) c.home.ensures.plan
