use Rattle.std.proofs.Common.{◌≡◌, ◌+◌, ◌<◌, ◌≤◌, ℕ, List, [], length, get_or, true, ◌∙◌, ap, subst, arith}
use Rattle.std.specs.Prelude.{IfSome, Ok, IsErr}
use Rattle.sd_outside.specs.Ranges.{part}
use Rattle.sd_outside.proofs.MakesLaws.{plan_none, plan_fewer}
use Rattle.sd_stable_disk.specs.Image.{home_of}
use Rattle.sd_stable_disk.specs.Files.{files}
use Rattle.sd_stable_disk.specs.declared.errors.StoreError.{StoreError}
use Rattle.sd_stable_disk.proofs.HeadLaws.{rounded_more, home_of_fits}
use Rattle.sd_stable_disk.proofs.StoreLaws.{told_by, read_held, read_nothing, no_bytes}
use Rattle.sd_stable_disk.proofs.store.Store.read.Goals as goal

pub overflow_add-place : goal.overflow_add-place
overflow_add-place g c =
    let inv = c.self.invariant.0 in
    let d0 = c.self.inside.disk in
    let sizes = c.self.inside.sizes.items in
    let file = c.args.file in
    let at = c.args.at in
    let n = length c.args.into.now in
    let below : file < length sizes = omega (arith, c.requires.file, ap (λ s. length s.sizes) c.self.view_is) in
    let inside : at + n ≤ get_or sizes file 0 = omega (arith, c.requires.range, ap (λ s. get_or s.sizes file 0) c.self.view_is) in
    let place : c.home_place.result + at ≡ home_of 16384 sizes file + at = (λ i. (c.home_place.ensures ∙ ap (λ (l : List ℕ). home_of 16384 l file) c.deref.ensures.value) i + at) in
    omega (arith, place, inside, inv.sizes_fit.room, rounded_more (get_or sizes file 0), home_of_fits 16384 sizes file below)

pub read-requires : goal.read-requires
read-requires g c =
    let inv = c.self.invariant.0 in
    let d0 = c.self.inside.disk in
    let sizes = c.self.inside.sizes.items in
    let file = c.args.file in
    let at = c.args.at in
    let n = length c.args.into.now in
    let below : file < length sizes = omega (arith, c.requires.file, ap (λ s. length s.sizes) c.self.view_is) in
    let inside : at + n ≤ get_or sizes file 0 = omega (arith, c.requires.range, ap (λ s. get_or s.sizes file 0) c.self.view_is) in
    let place : c.home_place.result + at ≡ home_of 16384 sizes file + at = (λ i. (c.home_place.ensures ∙ ap (λ (l : List ℕ). home_of 16384 l file) c.deref.ensures.value) i + at) in
    omega (arith, place, inside, inv.whole, rounded_more (get_or sizes file 0), home_of_fits 16384 sizes file below)

pub returns-then-is_empty-clause-read : goal.returns-then-is_empty-clause-read
returns-then-is_empty-clause-read g c =
    read_nothing (files g.D.Disk.seen c.args.self.now) c.args.file c.args.at c.args.into.now (no_bytes (length c.args.into.now) c.if-is_empty.ensures)

pub returns-then-is_empty-clause-plan : goal.returns-then-is_empty-clause-plan
returns-then-is_empty-clause-plan g c =
    let p = g.D.Disk.plan c.args.self.now.disk in
    let F = IsErr {T = Unit {0}} {E = StoreError} (Ok tt) in
    plan_fewer p p p 0 0 0 1 F F (omega arith) (omega arith) (λ fails. fails) (plan_none F (λ fails. absurd (cc fails)) p)

pub returns-clause-read : goal.returns-clause-read
returns-clause-read g c =
    let inv = c.self.invariant.0 in
    let d0 = c.self.inside.disk in
    let sizes = c.self.inside.sizes.items in
    let file = c.args.file in
    let at = c.args.at in
    let n = length c.args.into.now in
    let below : file < length sizes = omega (arith, c.requires.file, ap (λ s. length s.sizes) c.self.view_is) in
    let inside : at + n ≤ get_or sizes file 0 = omega (arith, c.requires.range, ap (λ s. get_or s.sizes file 0) c.self.view_is) in
    let place : c.home_place.result + at ≡ home_of 16384 sizes file + at = (λ i. (c.home_place.ensures ∙ ap (λ (l : List ℕ). home_of 16384 l file) c.deref.ensures.value) i + at) in
    let o = g.D.Disk.seen d0 in
    let up : c.self.inside.up ≡ true = ap (λ s. s.up) c.self.view_is ∙ c.requires.up in
    let rest = told_by o sizes (g.D.Disk.size d0) (λ image is. g.met.D.Disk.is_whole d0 image is) inv.whole inv.told (inv.shut up) in
    let read = subst (λ (h : ℕ). IfSome o (λ image. c.read.new.into ≡ part h n image)) place c.in_ok-read.ensures.read in
    subst (λ s. IfSome (files g.D.Disk.seen s) (λ fs. c.read.new.into ≡ part at n (get_or fs file []))) c.self.view_is (read_held o sizes file at n c.read.new.into below inside rest read)
