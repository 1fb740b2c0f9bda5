use Rattle.std.proofs.Common.{◌≡◌, ◌+◌, ◌<◌, ◌≤◌, ◌^◌, ℕ, List, length, get_or, take, true, false, inr, sym, ◌∙◌, ap, subst, arith}
use Rattle.std.specs.Option.{option_map}
use Rattle.sd_outside.specs.Disk.{LeavesOnly}
use Rattle.sd_outside.specs.DiskPlan.{Both}
use Rattle.sd_outside.proofs.MakesLaws.{plan_none, plan_fewer, plan_then, plan_from, is_an_err}
use Rattle.std.specs.Prelude.{Ok, IsErr}
use Rattle.sd_stable_disk.specs.declared.errors.StoreError.{StoreError}
use Rattle.sd_stable_disk.specs.Image.{entry_bytes, home_of, written, held}
use Rattle.sd_stable_disk.specs.Run.{MidWrite, Midway, gated}
use Rattle.sd_stable_disk.specs.Files.{Stored, files, held_since, IsEither}
use Rattle.sd_stable_disk.proofs.HeadLaws.{rounded_more, home_of_after, home_of_fits}
use Rattle.sd_stable_disk.proofs.StoreLaws.{leaves_then, leaves_held, held_in, told_by, journal_seen, journal_crash, journal_whole, home_seen, home_crash, home_whole, same_held, opens_held, midst_told, midst_readable, midst_either, rest_shut, rest_told, rest_readable, some_bytes, front_is, written_nothing, no_bytes}
use Rattle.sd_stable_disk.proofs.store.Store.write.Goals as goal

pub overflow_add-place : goal.overflow_add-place
overflow_add-place g c =
    let inv = c.self.invariant.0 in
    let seen = g.D.Disk.seen in
    let d0 = c.self.inside.disk in
    let sizes = c.self.inside.sizes.items in
    let file = c.args.file in
    let at = c.args.at in
    let bytes = c.args.bytes.now in
    let o = seen d0 in
    let below : file < length sizes = omega (arith, c.requires.file, ap (λ s. length s.sizes) c.self.view_is) in
    let inside : at + length bytes ≤ get_or sizes file 0 = omega (arith, c.requires.range, ap (λ s. get_or s.sizes file 0) c.self.view_is) in
    let place : c.home_place.result + at ≡ home_of 16384 sizes file + at = (λ i. (c.home_place.ensures ∙ ap (λ (l : List ℕ). home_of 16384 l file) c.deref.ensures.value) i + at) in
    omega (arith, place, inside, inv.sizes_fit.room, rounded_more (get_or sizes file 0), home_of_fits 16384 sizes file below)

pub home-requires-clause-fits : goal.home-requires-clause-fits
home-requires-clause-fits g c =
    let inv = c.self.invariant.0 in
    let seen = g.D.Disk.seen in
    let d0 = c.self.inside.disk in
    let sizes = c.self.inside.sizes.items in
    let file = c.args.file in
    let at = c.args.at in
    let bytes = c.args.bytes.now in
    let o = seen d0 in
    let below : file < length sizes = omega (arith, c.requires.file, ap (λ s. length s.sizes) c.self.view_is) in
    let inside : at + length bytes ≤ get_or sizes file 0 = omega (arith, c.requires.range, ap (λ s. get_or s.sizes file 0) c.self.view_is) in
    let place : c.home_place.result + at ≡ home_of 16384 sizes file + at = (λ i. (c.home_place.ensures ∙ ap (λ (l : List ℕ). home_of 16384 l file) c.deref.ensures.value) i + at) in
    omega (arith, place, inside, inv.whole, c.journal.ensures.size, rounded_more (get_or sizes file 0), home_of_fits 16384 sizes file below)

pub home-requires-clause-far : goal.home-requires-clause-far
home-requires-clause-far g c =
    let inv = c.self.invariant.0 in
    let seen = g.D.Disk.seen in
    let d0 = c.self.inside.disk in
    let sizes = c.self.inside.sizes.items in
    let file = c.args.file in
    let at = c.args.at in
    let bytes = c.args.bytes.now in
    let o = seen d0 in
    let below : file < length sizes = omega (arith, c.requires.file, ap (λ s. length s.sizes) c.self.view_is) in
    let inside : at + length bytes ≤ get_or sizes file 0 = omega (arith, c.requires.range, ap (λ s. get_or s.sizes file 0) c.self.view_is) in
    let place : c.home_place.result + at ≡ home_of 16384 sizes file + at = (λ i. (c.home_place.ensures ∙ ap (λ (l : List ℕ). home_of 16384 l file) c.deref.ensures.value) i + at) in
    omega (arith, place, home_of_after 16384 sizes file)

pub invariant_of-self : goal.invariant_of-self
invariant_of-self g c =
    let inv = c.self.invariant.0 in
    let seen = g.D.Disk.seen in
    let d0 = c.self.inside.disk in
    let sizes = c.self.inside.sizes.items in
    let file = c.args.file in
    let at = c.args.at in
    let bytes = c.args.bytes.now in
    let o = seen d0 in
    let below : file < length sizes = omega (arith, c.requires.file, ap (λ s. length s.sizes) c.self.view_is) in
    let inside : at + length bytes ≤ get_or sizes file 0 = omega (arith, c.requires.range, ap (λ s. get_or s.sizes file 0) c.self.view_is) in
    let up : c.self.inside.up ≡ true = ap (λ s. s.up) c.self.view_is ∙ c.requires.up in
    let small_file : file < 2 ^ 32 = omega (arith, c.ranges.file.fits) in
    let small_at : at < 2 ^ 64 = omega (arith, c.ranges.at.fits) in
    let some : 0 < length bytes = some_bytes (length bytes) c.if-is_empty.ensures in
    let short = c.requires.short in
    let rest = told_by o sizes (g.D.Disk.size d0) (λ image is. g.met.D.Disk.is_whole d0 image is) inv.whole inv.told (inv.shut up) in
    let E = entry_bytes file at bytes in
    let p = seen c.journal.new.disk in
    let entry : take (64 + length bytes) c.deref-2.result.now ≡ E = ap (take (64 + length bytes)) c.deref-2.ensures.value ∙ front_is (64 + length bytes) c.fill_entry.new.buffer.items ∙ c.fill_entry.ensures.entry in
    let both = subst (λ (e : List ℕ). Both (MidWrite 1024 e) o p) entry c.journal.ensures.seen in
    let crash = subst (λ (e : List ℕ). (image : List ℕ) → g.D.Disk.may_leave c.journal.new.disk image → Midway 1024 e o image) entry c.journal.ensures.crash in
    let moments = subst (λ (e : List ℕ). LeavesOnly g.D.Disk.moment g.D.Disk.left_since d0 c.journal.new.disk (Midway 1024 e o)) entry c.journal.ensures.moments in
    let midst = journal_seen sizes file at bytes below inside small_file small_at some short o p rest both in (
      record {
        sizes_fit = inv.sizes_fit;
        whole = c.journal.ensures.size ∙ inv.whole;
        told = midst_told p sizes file at bytes (held_in o) midst;
        readable = midst_readable p sizes file at bytes (held_in o) midst;
        settled = λ is_up. absurd (cc is_up);
        shut = λ is_up. absurd (cc is_up);
      },
      c.fill_entry.ensures.size ∙ c.self.invariant.1,
    )

pub returns-in_err-journal-clause-files : goal.returns-in_err-journal-clause-files
returns-in_err-journal-clause-files g c =
    let inv = c.self.invariant.0 in
    let seen = g.D.Disk.seen in
    let d0 = c.self.inside.disk in
    let sizes = c.self.inside.sizes.items in
    let file = c.args.file in
    let at = c.args.at in
    let bytes = c.args.bytes.now in
    let o = seen d0 in
    let below : file < length sizes = omega (arith, c.requires.file, ap (λ s. length s.sizes) c.self.view_is) in
    let inside : at + length bytes ≤ get_or sizes file 0 = omega (arith, c.requires.range, ap (λ s. get_or s.sizes file 0) c.self.view_is) in
    let up : c.self.inside.up ≡ true = ap (λ s. s.up) c.self.view_is ∙ c.requires.up in
    let small_file : file < 2 ^ 32 = omega (arith, c.ranges.file.fits) in
    let small_at : at < 2 ^ 64 = omega (arith, c.ranges.at.fits) in
    let some : 0 < length bytes = some_bytes (length bytes) c.if-is_empty.ensures in
    let short = c.requires.short in
    let rest = told_by o sizes (g.D.Disk.size d0) (λ image is. g.met.D.Disk.is_whole d0 image is) inv.whole inv.told (inv.shut up) in
    let E = entry_bytes file at bytes in
    let p = seen c.journal.new.disk in
    let entry : take (64 + length bytes) c.deref-2.result.now ≡ E = ap (take (64 + length bytes)) c.deref-2.ensures.value ∙ front_is (64 + length bytes) c.fill_entry.new.buffer.items ∙ c.fill_entry.ensures.entry in
    let both = subst (λ (e : List ℕ). Both (MidWrite 1024 e) o p) entry c.journal.ensures.seen in
    let crash = subst (λ (e : List ℕ). (image : List ℕ) → g.D.Disk.may_leave c.journal.new.disk image → Midway 1024 e o image) entry c.journal.ensures.crash in
    let moments = subst (λ (e : List ℕ). LeavesOnly g.D.Disk.moment g.D.Disk.left_since d0 c.journal.new.disk (Midway 1024 e o)) entry c.journal.ensures.moments in
    let midst = journal_seen sizes file at bytes below inside small_file small_at some short o p rest both in
    subst (λ s. IsEither file at bytes (files seen s) (held_in p)) c.self.view_is (midst_either o p sizes file at bytes both midst)

pub returns-in_err-journal-clause-crash : goal.returns-in_err-journal-clause-crash
returns-in_err-journal-clause-crash g c =
    let inv = c.self.invariant.0 in
    let seen = g.D.Disk.seen in
    let d0 = c.self.inside.disk in
    let sizes = c.self.inside.sizes.items in
    let file = c.args.file in
    let at = c.args.at in
    let bytes = c.args.bytes.now in
    let o = seen d0 in
    let below : file < length sizes = omega (arith, c.requires.file, ap (λ s. length s.sizes) c.self.view_is) in
    let inside : at + length bytes ≤ get_or sizes file 0 = omega (arith, c.requires.range, ap (λ s. get_or s.sizes file 0) c.self.view_is) in
    let up : c.self.inside.up ≡ true = ap (λ s. s.up) c.self.view_is ∙ c.requires.up in
    let small_file : file < 2 ^ 32 = omega (arith, c.ranges.file.fits) in
    let small_at : at < 2 ^ 64 = omega (arith, c.ranges.at.fits) in
    let some : 0 < length bytes = some_bytes (length bytes) c.if-is_empty.ensures in
    let short = c.requires.short in
    let rest = told_by o sizes (g.D.Disk.size d0) (λ image is. g.met.D.Disk.is_whole d0 image is) inv.whole inv.told (inv.shut up) in
    let E = entry_bytes file at bytes in
    let p = seen c.journal.new.disk in
    let entry : take (64 + length bytes) c.deref-2.result.now ≡ E = ap (take (64 + length bytes)) c.deref-2.ensures.value ∙ front_is (64 + length bytes) c.fill_entry.new.buffer.items ∙ c.fill_entry.ensures.entry in
    let both = subst (λ (e : List ℕ). Both (MidWrite 1024 e) o p) entry c.journal.ensures.seen in
    let crash = subst (λ (e : List ℕ). (image : List ℕ) → g.D.Disk.may_leave c.journal.new.disk image → Midway 1024 e o image) entry c.journal.ensures.crash in
    let moments = subst (λ (e : List ℕ). LeavesOnly g.D.Disk.moment g.D.Disk.left_since d0 c.journal.new.disk (Midway 1024 e o)) entry c.journal.ensures.moments in
    let midst = journal_seen sizes file at bytes below inside small_file small_at some short o p rest both in
    λ left may. subst (λ s. IsEither file at bytes (files seen s) left) c.self.view_is
    (subst (IsEither file at bytes (held_in o)) may.2 (journal_crash sizes file at bytes below inside small_file small_at some short o may.0 rest (crash may.0 may.1)))

pub returns-in_err-journal-clause-moments : goal.returns-in_err-journal-clause-moments
returns-in_err-journal-clause-moments g c =
    let inv = c.self.invariant.0 in
    let seen = g.D.Disk.seen in
    let d0 = c.self.inside.disk in
    let sizes = c.self.inside.sizes.items in
    let file = c.args.file in
    let at = c.args.at in
    let bytes = c.args.bytes.now in
    let o = seen d0 in
    let below : file < length sizes = omega (arith, c.requires.file, ap (λ s. length s.sizes) c.self.view_is) in
    let inside : at + length bytes ≤ get_or sizes file 0 = omega (arith, c.requires.range, ap (λ s. get_or s.sizes file 0) c.self.view_is) in
    let up : c.self.inside.up ≡ true = ap (λ s. s.up) c.self.view_is ∙ c.requires.up in
    let small_file : file < 2 ^ 32 = omega (arith, c.ranges.file.fits) in
    let small_at : at < 2 ^ 64 = omega (arith, c.ranges.at.fits) in
    let some : 0 < length bytes = some_bytes (length bytes) c.if-is_empty.ensures in
    let short = c.requires.short in
    let rest = told_by o sizes (g.D.Disk.size d0) (λ image is. g.met.D.Disk.is_whole d0 image is) inv.whole inv.told (inv.shut up) in
    let E = entry_bytes file at bytes in
    let p = seen c.journal.new.disk in
    let entry : take (64 + length bytes) c.deref-2.result.now ≡ E = ap (take (64 + length bytes)) c.deref-2.ensures.value ∙ front_is (64 + length bytes) c.fill_entry.new.buffer.items ∙ c.fill_entry.ensures.entry in
    let both = subst (λ (e : List ℕ). Both (MidWrite 1024 e) o p) entry c.journal.ensures.seen in
    let crash = subst (λ (e : List ℕ). (image : List ℕ) → g.D.Disk.may_leave c.journal.new.disk image → Midway 1024 e o image) entry c.journal.ensures.crash in
    let moments = subst (λ (e : List ℕ). LeavesOnly g.D.Disk.moment g.D.Disk.left_since d0 c.journal.new.disk (Midway 1024 e o)) entry c.journal.ensures.moments in
    let midst = journal_seen sizes file at bytes below inside small_file small_at some short o p rest both in
    let new : Stored g.row.D.Denot = record { disk = c.journal.new.disk; sizes = sizes; up = false; refusal = c.self.inside.refusal } in
    subst (λ (s : Stored g.row.D.Denot). LeavesOnly (λ store. g.D.Disk.moment store.disk) (held_since g.D.Disk.left_since) s new (IsEither file at bytes (files seen s))) c.self.view_is
    (leaves_held g.D.Disk.moment g.D.Disk.left_since _ new _ _ moments (λ image midway. journal_crash sizes file at bytes below inside small_file small_at some short o image rest midway))

pub invariant_of-self-in_err-home : goal.invariant_of-self-in_err-home
invariant_of-self-in_err-home g c =
    let inv = c.self.invariant.0 in
    let seen = g.D.Disk.seen in
    let d0 = c.self.inside.disk in
    let sizes = c.self.inside.sizes.items in
    let file = c.args.file in
    let at = c.args.at in
    let bytes = c.args.bytes.now in
    let o = seen d0 in
    let below : file < length sizes = omega (arith, c.requires.file, ap (λ s. length s.sizes) c.self.view_is) in
    let inside : at + length bytes ≤ get_or sizes file 0 = omega (arith, c.requires.range, ap (λ s. get_or s.sizes file 0) c.self.view_is) in
    let up : c.self.inside.up ≡ true = ap (λ s. s.up) c.self.view_is ∙ c.requires.up in
    let small_file : file < 2 ^ 32 = omega (arith, c.ranges.file.fits) in
    let small_at : at < 2 ^ 64 = omega (arith, c.ranges.at.fits) in
    let some : 0 < length bytes = some_bytes (length bytes) c.if-is_empty.ensures in
    let short = c.requires.short in
    let rest = told_by o sizes (g.D.Disk.size d0) (λ image is. g.met.D.Disk.is_whole d0 image is) inv.whole inv.told (inv.shut up) in
    let E = entry_bytes file at bytes in
    let p = seen c.journal.new.disk in
    let entry : take (64 + length bytes) c.deref-2.result.now ≡ E = ap (take (64 + length bytes)) c.deref-2.ensures.value ∙ front_is (64 + length bytes) c.fill_entry.new.buffer.items ∙ c.fill_entry.ensures.entry in
    let place : c.home_place.result + at ≡ home_of 16384 sizes file + at = (λ i. (c.home_place.ensures ∙ ap (λ (l : List ℕ). home_of 16384 l file) c.deref.ensures.value) i + at) in
    let done = subst (λ (e : List ℕ). p ≡ option_map (gated 1024 e 1) o) entry c.in_ok-journal.ensures.done in
    let waits = journal_whole sizes file at bytes below inside small_file small_at some short o p rest done in
    let jmoments = subst (λ (e : List ℕ). LeavesOnly g.D.Disk.moment g.D.Disk.left_since d0 c.journal.new.disk (Midway 1024 e o)) entry c.journal.ensures.moments in
    let q = seen c.home.new.disk in
    let hboth = subst (λ (h : ℕ). Both (MidWrite h bytes) p q) place c.home.ensures.seen in
    let hcrash = subst (λ (h : ℕ). (image : List ℕ) → g.D.Disk.may_leave c.home.new.disk image → Midway h bytes p image) place c.home.ensures.crash in
    let hmoments = subst (λ (h : ℕ). LeavesOnly g.D.Disk.moment g.D.Disk.left_since c.journal.new.disk c.home.new.disk (Midway h bytes p)) place c.home.ensures.moments in
    let home = home_seen sizes file at bytes below inside short p q waits.0 hboth in
    let after : (image : List ℕ) → Midway (home_of 16384 sizes file + at) bytes p image → IsEither file at bytes (held_in o) (held image) =
    λ image midway. inr (opens_held p image (home_crash sizes file at bytes below inside short p image waits.0 midway) ∙ waits.1) in (
      record {
        sizes_fit = inv.sizes_fit;
        whole = c.home.ensures.size ∙ c.journal.ensures.size ∙ inv.whole;
        told = home.0;
        readable = home.1;
        settled = λ is_up. absurd (cc is_up);
        shut = λ is_up. absurd (cc is_up);
      },
      c.fill_entry.ensures.size ∙ c.self.invariant.1,
    )

pub returns-in_err-home-clause-files : goal.returns-in_err-home-clause-files
returns-in_err-home-clause-files g c =
    let inv = c.self.invariant.0 in
    let seen = g.D.Disk.seen in
    let d0 = c.self.inside.disk in
    let sizes = c.self.inside.sizes.items in
    let file = c.args.file in
    let at = c.args.at in
    let bytes = c.args.bytes.now in
    let o = seen d0 in
    let below : file < length sizes = omega (arith, c.requires.file, ap (λ s. length s.sizes) c.self.view_is) in
    let inside : at + length bytes ≤ get_or sizes file 0 = omega (arith, c.requires.range, ap (λ s. get_or s.sizes file 0) c.self.view_is) in
    let up : c.self.inside.up ≡ true = ap (λ s. s.up) c.self.view_is ∙ c.requires.up in
    let small_file : file < 2 ^ 32 = omega (arith, c.ranges.file.fits) in
    let small_at : at < 2 ^ 64 = omega (arith, c.ranges.at.fits) in
    let some : 0 < length bytes = some_bytes (length bytes) c.if-is_empty.ensures in
    let short = c.requires.short in
    let rest = told_by o sizes (g.D.Disk.size d0) (λ image is. g.met.D.Disk.is_whole d0 image is) inv.whole inv.told (inv.shut up) in
    let E = entry_bytes file at bytes in
    let p = seen c.journal.new.disk in
    let entry : take (64 + length bytes) c.deref-2.result.now ≡ E = ap (take (64 + length bytes)) c.deref-2.ensures.value ∙ front_is (64 + length bytes) c.fill_entry.new.buffer.items ∙ c.fill_entry.ensures.entry in
    let place : c.home_place.result + at ≡ home_of 16384 sizes file + at = (λ i. (c.home_place.ensures ∙ ap (λ (l : List ℕ). home_of 16384 l file) c.deref.ensures.value) i + at) in
    let done = subst (λ (e : List ℕ). p ≡ option_map (gated 1024 e 1) o) entry c.in_ok-journal.ensures.done in
    let waits = journal_whole sizes file at bytes below inside small_file small_at some short o p rest done in
    let jmoments = subst (λ (e : List ℕ). LeavesOnly g.D.Disk.moment g.D.Disk.left_since d0 c.journal.new.disk (Midway 1024 e o)) entry c.journal.ensures.moments in
    let q = seen c.home.new.disk in
    let hboth = subst (λ (h : ℕ). Both (MidWrite h bytes) p q) place c.home.ensures.seen in
    let hcrash = subst (λ (h : ℕ). (image : List ℕ) → g.D.Disk.may_leave c.home.new.disk image → Midway h bytes p image) place c.home.ensures.crash in
    let hmoments = subst (λ (h : ℕ). LeavesOnly g.D.Disk.moment g.D.Disk.left_since c.journal.new.disk c.home.new.disk (Midway h bytes p)) place c.home.ensures.moments in
    let home = home_seen sizes file at bytes below inside short p q waits.0 hboth in
    let after : (image : List ℕ) → Midway (home_of 16384 sizes file + at) bytes p image → IsEither file at bytes (held_in o) (held image) =
    λ image midway. inr (opens_held p image (home_crash sizes file at bytes below inside short p image waits.0 midway) ∙ waits.1) in
    subst (λ s. IsEither file at bytes (files seen s) (held_in q)) c.self.view_is (inr (same_held p q home.2 ∙ waits.1))

pub returns-in_err-home-clause-crash : goal.returns-in_err-home-clause-crash
returns-in_err-home-clause-crash g c =
    let inv = c.self.invariant.0 in
    let seen = g.D.Disk.seen in
    let d0 = c.self.inside.disk in
    let sizes = c.self.inside.sizes.items in
    let file = c.args.file in
    let at = c.args.at in
    let bytes = c.args.bytes.now in
    let o = seen d0 in
    let below : file < length sizes = omega (arith, c.requires.file, ap (λ s. length s.sizes) c.self.view_is) in
    let inside : at + length bytes ≤ get_or sizes file 0 = omega (arith, c.requires.range, ap (λ s. get_or s.sizes file 0) c.self.view_is) in
    let up : c.self.inside.up ≡ true = ap (λ s. s.up) c.self.view_is ∙ c.requires.up in
    let small_file : file < 2 ^ 32 = omega (arith, c.ranges.file.fits) in
    let small_at : at < 2 ^ 64 = omega (arith, c.ranges.at.fits) in
    let some : 0 < length bytes = some_bytes (length bytes) c.if-is_empty.ensures in
    let short = c.requires.short in
    let rest = told_by o sizes (g.D.Disk.size d0) (λ image is. g.met.D.Disk.is_whole d0 image is) inv.whole inv.told (inv.shut up) in
    let E = entry_bytes file at bytes in
    let p = seen c.journal.new.disk in
    let entry : take (64 + length bytes) c.deref-2.result.now ≡ E = ap (take (64 + length bytes)) c.deref-2.ensures.value ∙ front_is (64 + length bytes) c.fill_entry.new.buffer.items ∙ c.fill_entry.ensures.entry in
    let place : c.home_place.result + at ≡ home_of 16384 sizes file + at = (λ i. (c.home_place.ensures ∙ ap (λ (l : List ℕ). home_of 16384 l file) c.deref.ensures.value) i + at) in
    let done = subst (λ (e : List ℕ). p ≡ option_map (gated 1024 e 1) o) entry c.in_ok-journal.ensures.done in
    let waits = journal_whole sizes file at bytes below inside small_file small_at some short o p rest done in
    let jmoments = subst (λ (e : List ℕ). LeavesOnly g.D.Disk.moment g.D.Disk.left_since d0 c.journal.new.disk (Midway 1024 e o)) entry c.journal.ensures.moments in
    let q = seen c.home.new.disk in
    let hboth = subst (λ (h : ℕ). Both (MidWrite h bytes) p q) place c.home.ensures.seen in
    let hcrash = subst (λ (h : ℕ). (image : List ℕ) → g.D.Disk.may_leave c.home.new.disk image → Midway h bytes p image) place c.home.ensures.crash in
    let hmoments = subst (λ (h : ℕ). LeavesOnly g.D.Disk.moment g.D.Disk.left_since c.journal.new.disk c.home.new.disk (Midway h bytes p)) place c.home.ensures.moments in
    let home = home_seen sizes file at bytes below inside short p q waits.0 hboth in
    let after : (image : List ℕ) → Midway (home_of 16384 sizes file + at) bytes p image → IsEither file at bytes (held_in o) (held image) =
    λ image midway. inr (opens_held p image (home_crash sizes file at bytes below inside short p image waits.0 midway) ∙ waits.1) in
    λ left may. subst (λ s. IsEither file at bytes (files seen s) left) c.self.view_is (subst (IsEither file at bytes (held_in o)) may.2 (after may.0 (hcrash may.0 may.1)))

pub returns-in_err-home-clause-moments : goal.returns-in_err-home-clause-moments
returns-in_err-home-clause-moments g c =
    let inv = c.self.invariant.0 in
    let seen = g.D.Disk.seen in
    let d0 = c.self.inside.disk in
    let sizes = c.self.inside.sizes.items in
    let file = c.args.file in
    let at = c.args.at in
    let bytes = c.args.bytes.now in
    let o = seen d0 in
    let below : file < length sizes = omega (arith, c.requires.file, ap (λ s. length s.sizes) c.self.view_is) in
    let inside : at + length bytes ≤ get_or sizes file 0 = omega (arith, c.requires.range, ap (λ s. get_or s.sizes file 0) c.self.view_is) in
    let up : c.self.inside.up ≡ true = ap (λ s. s.up) c.self.view_is ∙ c.requires.up in
    let small_file : file < 2 ^ 32 = omega (arith, c.ranges.file.fits) in
    let small_at : at < 2 ^ 64 = omega (arith, c.ranges.at.fits) in
    let some : 0 < length bytes = some_bytes (length bytes) c.if-is_empty.ensures in
    let short = c.requires.short in
    let rest = told_by o sizes (g.D.Disk.size d0) (λ image is. g.met.D.Disk.is_whole d0 image is) inv.whole inv.told (inv.shut up) in
    let E = entry_bytes file at bytes in
    let p = seen c.journal.new.disk in
    let entry : take (64 + length bytes) c.deref-2.result.now ≡ E = ap (take (64 + length bytes)) c.deref-2.ensures.value ∙ front_is (64 + length bytes) c.fill_entry.new.buffer.items ∙ c.fill_entry.ensures.entry in
    let place : c.home_place.result + at ≡ home_of 16384 sizes file + at = (λ i. (c.home_place.ensures ∙ ap (λ (l : List ℕ). home_of 16384 l file) c.deref.ensures.value) i + at) in
    let done = subst (λ (e : List ℕ). p ≡ option_map (gated 1024 e 1) o) entry c.in_ok-journal.ensures.done in
    let waits = journal_whole sizes file at bytes below inside small_file small_at some short o p rest done in
    let jmoments = subst (λ (e : List ℕ). LeavesOnly g.D.Disk.moment g.D.Disk.left_since d0 c.journal.new.disk (Midway 1024 e o)) entry c.journal.ensures.moments in
    let q = seen c.home.new.disk in
    let hboth = subst (λ (h : ℕ). Both (MidWrite h bytes) p q) place c.home.ensures.seen in
    let hcrash = subst (λ (h : ℕ). (image : List ℕ) → g.D.Disk.may_leave c.home.new.disk image → Midway h bytes p image) place c.home.ensures.crash in
    let hmoments = subst (λ (h : ℕ). LeavesOnly g.D.Disk.moment g.D.Disk.left_since c.journal.new.disk c.home.new.disk (Midway h bytes p)) place c.home.ensures.moments in
    let home = home_seen sizes file at bytes below inside short p q waits.0 hboth in
    let after : (image : List ℕ) → Midway (home_of 16384 sizes file + at) bytes p image → IsEither file at bytes (held_in o) (held image) =
    λ image midway. inr (opens_held p image (home_crash sizes file at bytes below inside short p image waits.0 midway) ∙ waits.1) in
    let both_runs = leaves_then g.D.Disk.moment g.D.Disk.left_since d0 c.journal.new.disk c.home.new.disk _ _ (λ image. IsEither file at bytes (held_in o) (held image)) jmoments hmoments
    (λ image midway. journal_crash sizes file at bytes below inside small_file small_at some short o image rest midway) after in
    let new : Stored g.row.D.Denot = record { disk = c.home.new.disk; sizes = sizes; up = false; refusal = c.self.inside.refusal } in
    subst (λ (s : Stored g.row.D.Denot). LeavesOnly (λ store. g.D.Disk.moment store.disk) (held_since g.D.Disk.left_since) s new (IsEither file at bytes (files seen s))) c.self.view_is
    (leaves_held g.D.Disk.moment g.D.Disk.left_since _ new _ _ both_runs (λ image either. either))

pub returns-in_err-home-clause-plan : goal.returns-in_err-home-clause-plan
returns-in_err-home-clause-plan g c =
    let p = g.D.Disk.plan in
    let d0 = c.self.inside.disk in
    let F = IsErr c.from_residual-in_err-home.result in
    plan_from (p d0) (p c.args.self.now.disk) (p c.home.new.disk) 8 0 F (ap (λ s. p s.disk) c.self.view_is)
    (plan_then (p d0) (p c.journal.new.disk) (p c.home.new.disk) 4 0 4 0 _ _ F (λ fails. is_an_err _ _ c.in_err-home.was) c.journal.ensures.plan c.home.ensures.plan)

pub invariant_of-self-2 : goal.invariant_of-self-2
invariant_of-self-2 g c =
    let inv = c.self.invariant.0 in
    let seen = g.D.Disk.seen in
    let d0 = c.self.inside.disk in
    let sizes = c.self.inside.sizes.items in
    let file = c.args.file in
    let at = c.args.at in
    let bytes = c.args.bytes.now in
    let o = seen d0 in
    let below : file < length sizes = omega (arith, c.requires.file, ap (λ s. length s.sizes) c.self.view_is) in
    let inside : at + length bytes ≤ get_or sizes file 0 = omega (arith, c.requires.range, ap (λ s. get_or s.sizes file 0) c.self.view_is) in
    let up : c.self.inside.up ≡ true = ap (λ s. s.up) c.self.view_is ∙ c.requires.up in
    let small_file : file < 2 ^ 32 = omega (arith, c.ranges.file.fits) in
    let small_at : at < 2 ^ 64 = omega (arith, c.ranges.at.fits) in
    let some : 0 < length bytes = some_bytes (length bytes) c.if-is_empty.ensures in
    let short = c.requires.short in
    let rest = told_by o sizes (g.D.Disk.size d0) (λ image is. g.met.D.Disk.is_whole d0 image is) inv.whole inv.told (inv.shut up) in
    let E = entry_bytes file at bytes in
    let p = seen c.journal.new.disk in
    let entry : take (64 + length bytes) c.deref-2.result.now ≡ E = ap (take (64 + length bytes)) c.deref-2.ensures.value ∙ front_is (64 + length bytes) c.fill_entry.new.buffer.items ∙ c.fill_entry.ensures.entry in
    let place : c.home_place.result + at ≡ home_of 16384 sizes file + at = (λ i. (c.home_place.ensures ∙ ap (λ (l : List ℕ). home_of 16384 l file) c.deref.ensures.value) i + at) in
    let done = subst (λ (e : List ℕ). p ≡ option_map (gated 1024 e 1) o) entry c.in_ok-journal.ensures.done in
    let waits = journal_whole sizes file at bytes below inside small_file small_at some short o p rest done in
    let jmoments = subst (λ (e : List ℕ). LeavesOnly g.D.Disk.moment g.D.Disk.left_since d0 c.journal.new.disk (Midway 1024 e o)) entry c.journal.ensures.moments in
    let q = seen c.home.new.disk in
    let hboth = subst (λ (h : ℕ). Both (MidWrite h bytes) p q) place c.home.ensures.seen in
    let hcrash = subst (λ (h : ℕ). (image : List ℕ) → g.D.Disk.may_leave c.home.new.disk image → Midway h bytes p image) place c.home.ensures.crash in
    let hmoments = subst (λ (h : ℕ). LeavesOnly g.D.Disk.moment g.D.Disk.left_since c.journal.new.disk c.home.new.disk (Midway h bytes p)) place c.home.ensures.moments in
    let home = home_seen sizes file at bytes below inside short p q waits.0 hboth in
    let after : (image : List ℕ) → Midway (home_of 16384 sizes file + at) bytes p image → IsEither file at bytes (held_in o) (held image) =
    λ image midway. inr (opens_held p image (home_crash sizes file at bytes below inside short p image waits.0 midway) ∙ waits.1) in
    let hdone = subst (λ (h : ℕ). q ≡ option_map (gated h bytes 0) p) place c.in_ok-home.ensures.done in
    let settled = home_whole sizes file at bytes below inside short p q waits.0 hdone in (
      record {
        sizes_fit = inv.sizes_fit;
        whole = c.home.ensures.size ∙ c.journal.ensures.size ∙ inv.whole;
        told = rest_told q sizes settled.0;
        readable = rest_readable q sizes settled.0;
        settled = λ is_up. c.in_ok-home.ensures.durable;
        shut = λ is_up. rest_shut q sizes settled.0;
      },
      c.fill_entry.ensures.size ∙ c.self.invariant.1,
    )

pub returns-clause-written : goal.returns-clause-written
returns-clause-written g c =
    let inv = c.self.invariant.0 in
    let seen = g.D.Disk.seen in
    let d0 = c.self.inside.disk in
    let sizes = c.self.inside.sizes.items in
    let file = c.args.file in
    let at = c.args.at in
    let bytes = c.args.bytes.now in
    let o = seen d0 in
    let below : file < length sizes = omega (arith, c.requires.file, ap (λ s. length s.sizes) c.self.view_is) in
    let inside : at + length bytes ≤ get_or sizes file 0 = omega (arith, c.requires.range, ap (λ s. get_or s.sizes file 0) c.self.view_is) in
    let up : c.self.inside.up ≡ true = ap (λ s. s.up) c.self.view_is ∙ c.requires.up in
    let small_file : file < 2 ^ 32 = omega (arith, c.ranges.file.fits) in
    let small_at : at < 2 ^ 64 = omega (arith, c.ranges.at.fits) in
    let some : 0 < length bytes = some_bytes (length bytes) c.if-is_empty.ensures in
    let short = c.requires.short in
    let rest = told_by o sizes (g.D.Disk.size d0) (λ image is. g.met.D.Disk.is_whole d0 image is) inv.whole inv.told (inv.shut up) in
    let E = entry_bytes file at bytes in
    let p = seen c.journal.new.disk in
    let entry : take (64 + length bytes) c.deref-2.result.now ≡ E = ap (take (64 + length bytes)) c.deref-2.ensures.value ∙ front_is (64 + length bytes) c.fill_entry.new.buffer.items ∙ c.fill_entry.ensures.entry in
    let place : c.home_place.result + at ≡ home_of 16384 sizes file + at = (λ i. (c.home_place.ensures ∙ ap (λ (l : List ℕ). home_of 16384 l file) c.deref.ensures.value) i + at) in
    let done = subst (λ (e : List ℕ). p ≡ option_map (gated 1024 e 1) o) entry c.in_ok-journal.ensures.done in
    let waits = journal_whole sizes file at bytes below inside small_file small_at some short o p rest done in
    let jmoments = subst (λ (e : List ℕ). LeavesOnly g.D.Disk.moment g.D.Disk.left_since d0 c.journal.new.disk (Midway 1024 e o)) entry c.journal.ensures.moments in
    let q = seen c.home.new.disk in
    let hboth = subst (λ (h : ℕ). Both (MidWrite h bytes) p q) place c.home.ensures.seen in
    let hcrash = subst (λ (h : ℕ). (image : List ℕ) → g.D.Disk.may_leave c.home.new.disk image → Midway h bytes p image) place c.home.ensures.crash in
    let hmoments = subst (λ (h : ℕ). LeavesOnly g.D.Disk.moment g.D.Disk.left_since c.journal.new.disk c.home.new.disk (Midway h bytes p)) place c.home.ensures.moments in
    let home = home_seen sizes file at bytes below inside short p q waits.0 hboth in
    let after : (image : List ℕ) → Midway (home_of 16384 sizes file + at) bytes p image → IsEither file at bytes (held_in o) (held image) =
    λ image midway. inr (opens_held p image (home_crash sizes file at bytes below inside short p image waits.0 midway) ∙ waits.1) in
    let hdone = subst (λ (h : ℕ). q ≡ option_map (gated h bytes 0) p) place c.in_ok-home.ensures.done in
    let settled = home_whole sizes file at bytes below inside short p q waits.0 hdone in
    same_held p q settled.1 ∙ waits.1 ∙ ap (λ s. option_map (written file at bytes) (files seen s)) c.self.view_is

pub returns-clause-files : goal.returns-clause-files
returns-clause-files g c = inr (returns-clause-written g c)

pub returns-clause-crash : goal.returns-clause-crash
returns-clause-crash g c =
    let inv = c.self.invariant.0 in
    let seen = g.D.Disk.seen in
    let d0 = c.self.inside.disk in
    let sizes = c.self.inside.sizes.items in
    let file = c.args.file in
    let at = c.args.at in
    let bytes = c.args.bytes.now in
    let o = seen d0 in
    let below : file < length sizes = omega (arith, c.requires.file, ap (λ s. length s.sizes) c.self.view_is) in
    let inside : at + length bytes ≤ get_or sizes file 0 = omega (arith, c.requires.range, ap (λ s. get_or s.sizes file 0) c.self.view_is) in
    let up : c.self.inside.up ≡ true = ap (λ s. s.up) c.self.view_is ∙ c.requires.up in
    let small_file : file < 2 ^ 32 = omega (arith, c.ranges.file.fits) in
    let small_at : at < 2 ^ 64 = omega (arith, c.ranges.at.fits) in
    let some : 0 < length bytes = some_bytes (length bytes) c.if-is_empty.ensures in
    let short = c.requires.short in
    let rest = told_by o sizes (g.D.Disk.size d0) (λ image is. g.met.D.Disk.is_whole d0 image is) inv.whole inv.told (inv.shut up) in
    let E = entry_bytes file at bytes in
    let p = seen c.journal.new.disk in
    let entry : take (64 + length bytes) c.deref-2.result.now ≡ E = ap (take (64 + length bytes)) c.deref-2.ensures.value ∙ front_is (64 + length bytes) c.fill_entry.new.buffer.items ∙ c.fill_entry.ensures.entry in
    let place : c.home_place.result + at ≡ home_of 16384 sizes file + at = (λ i. (c.home_place.ensures ∙ ap (λ (l : List ℕ). home_of 16384 l file) c.deref.ensures.value) i + at) in
    let done = subst (λ (e : List ℕ). p ≡ option_map (gated 1024 e 1) o) entry c.in_ok-journal.ensures.done in
    let waits = journal_whole sizes file at bytes below inside small_file small_at some short o p rest done in
    let jmoments = subst (λ (e : List ℕ). LeavesOnly g.D.Disk.moment g.D.Disk.left_since d0 c.journal.new.disk (Midway 1024 e o)) entry c.journal.ensures.moments in
    let q = seen c.home.new.disk in
    let hboth = subst (λ (h : ℕ). Both (MidWrite h bytes) p q) place c.home.ensures.seen in
    let hcrash = subst (λ (h : ℕ). (image : List ℕ) → g.D.Disk.may_leave c.home.new.disk image → Midway h bytes p image) place c.home.ensures.crash in
    let hmoments = subst (λ (h : ℕ). LeavesOnly g.D.Disk.moment g.D.Disk.left_since c.journal.new.disk c.home.new.disk (Midway h bytes p)) place c.home.ensures.moments in
    let home = home_seen sizes file at bytes below inside short p q waits.0 hboth in
    let after : (image : List ℕ) → Midway (home_of 16384 sizes file + at) bytes p image → IsEither file at bytes (held_in o) (held image) =
    λ image midway. inr (opens_held p image (home_crash sizes file at bytes below inside short p image waits.0 midway) ∙ waits.1) in
    λ left may. subst (λ s. IsEither file at bytes (files seen s) left) c.self.view_is (subst (IsEither file at bytes (held_in o)) may.2 (after may.0 (hcrash may.0 may.1)))

pub returns-clause-moments : goal.returns-clause-moments
returns-clause-moments g c =
    let inv = c.self.invariant.0 in
    let seen = g.D.Disk.seen in
    let d0 = c.self.inside.disk in
    let sizes = c.self.inside.sizes.items in
    let file = c.args.file in
    let at = c.args.at in
    let bytes = c.args.bytes.now in
    let o = seen d0 in
    let below : file < length sizes = omega (arith, c.requires.file, ap (λ s. length s.sizes) c.self.view_is) in
    let inside : at + length bytes ≤ get_or sizes file 0 = omega (arith, c.requires.range, ap (λ s. get_or s.sizes file 0) c.self.view_is) in
    let up : c.self.inside.up ≡ true = ap (λ s. s.up) c.self.view_is ∙ c.requires.up in
    let small_file : file < 2 ^ 32 = omega (arith, c.ranges.file.fits) in
    let small_at : at < 2 ^ 64 = omega (arith, c.ranges.at.fits) in
    let some : 0 < length bytes = some_bytes (length bytes) c.if-is_empty.ensures in
    let short = c.requires.short in
    let rest = told_by o sizes (g.D.Disk.size d0) (λ image is. g.met.D.Disk.is_whole d0 image is) inv.whole inv.told (inv.shut up) in
    let E = entry_bytes file at bytes in
    let p = seen c.journal.new.disk in
    let entry : take (64 + length bytes) c.deref-2.result.now ≡ E = ap (take (64 + length bytes)) c.deref-2.ensures.value ∙ front_is (64 + length bytes) c.fill_entry.new.buffer.items ∙ c.fill_entry.ensures.entry in
    let place : c.home_place.result + at ≡ home_of 16384 sizes file + at = (λ i. (c.home_place.ensures ∙ ap (λ (l : List ℕ). home_of 16384 l file) c.deref.ensures.value) i + at) in
    let done = subst (λ (e : List ℕ). p ≡ option_map (gated 1024 e 1) o) entry c.in_ok-journal.ensures.done in
    let waits = journal_whole sizes file at bytes below inside small_file small_at some short o p rest done in
    let jmoments = subst (λ (e : List ℕ). LeavesOnly g.D.Disk.moment g.D.Disk.left_since d0 c.journal.new.disk (Midway 1024 e o)) entry c.journal.ensures.moments in
    let q = seen c.home.new.disk in
    let hboth = subst (λ (h : ℕ). Both (MidWrite h bytes) p q) place c.home.ensures.seen in
    let hcrash = subst (λ (h : ℕ). (image : List ℕ) → g.D.Disk.may_leave c.home.new.disk image → Midway h bytes p image) place c.home.ensures.crash in
    let hmoments = subst (λ (h : ℕ). LeavesOnly g.D.Disk.moment g.D.Disk.left_since c.journal.new.disk c.home.new.disk (Midway h bytes p)) place c.home.ensures.moments in
    let home = home_seen sizes file at bytes below inside short p q waits.0 hboth in
    let after : (image : List ℕ) → Midway (home_of 16384 sizes file + at) bytes p image → IsEither file at bytes (held_in o) (held image) =
    λ image midway. inr (opens_held p image (home_crash sizes file at bytes below inside short p image waits.0 midway) ∙ waits.1) in
    let both_runs = leaves_then g.D.Disk.moment g.D.Disk.left_since d0 c.journal.new.disk c.home.new.disk _ _ (λ image. IsEither file at bytes (held_in o) (held image)) jmoments hmoments
    (λ image midway. journal_crash sizes file at bytes below inside small_file small_at some short o image rest midway) after in
    let new : Stored g.row.D.Denot = record { disk = c.home.new.disk; sizes = sizes; up = true; refusal = c.self.inside.refusal } in
    subst (λ (s : Stored g.row.D.Denot). LeavesOnly (λ store. g.D.Disk.moment store.disk) (held_since g.D.Disk.left_since) s new (IsEither file at bytes (files seen s))) c.self.view_is
    (leaves_held g.D.Disk.moment g.D.Disk.left_since _ new _ _ both_runs (λ image either. either))

pub returns-clause-plan : goal.returns-clause-plan
returns-clause-plan g c =
    let p = g.D.Disk.plan in
    let d0 = c.self.inside.disk in
    let F = IsErr {T = Unit {0}} {E = StoreError} (Ok tt) in
    plan_from (p d0) (p c.args.self.now.disk) (p c.home.new.disk) 8 0 F (ap (λ s. p s.disk) c.self.view_is)
    (plan_then (p d0) (p c.journal.new.disk) (p c.home.new.disk) 4 0 4 0 _ _ F (λ fails. absurd (cc fails)) c.journal.ensures.plan c.home.ensures.plan)

pub returns-then-is_empty-clause-written : goal.returns-then-is_empty-clause-written
returns-then-is_empty-clause-written g c =
    sym (written_nothing c.args.file c.args.at c.args.bytes.now (files g.D.Disk.seen c.args.self.now) (no_bytes (length c.args.bytes.now) c.if-is_empty.ensures))

pub returns-then-is_empty-clause-plan : goal.returns-then-is_empty-clause-plan
returns-then-is_empty-clause-plan g c =
    let p = g.D.Disk.plan c.args.self.now.disk in
    let F = IsErr {T = Unit {0}} {E = StoreError} (Ok tt) in
    plan_fewer p p p 0 0 8 0 F F (omega arith) (omega arith) (λ fails. fails) (plan_none F (λ fails. absurd (cc fails)) p)
