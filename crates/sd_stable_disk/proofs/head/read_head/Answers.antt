use Rattle.std.proofs.Common.{◌≡◌, inl, inr, ℕ, ◌+◌, ◌-◌, ◌*◌, ◌<◌, ◌≤◌, min, [], ◌∷◌, ◌++◌, length, get_or, sym, ◌∙◌, ap, subst, arith, Ok, Err}
use Rattle.std.proofs.lemmas.List.{append-nil, length_push}
use Rattle.std.specs.Prelude.{None}
use Rattle.sd_outside.specs.Ranges.{part}
use Rattle.sd_stable_disk.specs.Image.{rounded, total, first_wrong, format_name, sizes_from, word32, word64}
use Rattle.sd_stable_disk.specs.declared.errors.OpenError.TheVariants.{Damaged, Version}
use Rattle.sd_stable_disk.proofs.HeadLaws.{told_wrong, told_version, told_count, told_size, told_other, told_whole, and_then, sizes_next, sizes_bad, total-push, each_push}
use Rattle.sd_stable_disk.proofs.head.read_head.Goals as goal
use Rattle.sd_stable_disk.proofs.head.read_head.Goals.{then-size-eq0-via-then-size-eq0, then-size-eq0-via-else-size-eq0+then-size-gt-LARGEST_FILE, then-size-eq0-via-else-size-eq0+else-size-gt-LARGEST_FILE+then-rounded_size-room}

pub returns-in-Some-clause-told : goal.returns-in-Some-clause-told
returns-in-Some-clause-told c =
    inr (told_wrong c.args.size c.args.head.now c.requires.long c.in-Some.place (sym c.wrong_name.ensures ∙ c.in-Some.is))

pub returns-then-version-ne1-clause-told : goal.returns-then-version-ne1-clause-told
returns-then-version-ne1-clause-told c =
    let size = c.args.size in
    let head = c.args.head.now in
    let long = c.requires.long in
    let right : first_wrong 0 format_name (part 0 8 head) ≡ None = sym c.wrong_name.ensures ∙ c.in_default.is in
    inr (told_version size head long right (λ same. c.if-version-ne1.true (c.word32_at-version.ensures ∙ same)) ∙ ap (λ v. Err (Version v)) (sym c.word32_at-version.ensures))

pub returns-then-count-gt-MOST_FILES-clause-told : goal.returns-then-count-gt-MOST_FILES-clause-told
returns-then-count-gt-MOST_FILES-clause-told c =
    let size = c.args.size in
    let head = c.args.head.now in
    let long = c.requires.long in
    let right : first_wrong 0 format_name (part 0 8 head) ≡ None = sym c.wrong_name.ensures ∙ c.in_default.is in
    let one : word32 8 head ≡ 1 = sym c.word32_at-version.ensures ∙ c.if-version-ne1.false in
    inr (told_count size head long right one (omega (arith, c.word32_at-count.ensures, c.if-count-gt-MOST_FILES.true)))

pub returns-then-size-eq0-clause-told : goal.returns-then-size-eq0-clause-told
returns-then-size-eq0-clause-told c =
    let size = c.args.size in
    let head = c.args.head.now in
    let long = c.requires.long in
    let right : first_wrong 0 format_name (part 0 8 head) ≡ None = sym c.wrong_name.ensures ∙ c.in_default.is in
    let one : word32 8 head ≡ 1 = sym c.word32_at-version.ensures ∙ c.if-version-ne1.false in
    let few : word32 12 head ≤ 16 = omega (arith, c.word32_at-count.ensures, c.if-count-gt-MOST_FILES.false) in
    let done = c.loop-file.sizes.items in
    let i = c.loop-file.file in
    let place = 16 + 8 * i in
    let room = c.loop-file.room in
    let count = word32 12 head in
    let inv = c.loop-file.invariant in
    let more : 0 < count - i = omega (arith, c.loop-file-test.true, c.word32_at-count.ensures) in
    let read = c.word64_at-size.ensures in
    elim c.then-size-eq0.branch [
      | then-size-eq0-via-then-size-eq0 w ↦ inr (told_size size head long right one few (Damaged (16 + 8 * i)) (inv.told ∙ sizes_bad done (16 + 8 * i) room (count - i) head more (inl (sym read ∙ w.if-size-eq0.true))))
      | then-size-eq0-via-else-size-eq0+then-size-gt-LARGEST_FILE w ↦ inr (told_size size head long right one few (Damaged (16 + 8 * i)) (inv.told ∙ sizes_bad done (16 + 8 * i) room (count - i) head more (inr (inl (omega (arith, read, w.if-size-gt-LARGEST_FILE.true))))))
      | then-size-eq0-via-else-size-eq0+else-size-gt-LARGEST_FILE+then-rounded_size-room w ↦ inr (told_size size head long right one few (Damaged (16 + 8 * i)) (inv.told ∙ sizes_bad done (16 + 8 * i) room (count - i) head more (inr (inr (omega (arith, w.rounded_size.ensures, ap rounded read, w.if-rounded_size-room.true))))))
    ]

pub loop-file-preserved : goal.loop-file-preserved
loop-file-preserved c =
    let size = c.args.size in
    let head = c.args.head.now in
    let long = c.requires.long in
    let right : first_wrong 0 format_name (part 0 8 head) ≡ None = sym c.wrong_name.ensures ∙ c.in_default.is in
    let done = c.loop-file.sizes.items in
    let i = c.loop-file.file in
    let place = 16 + 8 * i in
    let room = c.loop-file.room in
    let count = word32 12 head in
    let inv = c.loop-file.invariant in
    let new = c.add.new.sizes.items in
    let b = c.in_ok-add.ensures in
    let read = c.word64_at-size.ensures in
    let value = c.word64_at-size.result in
    let w = word64 (16 + 8 * i) head in
    let taken = c.rounded_size-room.result in
    let some : 0 < value = omega (arith, c.if-size-eq0.false) in
    let small : value ≤ 33554432 = omega (arith, c.if-size-gt-LARGEST_FILE.false) in
    let fits : rounded value ≤ room = omega (arith, c.rounded_size.ensures, c.if-rounded_size-room.false) in
    let more : 0 < count - i = omega (arith, c.loop-file-test.true, c.word32_at-count.ensures) in
    let next = sizes_next done (16 + 8 * i) room (count - i) head more (omega (arith, read, some)) (omega (arith, read, small)) (omega (arith, ap rounded read, fits)) in
    let p1 : (16 + 8 * i) + 8 ≡ 16 + 8 * (i + 1) = omega arith in
    let p2 : room - rounded w ≡ room - taken = omega (arith, ap rounded read, c.rounded_size-room.ensures) in
    let p3 : (count - i) - 1 ≡ count - (i + 1) = omega arith in
    let p4 : done ++ w ∷ [] ≡ new = (λ j. done ++ sym read j ∷ []) ∙ sym b in
    record {
      count = ap length b ∙ length_push done value ∙ ap (λ n. n + 1) inv.count;
      room = omega (arith, ap total b, total-push done value, c.rounded_size-room.ensures, inv.room, fits);
      each = subst (λ l. (file : ℕ) → file < length l → (0 < get_or l file 0) × (get_or l file 0 ≤ 33554432)) (sym b) (each_push done value inv.each some small);
      told = inv.told ∙ next ∙ (λ j. and_then (p4 j) (sizes_from (p1 j) (p2 j) (p3 j) head));
    }

pub returns-then-size-wanted-clause-told : goal.returns-then-size-wanted-clause-told
returns-then-size-wanted-clause-told c =
    let size = c.args.size in
    let head = c.args.head.now in
    let long = c.requires.long in
    let right : first_wrong 0 format_name (part 0 8 head) ≡ None = sym c.wrong_name.ensures ∙ c.in_default.is in
    let one : word32 8 head ≡ 1 = sym c.word32_at-version.ensures ∙ c.if-version-ne1.false in
    let few : word32 12 head ≤ 16 = omega (arith, c.word32_at-count.ensures, c.if-count-gt-MOST_FILES.false) in
    let done = c.loop-file.sizes.items in
    let i = c.loop-file.file in
    let place = 16 + 8 * i in
    let room = c.loop-file.room in
    let count = word32 12 head in
    let inv = c.loop-file.invariant in
    let ended : count - i ≡ 0 = omega (arith, c.loop-file-test.false, c.word32_at-count.ensures) in
    let all : sizes_from 16 50331648 count head ≡ Ok done = inv.told ∙ ap (λ n. and_then done (sizes_from (16 + 8 * i) room n head)) ended ∙ ap Ok (append-nil done) in
    let wanted : min size (16384 + total done) ≡ c.min.result = omega (arith, c.min.ensures, inv.room) in
    inr (told_other size head long right one few done all (λ same. c.if-size-wanted.true (omega (arith, same, inv.room))) ∙ ap (λ n. Err (Damaged n)) wanted)

pub returns-clause-told : goal.returns-clause-told
returns-clause-told c =
    let size = c.args.size in
    let head = c.args.head.now in
    let long = c.requires.long in
    let right : first_wrong 0 format_name (part 0 8 head) ≡ None = sym c.wrong_name.ensures ∙ c.in_default.is in
    let one : word32 8 head ≡ 1 = sym c.word32_at-version.ensures ∙ c.if-version-ne1.false in
    let few : word32 12 head ≤ 16 = omega (arith, c.word32_at-count.ensures, c.if-count-gt-MOST_FILES.false) in
    let done = c.loop-file.sizes.items in
    let i = c.loop-file.file in
    let place = 16 + 8 * i in
    let room = c.loop-file.room in
    let count = word32 12 head in
    let inv = c.loop-file.invariant in
    let ended : count - i ≡ 0 = omega (arith, c.loop-file-test.false, c.word32_at-count.ensures) in
    let all : sizes_from 16 50331648 count head ≡ Ok done = inv.told ∙ ap (λ n. and_then done (sizes_from (16 + 8 * i) room n head)) ended ∙ ap Ok (append-nil done) in
    told_whole size head long right one few done all (omega (arith, c.if-size-wanted.false, inv.room))
