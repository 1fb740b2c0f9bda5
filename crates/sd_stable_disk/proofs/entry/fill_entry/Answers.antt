use Rattle.std.proofs.Common.{◌+◌, ◌++◌, length, replicate, ◌∙◌, ap, arith, refl}
use Rattle.sd_outside.specs.Ranges.{part, put}
use Rattle.sd_stable_disk.proofs.EntryLaws.{filled}
use Rattle.sd_stable_disk.proofs.entry.fill_entry.Goals as goal

pub returns-clause-entry : goal.returns-clause-entry
returns-clause-entry c =
    let bytes = c.args.bytes.now in
    let f = c.to_be_bytes.result in
    let l = c.to_be_bytes-2.result in
    let a = c.to_be_bytes-3.result in
    let z = replicate 48 0 in
    let all = c.overwrite-5.ensures.after ∙ ap (put 64 bytes) (c.overwrite-4.ensures.after ∙ ap (put 16 z) (c.overwrite-3.ensures.after ∙ ap (put 8 a) (c.overwrite-2.ensures.after ∙ ap (put 4 l) c.overwrite.ensures.after))) in
    ap (part 0 (64 + length bytes)) all
    ∙ filled c.args.buffer.now.items f l a z bytes (ap length c.to_be_bytes.ensures) (ap length c.to_be_bytes-2.ensures) (ap length c.to_be_bytes-3.ensures) refl (omega (arith, c.requires.short, c.requires.room))
    ∙ (λ i. c.to_be_bytes.ensures i ++ c.to_be_bytes-2.ensures i ++ c.to_be_bytes-3.ensures i ++ z ++ bytes)
