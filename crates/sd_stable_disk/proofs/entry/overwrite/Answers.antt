use Rattle.std.proofs.Common.{◌+◌, ◌-◌, length, List, ℕ, ◌∙◌, ap, arith}
use Rattle.sd_outside.specs.Ranges.{put}
use Rattle.sd_outside.proofs.RangeLaws.{put_mid-put, length-put, whole_vector}
use Rattle.sd_stable_disk.proofs.entry.overwrite.Goals as goal

pub returns-clause-after : goal.returns-clause-after
returns-clause-after c =
    let written = put_mid-put c.args.at ((c.args.at + length c.args.bytes.now) - c.args.at) c.deref_mut.result.now _ c.args.bytes.now c.copy_from_slice.ensures.after (omega arith) ∙ ap (λ (l : List ℕ). put c.args.at c.args.bytes.now l) c.deref_mut.ensures.value in
    let size = length-put c.args.at c.args.bytes.now c.args.buffer.now.items c.requires in
    whole_vector c.args.buffer.now.len c.args.buffer.now.items _ (omega (arith, ap length written, size, c.args.buffer.now.ok.0)) ∙ written

pub returns-clause-size : goal.returns-clause-size
returns-clause-size c = ap length (returns-clause-after c) ∙ length-put c.args.at c.args.bytes.now c.args.buffer.now.items c.requires
