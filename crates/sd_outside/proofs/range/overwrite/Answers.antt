use Rattle.std.proofs.Common.{◌+◌, ◌-◌, length, List, ℕ, ◌∙◌, ap, arith}
use Rattle.sd_outside.specs.Ranges.{put}
use Rattle.sd_outside.proofs.RangeLaws.{put_mid-put, length-put, whole_vector}
use Rattle.sd_outside.proofs.range.overwrite.Goals as goal

pub returns : goal.returns
returns c =
    let written = put_mid-put c.args.at ((c.args.at + length c.args.with.now) - c.args.at) c.deref_mut.result.now _ c.args.with.now c.copy_from_slice.ensures.after (omega arith) ∙ ap (λ (l : List ℕ). put c.args.at c.args.with.now l) c.deref_mut.ensures.value in
    let size = length-put c.args.at c.args.with.now c.args.bytes.now.items c.requires in
    whole_vector c.args.bytes.now.len c.args.bytes.now.items _ (omega (arith, ap length written, size, c.args.bytes.now.ok.0)) ∙ written
