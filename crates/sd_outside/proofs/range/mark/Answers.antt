use Rattle.std.proofs.Common.{◌≡◌, ◌+◌, ◌-◌, length, List, Bool, ◌∙◌, ap, arith, replicate, true, rules}
use Rattle.std.proofs.lemmas.List.{length-replicate}
use Rattle.sd_outside.specs.Ranges.{put}
use Rattle.sd_outside.proofs.RangeLaws.{put_mid-put, length-put, whole_vector}
use Rattle.sd_outside.proofs.range.mark.Goals as goal

pub returns : goal.returns
returns c =
    let marks = replicate c.args.count true in
    let long : length marks ≡ c.args.count = length-replicate c.args.count true in
    let filled : c.fill.new.self ≡ marks = search rules in
    let written = put_mid-put c.args.at ((c.args.at + c.args.count) - c.args.at) c.deref_mut.result.now _ marks filled (omega (arith, long)) ∙ ap (λ (l : List Bool). put c.args.at marks l) c.deref_mut.ensures.value in
    let size = length-put c.args.at marks c.args.marks.now.items (omega (arith, long, c.requires)) in
    whole_vector c.args.marks.now.len c.args.marks.now.items _ (omega (arith, ap length written, size, c.args.marks.now.ok.0)) ∙ written
