use Rattle.std.proofs.Common.{◌≡◌, ◌-◌, length, ◌∙◌, ap, arith, replicate, false, rules}
use Rattle.std.proofs.lemmas.List.{length-replicate}
use Rattle.sd_outside.specs.Ranges.{put}
use Rattle.sd_outside.proofs.RangeLaws.{put_mid-put, length-put, whole_vector}
use Rattle.sd_outside.proofs.range.unmark.Goals as goal

pub returns : goal.returns
returns c =
    let span = c.args.span in
    let marks = replicate (span.end - span.start) false in
    let long : length marks ≡ span.end - span.start = length-replicate (span.end - span.start) false in
    let filled : c.fill.new.self ≡ marks = search rules in
    let written = put_mid-put span.start (span.end - span.start) c.deref_mut.result.now _ marks filled (omega (arith, long)) ∙ ap (put span.start marks) c.deref_mut.ensures.value in
    let size = length-put span.start marks c.args.marks.now.items (omega (arith, long, c.requires.ordered, c.requires.inside)) in
    whole_vector c.args.marks.now.len c.args.marks.now.items _ (omega (arith, ap length written, size, c.args.marks.now.ok.0)) ∙ written
