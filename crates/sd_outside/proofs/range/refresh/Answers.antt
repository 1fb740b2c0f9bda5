use Rattle.std.proofs.Common.{◌≡◌, ◌-◌, length, refl, sym, ◌∙◌, ap, subst, arith}
use Rattle.sd_outside.specs.Ranges.{part, put}
use Rattle.sd_outside.specs.Kept.{Outside, Refreshed}
use Rattle.sd_outside.proofs.RangeLaws.{put_mid-put, length-part, length-put, whole_vector}
use Rattle.sd_outside.proofs.RefreshLaws.{refreshed_put}
use Rattle.sd_outside.proofs.range.refresh.Goals as goal

pub returns : goal.returns
unfolding part
returns g c =
    let span = c.args.span in
    let from = c.args.from.now in
    let items = c.args.items.now.items in
    let copied = part span.start (span.end - span.start) from in
    let size : length copied ≡ span.end - span.start = length-part span.start (span.end - span.start) from (omega (arith, c.requires.ordered, c.requires.inside, c.requires.size)) in
    let written = put_mid-put span.start (span.end - span.start) c.deref_mut.result.now _ copied c.copy_from_slice.ensures.after (sym size) ∙ ap (put span.start copied) c.deref_mut.ensures.value in
    let long = length-put span.start copied items (omega (arith, size, c.requires.inside, c.requires.ordered)) in
    let whole = whole_vector c.args.items.now.len items _ (omega (arith, ap length written, long, c.args.items.now.ok.0)) ∙ written in
    subst (λ l. Refreshed (Outside span) from items l) (sym whole) (refreshed_put from items copied span.start span.end c.requires.ordered c.requires.inside c.requires.size refl)
