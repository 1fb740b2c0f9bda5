use Rattle.std.proofs.Common.{◌+◌, ◌++◌, ◌∙◌, ap, sym, subst}
use Rattle.sd_text.specs.Texts.{Text}
use Rattle.sd_script.proofs.ScriptLemmas.{IsNextLine}
use Rattle.sd_boot.proofs.Turning.{IsSoFar, pushed, so_far_goes_on}
use Rattle.sd_boot.proofs.packet_texts.translated.Goals as goal

pub loop-rest-preserved : goal.loop-rest-preserved
loop-rest-preserved c =
    let next : IsNextLine c.loop-rest.rest.now c.split_line.result.0.now c.split_line.result.1.now =
    record { lines_are = c.split_line.ensures.lines; whole = c.split_line.ensures.whole; some = c.split_line.ensures.some } in
    let first = c.in_ok-push_slice-in-Ok.ensures.ok ∙ ap (λ (t : Text). c.loop-rest.output ++ t) c.as_slice.ensures in
    let new = pushed c.loop-rest.output c.in-Ok.given c.push_slice.new.self c.push_slice-in-Ok.new.self first c.in_ok-push_slice-in-Ok-2.ensures.ok in
    subst (λ (o : Text). IsSoFar c.args.direction c.args.text.now c.split_line.result.1.now o (c.loop-rest.number + 1) c.turned.new.seen) (sym new)
    (so_far_goes_on c.args.direction c.args.text.now c.loop-rest.rest.now c.loop-rest.output c.loop-rest.number c.loop-rest.seen c.turned.new.seen _ _ c.in-Ok.given c.loop-rest.invariant next c.in-Ok.ensures.within c.in-Ok.ensures.given)
