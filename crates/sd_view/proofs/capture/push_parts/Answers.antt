use Rattle.std.proofs.Common.{◌∙◌, ◌++◌, ap, List, ℕ}
use Rattle.sd_view.specs.Capture.{framed}
use Rattle.sd_view.proofs.Framing.{one_framed}
use Rattle.sd_view.specs.Internet.{parts_of}
use Rattle.std.specs.Prelude.{length}
use Rattle.sd_view.proofs.capture.push_parts.Goals as goal

pub loop-index-preserved : goal.loop-index-preserved
loop-index-preserved c =
    one_framed c.args.tick c.args.id c.args.src c.args.dst c.args.bytes.now c.loop-index.out c.push_frame.new.out _ c.loop-index.index (parts_of (length c.args.bytes.now)) (rw c.parts_of-index-end.ensures at c.loop-index-test.true) c.loop-index.invariant
    (c.in_ok-push_frame.ensures ∙ ap (λ (frame : List ℕ). c.loop-index.out ++ framed c.args.tick frame) (c.as_slice.ensures ∙ c.in_ok-frame.ensures.bytes))
