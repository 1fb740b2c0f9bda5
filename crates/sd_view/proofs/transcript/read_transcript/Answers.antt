use Rattle.std.proofs.Common.{◌<◌, length, refl, sym, ap, subst, arith, length-append}
use Rattle.std.proofs.lemmas.Bool.{false≢true}
use Rattle.std.specs.Prelude.{◌+◌, List}
use Rattle.sd_view.specs.declared.lines.Line.{Line}
use Rattle.sd_view.specs.declared.order.SoFar.{SoFar}
use Rattle.sd_view.specs.Transcript.{IsWhole}
use Rattle.sd_view.specs.Order.{MayFollow, after}
use Rattle.sd_view.proofs.WholeLine.{one_whole}
use Rattle.sd_view.proofs.Reading.{IsSoFar, so_far_goes_on, refused_here}
use Rattle.sd_view.proofs.transcript.read_transcript.Goals as goal

pub returns-then-not-may_follow-clause-refused : goal.returns-then-not-may_follow-clause-refused
returns-then-not-may_follow-clause-refused c =
    refused_here c.args.text.now c.loop-rest.rest.now c.loop-rest.run c.loop-rest.so_far c.loop-rest.number c.split_line.result.0.now c.split_line.result.1.now c.loop-rest.invariant c.split_line.ensures.lines
    (λ said h may. false≢true (c.if-not-may_follow.ensures.1 (subst (λ (line : Line). MayFollow c.loop-rest.so_far line) (one_whole c.split_line.result.0.now said c.in-Ok.said h c.in-Ok.ensures) may)))

pub returns-in-Err-Outside-clause-refused : goal.returns-in-Err-Outside-clause-refused
returns-in-Err-Outside-clause-refused c =
    let none : (said : Line) → IsWhole c.split_line.result.0.now said → ⊥ = rw c.in-Err-Outside.field-0-is at c.in-Err-Outside.ensures in
    refused_here c.args.text.now c.loop-rest.rest.now c.loop-rest.run c.loop-rest.so_far c.loop-rest.number c.split_line.result.0.now c.split_line.result.1.now c.loop-rest.invariant c.split_line.ensures.lines (λ said h may. none said h)

pub loop-rest-preserved : goal.loop-rest-preserved
loop-rest-preserved c =
    let may : MayFollow c.loop-rest.so_far c.in-Ok.said = c.if-not-may_follow.ensures.0 refl in
    let shorter : length c.split_line.result.1.now < length c.loop-rest.rest.now = omega (arith, ap length c.split_line.ensures.whole, length-append c.split_line.result.0.now c.split_line.result.1.now, c.split_line.ensures.some) in
    let new = so_far_goes_on c.args.text.now c.loop-rest.rest.now c.loop-rest.run c.loop-rest.so_far c.loop-rest.number c.split_line.result.0.now c.split_line.result.1.now c.in-Ok.said c.loop-rest.invariant
    c.split_line.ensures.lines shorter c.in-Ok.ensures may in
    subst (λ (s : SoFar). IsSoFar c.args.text.now c.split_line.result.1.now c.push.new.self s (c.loop-rest.number + 1)) (sym c.after-so_far.ensures)
    (subst (λ (r : List Line). IsSoFar c.args.text.now c.split_line.result.1.now r (after c.loop-rest.so_far c.in-Ok.said) (c.loop-rest.number + 1)) (sym c.in_ok-push-in-Ok.ensures.ok) new)
