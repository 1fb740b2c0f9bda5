use Rattle.std.proofs.Common.{◌+◌, ◌-◌, ◌/◌, ◌<◌, length, sym, ◌∙◌, subst, arith}
use Rattle.std.proofs.Math.Bool.{true≢false}
use Rattle.std.proofs.lemmas.List.{get_or_default}
use Rattle.sd_services.specs.declared.node.Node.{Node}
use Rattle.sd_services.specs.Files.{IsBefore}
use Rattle.sd_nfs_server.proofs.Order.{between_all, upper_half, lower_half}
use Rattle.sd_nfs_server.proofs.build.place_of.Goals as goal

pub loop-low-init : goal.loop-low-init
loop-low-init c = between_all c.args.nodes.now c.args.path.now

pub loop-low-preserved-then-stands_before : goal.loop-low-preserved-then-stands_before
loop-low-preserved-then-stands_before c =
    let l = c.loop-low in
    let path = c.args.path.now in
    let nodes = c.args.nodes.now in
    let middle = l.low + (l.high - l.low) / 2 in
    let less : middle < l.high = omega (arith, c.loop-low-test.true) in
    let inside : middle < length nodes = omega (arith, less, l.invariant.inside) in
    upper_half nodes path l.low l.high middle c.requires l.invariant less (omega arith)
    (λ d. subst (λ (n : Node). IsBefore n.path path) (c.index-nodes-middle.is ∙ get_or_default nodes middle _ d inside) (c.stands_before.ensures.0 c.if-stands_before.true))

pub loop-low-preserved : goal.loop-low-preserved
loop-low-preserved c =
    let l = c.loop-low in
    let path = c.args.path.now in
    let nodes = c.args.nodes.now in
    let middle = l.low + (l.high - l.low) / 2 in
    let less : middle < l.high = omega (arith, c.loop-low-test.true) in
    let inside : middle < length nodes = omega (arith, less, l.invariant.inside) in
    lower_half nodes path l.low l.high middle c.requires l.invariant less (omega arith)
    (λ d before. true≢false (sym (c.stands_before.ensures.1 (subst (λ (n : Node). IsBefore n.path path) (sym (c.index-nodes-middle.is ∙ get_or_default nodes middle _ d inside)) before)) ∙ c.if-stands_before.false))
