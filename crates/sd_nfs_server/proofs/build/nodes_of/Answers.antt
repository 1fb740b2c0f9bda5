use Rattle.std.proofs.Common.{◌≡◌, ◌+◌, ◌*◌, ◌≤◌, ℕ, length, sym, subst, arith}
use Rattle.sd_nfs_server.proofs.Keeping.{Kept}
use Rattle.sd_nfs_server.proofs.Lines.{Below, item_step, item_longer, numbered, nodes_fit}
use Rattle.sd_nfs_server.proofs.build.nodes_of.Goals as goal

pub loop-item-preserved : goal.loop-item-preserved
loop-item-preserved c =
    let i = c.loop-item.invariant in
    let l = item_longer c.args.items.now c.requires c.loop-item.item-index c.item-item.result c.loop-item-test.true (sym c.item-item.is) c.loop-item.nodes.items c.place_item.new.nodes.items c.in_ok-place_item.ensures in (
      item_step c.args.items.now c.requires c.loop-item.item-index c.item-item.result c.loop-item-test.true (sym c.item-item.is) c.loop-item.nodes.items c.place_item.new.nodes.items i.0 c.in_ok-place_item.ensures,
      omega (arith, i.1, l),
    )

pub returns-clause-numbered : goal.returns-clause-numbered
returns-clause-numbered c =
    let e : c.loop-item.item-index ≡ length c.args.items.now = omega (arith, c.loop-item.auto.item-index-end, c.loop-item-test.false) in
    numbered c.args.items.now c.loop-item.nodes.items (subst (λ (n : ℕ). Kept (Below c.args.items.now n) c.loop-item.nodes.items) e c.loop-item.invariant.0)

pub returns-clause-fit : goal.returns-clause-fit
returns-clause-fit c =
    let e : c.loop-item.item-index ≡ length c.args.items.now = omega (arith, c.loop-item.auto.item-index-end, c.loop-item-test.false) in
    let i = subst (λ (n : ℕ). Kept (Below c.args.items.now n) c.loop-item.nodes.items × (length c.loop-item.nodes.items ≤ 1 + 1025 * n)) e c.loop-item.invariant in
    nodes_fit c.args.items.now c.requires c.loop-item.nodes.items i.1 i.0
