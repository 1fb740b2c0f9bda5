use Rattle.std.proofs.Common.{◌≤◌, length, false, [], arith}
use Rattle.sd_services.specs.Names.{child_name, listed, entries}
use Rattle.sd_nfs_server.proofs.Windows.{next_is, node_step, nodes_end}
use Rattle.sd_nfs_server.proofs.readdir.taken.Goals as goal

pub loop-node-preserved : goal.loop-node-preserved
loop-node-preserved c =
    let i = c.loop-node.invariant in
    let d = c.in_ok-offer_node.ensures in
    let n = next_is c.loop-node.window c.offer_node.new.self c.loop-node.child (child_name c.args.dir.now c.node-item.result.path) d in (
      omega (arith, i.0),
      omega (arith, i.1, n),
      node_step (record { after = c.args.after; room = c.args.room; next = 1; is_shut = false; entries = [] }) c.loop-node.window c.offer_node.new.self (entries 1 (listed c.args.nodes.now c.args.number c.args.dir.now)) c.args.dir.now c.loop-node.child c.loop-node.node-index c.args.nodes.now c.node-item.result c.loop-node-test.true c.node-item.is i.2 d,
    )

pub returns : goal.returns
returns c =
    let i = c.loop-node.invariant in
    let f = c.loop-node-test.false in
    let le : length c.args.nodes.now ≤ c.loop-node.node-index = omega (arith, f) in
    nodes_end c.args.room c.args.after (entries 1 (listed c.args.nodes.now c.args.number c.args.dir.now)) c.loop-node.window c.args.dir.now c.loop-node.child c.loop-node.node-index c.args.nodes.now le i.2
