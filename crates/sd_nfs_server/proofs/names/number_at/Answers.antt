use Rattle.std.proofs.Common.{◌∙◌, sym}
use Rattle.std.proofs.Math.Bool.{true≢false}
use Rattle.sd_nfs_server.proofs.Order.{number_there, number_missing}
use Rattle.sd_nfs_server.proofs.names.number_at.Goals as goal

pub returns-then-stands_at-clause-is : goal.returns-then-stands_at-clause-is
returns-then-stands_at-clause-is c = number_there c.args.nodes.now c.args.path.now c.place_of-at.result c.place_of-at.ensures (c.stands_at.ensures.0 c.if-stands_at.true)

pub returns-else-stands_at-clause-is : goal.returns-else-stands_at-clause-is
returns-else-stands_at-clause-is c =
    number_missing c.args.nodes.now c.args.path.now c.place_of-at.result c.requires.up c.place_of-at.ensures (λ has. true≢false (sym (c.stands_at.ensures.1 has) ∙ c.if-stands_at.false))
