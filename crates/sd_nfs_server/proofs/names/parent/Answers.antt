use Rattle.sd_nfs_server.proofs.Children.{parent_is, parent_missing, no_parent}
use Rattle.sd_nfs_server.proofs.names.parent.Goals as goal

pub returns-in-Some-number_at-clause-is : goal.returns-in-Some-number_at-clause-is
returns-in-Some-number_at-clause-is c = parent_is c.args.nodes.now c.args.path.now c.in-Some.at c.in-Some-number_at.number c.in-Some.ensures c.in-Some-number_at.ensures.is

pub returns-in-None-number_at-clause-is : goal.returns-in-None-number_at-clause-is
returns-in-None-number_at-clause-is c = parent_missing c.args.nodes.now c.args.path.now c.in-Some.at c.in-Some.ensures c.in-None-number_at.ensures.is

pub returns-in-None-clause-is : goal.returns-in-None-clause-is
returns-in-None-clause-is c = no_parent c.args.nodes.now c.args.path.now c.in-None.ensures
