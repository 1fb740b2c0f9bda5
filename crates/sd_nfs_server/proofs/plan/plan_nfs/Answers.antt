use Rattle.sd_nfs_server.proofs.Fitting.{fits}
use Rattle.sd_nfs_server.proofs.plan.plan_nfs.Goals as goal

pub returns-clause-fits : goal.returns-clause-fits
returns-clause-fits c = fits c.args.tree.now c.args.from c.args.args.now c.in_ok-plan.plan c.decide.ensures.fit c.in_ok-plan.ensures.exact
