use Rattle.sd_claims.proofs.Counted.{uncounted_boot, uncounted_calls}
use Rattle.sd_claims.proofs.laws.counts_each_step.Goals as goal

pub returns-clause-boots : goal.returns-clause-boots
returns-clause-boots c = uncounted_boot

pub returns-clause-calls : goal.returns-clause-calls
returns-clause-calls c = uncounted_calls
