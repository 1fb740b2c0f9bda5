use Rattle.sd_claims.proofs.Counted.{ports_differ}
use Rattle.sd_claims.proofs.laws.ports_differ.Goals as goal

pub returns : goal.returns
returns c = ports_differ
