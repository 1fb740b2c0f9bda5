use Rattle.sd_claims.proofs.Came.{address_is_configured, program_is_configured}
use Rattle.sd_claims.proofs.laws.shows_what_is_configured.Goals as goal

pub returns-clause-address : goal.returns-clause-address
returns-clause-address c = address_is_configured

pub returns-clause-program : goal.returns-clause-program
returns-clause-program c = program_is_configured
