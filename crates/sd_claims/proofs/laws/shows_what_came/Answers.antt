use Rattle.sd_claims.proofs.Came.{address_was_told, program_was_fetched, wait_passed}
use Rattle.sd_claims.proofs.laws.shows_what_came.Goals as goal

pub returns-clause-address : goal.returns-clause-address
returns-clause-address c = address_was_told

pub returns-clause-program : goal.returns-clause-program
returns-clause-program c = program_was_fetched

pub returns-clause-wait : goal.returns-clause-wait
returns-clause-wait c = wait_passed
