use Rattle.sd_claims.proofs.OneAnswer.{has_one_answer, has_one_count}
use Rattle.sd_claims.proofs.laws.has_one_answer.Goals as goal

pub returns-clause-answer : goal.returns-clause-answer
returns-clause-answer c = has_one_answer

pub returns-clause-count : goal.returns-clause-count
returns-clause-count c = has_one_count
