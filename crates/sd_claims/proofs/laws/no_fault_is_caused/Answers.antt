use Rattle.sd_claims.proofs.Came.{no_fault_is_caused, fault_is_told}
use Rattle.sd_claims.proofs.LastFault.{fault_is_last}
use Rattle.sd_claims.proofs.laws.no_fault_is_caused.Goals as goal

pub returns-clause-calm : goal.returns-clause-calm
returns-clause-calm c = no_fault_is_caused

pub returns-clause-told : goal.returns-clause-told
returns-clause-told c = fault_is_told

pub returns-clause-last : goal.returns-clause-last
returns-clause-last c = fault_is_last
