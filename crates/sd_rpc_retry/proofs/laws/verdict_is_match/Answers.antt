use Rattle.sd_rpc_retry.proofs.MatchLaw.{verdict_is_match}
use Rattle.sd_rpc_retry.proofs.laws.verdict_is_match.Goals as goal

pub returns : goal.returns
returns c = verdict_is_match
