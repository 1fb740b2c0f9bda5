use Rattle.sd_services.proofs.CallLaws.{access_is_spelled}
use Rattle.sd_services.proofs.laws.access_is_spelled.Goals as goal

pub returns : goal.returns
returns c = access_is_spelled
