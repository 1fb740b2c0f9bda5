use Rattle.sd_services.proofs.CallLaws.{asked_is_spelled}
use Rattle.sd_services.proofs.laws.asked_is_spelled.Goals as goal

pub returns : goal.returns
returns c = asked_is_spelled
