use Rattle.sd_services.proofs.CallLaws.{change_is_written}
use Rattle.sd_services.proofs.laws.change_is_written.Goals as goal

pub returns : goal.returns
returns c = change_is_written
