use Rattle.sd_view.proofs.Narrow.{line_narrow}
use Rattle.sd_view.proofs.laws.narrow_rows.Goals as goal

pub returns : goal.returns
returns c = line_narrow
