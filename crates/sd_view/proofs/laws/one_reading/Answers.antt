use Rattle.sd_view.proofs.OneRun.{one_run, never_both, either, one_first}
use Rattle.sd_view.proofs.laws.one_reading.Goals as goal

pub returns : goal.returns
returns c = record { one = one_run; never_both = never_both; either = either; one_line = one_first }
