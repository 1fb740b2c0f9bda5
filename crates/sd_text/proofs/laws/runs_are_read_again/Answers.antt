use Rattle.sd_text.proofs.ItemLemmas.{one_runs}
use Rattle.sd_text.proofs.ReadBack.{runs_again}
use Rattle.sd_text.proofs.laws.runs_are_read_again.Goals as goal

pub returns : goal.returns
returns c = record { one = one_runs; again = runs_again }
