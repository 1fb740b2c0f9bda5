use Rattle.sd_view_laws.proofs.LineByLine as lemmas
use Rattle.sd_view_laws.proofs.laws.written_is_read.Goals as goal

pub returns-clause-written : goal.returns-clause-written
returns-clause-written c = lemmas.written_is_read

pub returns-clause-replayed : goal.returns-clause-replayed
returns-clause-replayed c = lemmas.replayed_is_read
