use Rattle.sd_show.proofs.Knowing.{at_name, later_name}
use Rattle.sd_show.proofs.procedures.known_by_name.Goals as goal

pub returns-clause-at : goal.returns-clause-at
returns-clause-at c = at_name c.args.text.now c.find_name.result c.find_name.ensures

pub returns-clause-later : goal.returns-clause-later
returns-clause-later c = later_name c.args.text.now c.find_name.result c.find_name.ensures
