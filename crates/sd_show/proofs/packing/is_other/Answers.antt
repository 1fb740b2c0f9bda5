use Rattle.sd_show.proofs.Knowing.{other_found}
use Rattle.sd_show.proofs.packing.is_other.Goals as goal

pub returns-clause-is : goal.returns-clause-is
returns-clause-is c = other_found c.args.procedure c.known_by_numbers.result c.is_none.result c.known_by_numbers.ensures c.is_none.ensures
