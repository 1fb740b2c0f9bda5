use Rattle.std.proofs.Common.{refl, ◌*◌}
use Rattle.sd_view.proofs.PartsCut.{part_is}
use Rattle.sd_view.proofs.internet.part.Goals as goal

pub returns-clause-part : goal.returns-clause-part
returns-clause-part c = part_is c.args.bytes.now (1480 * c.args.index) c.min-size.result c.args.index refl c.min-size.ensures
