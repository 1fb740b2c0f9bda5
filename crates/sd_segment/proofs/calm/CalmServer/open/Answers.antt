use Rattle.sd_services.specs.Part.{swap_files}
use Rattle.sd_segment.proofs.Calming.{refused_calm}
use Rattle.sd_segment.proofs.calm.CalmServer.open.Goals as goal

pub returns-clause-refused : goal.returns-clause-refused
returns-clause-refused c = refused_calm c.args.disk.bytes.items (swap_files c.args.config.swap) c.in-Err.error c.requires.holds c.in-Err.ensures.refused c.in-Err.ensures.cause
