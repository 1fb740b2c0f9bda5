use Rattle.sd_mount.proofs.Read.{fits_if_read}
use Rattle.sd_mount.proofs.reading.read_mount_result.Goals as goal

pub returns-clause-fits : goal.returns-clause-fits
returns-clause-fits c = fits_if_read c.args.proc_no c.args.bytes.now c.read_body.result c.read_body.ensures.answers
