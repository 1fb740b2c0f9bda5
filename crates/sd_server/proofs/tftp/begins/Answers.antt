use Rattle.sd_server.proofs.Transfers.{begins_so}
use Rattle.sd_server.proofs.tftp.begins.Goals as goal

pub returns : goal.returns
returns c = λ part number. begins_so c.args.config.now part c.args.made c.args.tick c.args.file c.args.from c.new.result c.in_ok-packet.packet c.new.ensures number c.requires c.in_ok-packet.ensures
