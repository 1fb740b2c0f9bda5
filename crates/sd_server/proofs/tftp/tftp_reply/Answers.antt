use Rattle.std.proofs.Common.{◌≡◌, ◌∙◌, ap, sym, Ok, Result, subst}
use Rattle.sd_tftp.specs.Reading.{reading, Gives}
use Rattle.sd_tftp.specs.declared.packet.TftpPacket.{TftpPacket}
use Rattle.sd_tftp.specs.declared.packet.TftpError.{TftpError}
use Rattle.sd_server.proofs.Transfers.{at_port}
use Rattle.sd_server.proofs.tftp.tftp_reply.Goals as goal

pub returns-in_ok-by_port-in-Ok : goal.returns-in_ok-by_port-in-Ok
returns-in_ok-by_port-in-Ok c = λ part are number.
    let read : reading c.args.body.now ≡ Ok c.in-Ok.packet = c.in-Ok.ensures.exact in
    at_port c.args.config.now c.args.tick part c.args.from c.args.port c.args.body.now c.in-Ok.packet c.in_ok-by_port-in-Ok.field-0 c.requires.port read (c.in_ok-by_port-in-Ok.ensures part are number)
