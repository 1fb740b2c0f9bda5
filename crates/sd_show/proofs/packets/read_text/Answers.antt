use Rattle.std.proofs.lemmas.Result.{err_from_is_err_and}
use Rattle.sd_show.proofs.PackedLines.{read_room, text_read, text_refused}
use Rattle.sd_show.proofs.packets.read_text.Goals as goal

pub returns-in_err-line : goal.returns-in_err-line
returns-in_err-line c =
    let p = err_from_is_err_and c.from_residual.result c.from_residual.ensures.1 in
    rw (p.1, p.2) (text_refused c.args.text.now c.in_err-line.field-0.0 c.in_err-line.ensures.takes)

pub packet_of-requires : goal.packet_of-requires
packet_of-requires c = read_room c.args.text.now c.in_ok-line.line c.in_ok-line.ensures.takes c.in_ok-line.ensures.written

pub returns : goal.returns
returns c = text_read c.args.text.now c.in_ok-line.line c.packet_of.result c.in_ok-line.ensures.takes c.in_ok-line.ensures.written c.packet_of.ensures
