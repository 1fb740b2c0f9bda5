use Rattle.std.proofs.Common.{sym, ◌∙◌}
use Rattle.std.proofs.lemmas.Result.{err_from_is_err_and}
use Rattle.sd_text.proofs.Exits.{handed_on, others}
use Rattle.sd_view.proofs.OneLine.{packet_alike}
use Rattle.sd_view.proofs.lines.read_sent.Goals as goal

pub returns-in_err-packet : goal.returns-in_err-packet
returns-in_err-packet c =
    let p = err_from_is_err_and c.from_residual-in_err-packet.result c.from_residual-in_err-packet.ensures.1 in
    rw (p.1, p.2) (handed_on c.in_err-packet.field-0.0 c.in_err-packet.ensures
    (λ none z h. none h.packet (packet_alike h.rest c.in-Some-split_word.rest.now h.packet (others (others (sym h.text ∙ c.in-Some.ensures) ∙ c.in-Some-split_word.ensures)) h.is_packet)))
