use Rattle.std.proofs.lemmas.Result.{err_from_is_err_and}
use Rattle.sd_text.proofs.Exits.{handed_on}
use Rattle.sd_text.proofs.packets.read_frame.Goals as goal

pub returns-in_err-bytes : goal.returns-in_err-bytes
returns-in_err-bytes c =
    let p = err_from_is_err_and c.from_residual.result c.from_residual.ensures.1 in
    rw (p.1, p.2) (handed_on c.in_err-bytes.field-0.0 c.in_err-bytes.ensures (λ none z h. none h.bytes _ h.content h.text h.runs))
