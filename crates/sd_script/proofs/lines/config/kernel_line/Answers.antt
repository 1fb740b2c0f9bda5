use Rattle.std.proofs.lemmas.Result.{err_from_is_err_and}
use Rattle.sd_text.proofs.Exits.{handed_on}
use Rattle.sd_script.proofs.lines.config.kernel_line.Goals as goal

pub returns-in_err-path : goal.returns-in_err-path
returns-in_err-path c =
    let p = err_from_is_err_and c.from_residual-in_err-path.result c.from_residual-in_err-path.ensures.1 in
    rw (p.1, p.2) (handed_on c.in_err-path.field-0.0 c.in_err-path.ensures (λ none other h. none h.path _ h.text h.is_path))
