use Rattle.std.proofs.Common.{◌/◌, ◌%◌, sym, refl, ◌∙◌, arith}
use Rattle.std.proofs.lemmas.Result.{err_from_is_err_and}
use Rattle.sd_text.specs.Texts.{IsNumber, IsIp}
use Rattle.sd_text.proofs.Exits.{takes_exit, others}
use Rattle.sd_text.proofs.fields.read_ip.Goals as goal

pub returns-in_err-second : goal.returns-in_err-second
returns-in_err-second c =
    let p = err_from_is_err_and c.from_residual-in_err-second.result c.from_residual-in_err-second.ensures.1 in
    let first = (c.in_ok-first.ensures) in
    takes_exit (IsNumber 0 255) c.take_number.new.fields (IsIp c.args.text.now) p.1 p.2 c.in_err-second.ensures
    (λ none z h. none _ _ (z / 65536 % 256) (others (sym first.1 ∙ c.new-parts.ensures ∙ h.parts)) record { is = refl; low = omega arith; high = omega arith; fits = omega arith })

pub returns-in_err-third : goal.returns-in_err-third
returns-in_err-third c =
    let p = err_from_is_err_and c.from_residual-in_err-third.result c.from_residual-in_err-third.ensures.1 in
    let first = (c.in_ok-first.ensures) in
    let second = (c.in_ok-second.ensures) in
    takes_exit (IsNumber 0 255) c.take_number-2.new.fields (IsIp c.args.text.now) p.1 p.2 c.in_err-third.ensures
    (λ none z h. none _ _ (z / 256 % 256) (others (sym second.1 ∙ others (sym first.1 ∙ c.new-parts.ensures ∙ h.parts))) record { is = refl; low = omega arith; high = omega arith; fits = omega arith })
