use Rattle.std.proofs.Common.{sym, ◌∙◌}
use Rattle.sd_text.specs.Texts.{IsNumber}
use Rattle.sd_text.proofs.Exits.{firsts, others}
use Rattle.sd_text.proofs.NumberLemmas.{one_number}
use Rattle.sd_script.specs.Lines.{fault_number}
use Rattle.sd_script.proofs.lines.events.fault_line.Goals as goal

pub returns-in_default-planned : goal.returns-in_default-planned
returns-in_default-planned c = λ other h.
    let first = sym (c.in-Some.ensures) ∙ h.text in
    let number = (c.in_ok-number.ensures) in
    let here : IsNumber 0 4294967295 h.number c.in_ok-number.number = rw (firsts (sym number.1 ∙ others first)) at number.2 in
    let same = one_number 0 4294967295 h.number (fault_number h.fault) c.in_ok-number.number h.is_number here in
    (c.in_default-planned.ensures) h.fault (firsts first, sym same)
