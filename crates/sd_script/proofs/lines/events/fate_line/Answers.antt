use Rattle.std.proofs.Common.{List, sym, ◌∙◌, subst}
use Rattle.std.proofs.lemmas.Bool.{false≢true}
use Rattle.std.proofs.lemmas.Result.{err_from_is_err_and}
use Rattle.sd_text.specs.Texts.{Text, IsNumber}
use Rattle.sd_script.specs.Lines.{IsDelays, MayAddFate}
use Rattle.sd_text.proofs.Exits.{handed_on, firsts, others}
use Rattle.sd_text.proofs.NumberLemmas.{one_number}
use Rattle.sd_script.proofs.lines.events.fate_line.Goals as goal

pub returns-in_err-delays : goal.returns-in_err-delays
returns-in_err-delays c =
    let p = err_from_is_err_and c.from_residual-in_err-delays.result c.from_residual-in_err-delays.ensures.1 in
    let id = (c.in_ok-id.ensures) in
    let life = c.args.draft.now.config.life in
    rw (p.1, p.2) (handed_on c.in_err-delays.field-0.0 c.in_err-delays.ensures
    (λ none other h. none h.fate.delays (subst (λ (parts : List Text). IsDelays life parts h.fate.delays) (others (sym h.text ∙ id.1)) h.are_delays)))

pub returns-then-not-may_add : goal.returns-then-not-may_add
returns-then-not-may_add c = λ other h.
    let id = (c.in_ok-id.ensures) in
    let here : IsNumber 0 4294967295 h.id c.in_ok-id.id = rw (firsts (sym id.1 ∙ h.text)) at id.2 in
    let same = one_number 0 4294967295 h.id h.fate.id c.in_ok-id.id h.is_id here in
    let may : MayAddFate c.args.draft.now.fates c.in_ok-id.id = rw same at h.may in
    false≢true ((c.if-not-may_add.ensures).1 may)
