use Rattle.std.proofs.Common.{◌∷◌, [], ◌++◌}
use Rattle.std.proofs.lemmas.Result.{err_from_is_err_and}
use Rattle.sd_text.proofs.Loops.{handed_on}
use Rattle.sd_show.specs.Forms.{text_kind, form_kind}
use Rattle.sd_show.specs.Fields.{field_name, field_form}
use Rattle.sd_show.proofs.Packed.{name_cut, field_ends}
use Rattle.sd_show.proofs.taking.take_field.Goals as goal

pub returns-in_err-take_name : goal.returns-in_err-take_name
returns-in_err-take_name c =
    let p = err_from_is_err_and c.from_residual.result c.from_residual.ensures.1 in
    let F = field_form c.args.one in
    rw (p.1, p.2) (handed_on c.in_err-take_name.field-0.0 c.in_err-take_name.ensures (λ none.
    name_cut (text_kind F) (form_kind F) (32 ∷ (field_name c.args.one ++ 61 ∷ [])) c.args.writer.now c.args.reader.now none))

pub returns : goal.returns
returns c =
    let F = field_form c.args.one in
    field_ends (text_kind F) (form_kind F) (32 ∷ (field_name c.args.one ++ 61 ∷ [])) c.args.writer.now c.args.reader.now c.take_name.new.reader c.take_form.new.writer c.take_form.new.reader c.take_form.result
    c.in_ok-take_name.ensures (rw (← c.form.ensures) c.take_form.ensures)
