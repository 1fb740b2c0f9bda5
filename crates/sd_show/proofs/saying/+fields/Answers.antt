use Rattle.std.proofs.Common.{◌++◌, ℕ, ap, ◌∙◌}
use Rattle.std.specs.Prelude.{codes}
use Rattle.std.specs.Fmt.{decimal}
use Rattle.std.proofs.lemmas.Result.{err_from_is_err_and}
use Rattle.sd_xdr.specs.declared.error.MsgError.TheVariants.{Xdr}
use Rattle.sd_show.specs.declared.fields.Field.TheVariants as names
use Rattle.sd_show.specs.Fields.{field_name, fields_text, fields_kind}
use Rattle.sd_show.specs.Packing.{fields_of}
use Rattle.sd_show.proofs.Tells.{row_stops, both_says, given_says, nothing_says, status_alone, status_says, status_stops}
use Rattle.sd_show.proofs.saying.+fields.Goals as goal

pub say_checked-returns-in_err-status : goal.say_checked-returns-in_err-status
say_checked-returns-in_err-status t c =
    let p = err_from_is_err_and c.from_residual.result c.from_residual.ensures.1 in
    rw (p.1, p.2) (status_stops (fields_kind (fields_of c.args.inner.now)) c.args.reader.now (Xdr c.in_err-status.field-0.0) c.in_err-status.ensures.0)

pub say_checked-returns-then-status-ne0 : goal.say_checked-returns-then-status-ne0
say_checked-returns-then-status-ne0 t c =
    let A = fields_of c.args.inner.now in
    status_alone (fields_text A) (fields_kind A) (codes " " ++ (field_name names.Status ++ codes "=")) c.args.reader.now c.u32.new.self c.args.writer.now c.say_name.new.writer c.number.new.self c.in_ok-status.status
    c.in_ok-status.ensures c.if-status-ne0.true c.in_ok-say_name.ensures (c.in_ok-number.ensures ∙ ap (λ (n : ℕ). c.say_name.new.writer ++ decimal n) c.from.ensures)

pub say_checked-returns : goal.say_checked-returns
say_checked-returns t c =
    let A = fields_of c.args.inner.now in
    status_says (fields_text A) (fields_kind A) (codes " " ++ (field_name names.Status ++ codes "=")) c.args.reader.now c.u32.new.self c.say_fields.new.reader c.args.writer.now c.say_name.new.writer c.number.new.self c.say_fields.new.writer c.in_ok-status.status c.say_fields.result
    c.in_ok-status.ensures c.if-status-ne0.false c.in_ok-say_name.ensures (c.in_ok-number.ensures ∙ ap (λ (n : ℕ). c.say_name.new.writer ++ decimal n) c.from.ensures) c.say_fields.ensures

pub say_fields-returns-in_err-say_fields-in-Both : goal.say_fields-returns-in_err-say_fields-in-Both
say_fields-returns-in_err-say_fields-in-Both t c =
    let p = err_from_is_err_and c.from_residual.result c.from_residual.ensures.1 in
    rw (c.in-Both.is, p.1, p.2) (row_stops (fields_kind (fields_of c.in-Both.first.now)) (fields_kind (fields_of c.in-Both.second.now)) c.args.reader.now c.in_err-say_fields-in-Both.field-0.0 c.in_err-say_fields-in-Both.ensures)

pub say_fields-returns-in-Nothing : goal.say_fields-returns-in-Nothing
say_fields-returns-in-Nothing t c = rw c.in-Nothing.is (nothing_says c.args.reader.now c.args.writer.now)

pub say_fields-returns-in_ok-say_fields-in-Both : goal.say_fields-returns-in_ok-say_fields-in-Both
say_fields-returns-in_ok-say_fields-in-Both t c =
    let A = fields_of c.in-Both.first.now in
    let B = fields_of c.in-Both.second.now in
    rw c.in-Both.is (both_says (fields_text A) (fields_text B) (fields_kind A) (fields_kind B) c.args.reader.now c.say_fields.new.reader c.say_fields-in-Both.new.reader
    c.args.writer.now c.say_fields.new.writer c.say_fields-in-Both.new.writer c.say_fields-in-Both.result c.in_ok-say_fields-in-Both.ensures c.say_fields-in-Both.ensures)

pub say_fields-returns-in-Numbered : goal.say_fields-returns-in-Numbered
say_fields-returns-in-Numbered t c =
    let A = fields_of c.in-Numbered.inner.now in
    rw c.in-Numbered.is (given_says c.in-Numbered.field-0 (fields_text A) (fields_kind A) c.args.reader.now c.say_fields-in-Numbered.new.reader c.args.writer.now c.say_fields-in-Numbered.new.writer c.say_fields-in-Numbered.result c.say_fields-in-Numbered.ensures)
