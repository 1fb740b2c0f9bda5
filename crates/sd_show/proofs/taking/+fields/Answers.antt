use Rattle.std.proofs.Common.{◌++◌, codes}
use Rattle.sd_show.specs.declared.fields.Field.TheVariants as names
use Rattle.std.proofs.lemmas.Result.{err_from_is_err_and}
use Rattle.sd_text.proofs.Loops.{handed_on}
use Rattle.sd_show.specs.Fields.{field_name, fields_text, fields_kind}
use Rattle.sd_show.specs.Packing.{fields_of}
use Rattle.sd_show.proofs.Packed.{both_none, both_ends, numbered_ends, status_none, status_alone, status_ends}
use Rattle.sd_show.proofs.taking.+fields.Goals as goal

pub take_fields-returns-in_err-take_fields-in-Both : goal.take_fields-returns-in_err-take_fields-in-Both
take_fields-returns-in_err-take_fields-in-Both t c =
    let p = err_from_is_err_and c.from_residual.result c.from_residual.ensures.1 in
    rw (c.in-Both.is, p.1, p.2) (handed_on c.in_err-take_fields-in-Both.field-0.0 c.in_err-take_fields-in-Both.ensures (λ none.
    both_none (fields_text (fields_of c.in-Both.first.now)) (fields_text (fields_of c.in-Both.second.now)) (fields_kind (fields_of c.in-Both.first.now)) (fields_kind (fields_of c.in-Both.second.now)) c.args.writer.now c.args.reader.now none))

pub take_fields-returns-in_ok-take_fields-in-Both : goal.take_fields-returns-in_ok-take_fields-in-Both
take_fields-returns-in_ok-take_fields-in-Both t c =
    rw c.in-Both.is (both_ends (fields_text (fields_of c.in-Both.first.now)) (fields_text (fields_of c.in-Both.second.now)) (fields_kind (fields_of c.in-Both.first.now)) (fields_kind (fields_of c.in-Both.second.now)) c.args.writer.now c.args.reader.now
    c.take_fields.new.writer c.take_fields.new.reader c.take_fields-in-Both.new.writer c.take_fields-in-Both.new.reader c.take_fields-in-Both.result c.in_ok-take_fields-in-Both.ensures c.take_fields-in-Both.ensures)

pub take_fields-returns-in-Numbered : goal.take_fields-returns-in-Numbered
take_fields-returns-in-Numbered t c =
    rw c.in-Numbered.is (numbered_ends c.in-Numbered.field-0 (fields_text (fields_of c.in-Numbered.inner.now)) (fields_kind (fields_of c.in-Numbered.inner.now)) c.args.writer.now c.args.reader.now
    c.take_fields-in-Numbered.new.writer c.take_fields-in-Numbered.new.reader c.take_fields-in-Numbered.result c.take_fields-in-Numbered.ensures)

pub take_checked-returns-in_err-status : goal.take_checked-returns-in_err-status
take_checked-returns-in_err-status t c =
    let p = err_from_is_err_and c.from_residual.result c.from_residual.ensures.1 in
    rw (p.1, p.2) (handed_on c.in_err-status.field-0.0 c.in_err-status.ensures (λ none.
    status_none (fields_text (fields_of c.args.inner.now)) (fields_kind (fields_of c.args.inner.now)) (codes " " ++ (field_name names.Status ++ codes "=")) c.args.writer.now c.args.reader.now none))

pub take_checked-returns-then-status-ne0 : goal.take_checked-returns-then-status-ne0
take_checked-returns-then-status-ne0 t c =
    status_alone (fields_text (fields_of c.args.inner.now)) (fields_kind (fields_of c.args.inner.now)) (codes " " ++ (field_name names.Status ++ codes "=")) c.args.writer.now c.u32.new.self c.args.reader.now c.take_status.new.reader c.in_ok-status.status
    c.in_ok-status.ensures c.in_ok-u32.ensures.ok c.if-status-ne0.true

pub take_checked-returns : goal.take_checked-returns
take_checked-returns t c =
    status_ends (fields_text (fields_of c.args.inner.now)) (fields_kind (fields_of c.args.inner.now)) (codes " " ++ (field_name names.Status ++ codes "=")) c.args.writer.now c.u32.new.self c.args.reader.now c.take_status.new.reader c.in_ok-status.status
    c.take_fields.new.writer c.take_fields.new.reader c.take_fields.result c.in_ok-status.ensures c.in_ok-u32.ensures.ok c.if-status-ne0.false c.take_fields.ensures
