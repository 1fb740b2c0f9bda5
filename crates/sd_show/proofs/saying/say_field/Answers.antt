use Rattle.std.proofs.Common.{◌++◌}
use Rattle.std.specs.Prelude.{codes}
use Rattle.sd_show.specs.Forms.{text_kind, form_kind}
use Rattle.sd_show.specs.Fields.{field_name, field_form}
use Rattle.sd_show.proofs.Tells.{said_says}
use Rattle.sd_show.proofs.saying.say_field.Goals as goal

pub returns : goal.returns
returns c =
    let F = field_form c.args.one in
    said_says (text_kind F) (form_kind F) (codes " " ++ (field_name c.args.one ++ codes "=")) c.args.reader.now c.say_form.new.reader c.args.writer.now c.say_name.new.writer c.say_form.new.writer c.say_form.result
    c.in_ok-say_name.ensures (rw (← c.form.ensures) c.say_form.ensures)
