use Rattle.std.proofs.lemmas.Result.{err_from_is_err_and}
use Rattle.sd_text.proofs.Loops.{handed_on}
use Rattle.sd_show.specs.Programs.{args, args_kind}
use Rattle.sd_show.specs.Packing.{fields_of}
use Rattle.sd_show.proofs.Agreeing.{args_are}
use Rattle.sd_show.proofs.ArgsTaken.{taken, none_taken}
use Rattle.sd_show.proofs.packing.take_args.Goals as goal

pub returns-in_err-take_fields-clause-takes : goal.returns-in_err-take_fields-clause-takes
returns-in_err-take_fields-clause-takes c =
    let p = err_from_is_err_and c.from_residual.result c.from_residual.ensures.1 in
    rw (p.1, p.2) (handed_on c.in_err-take_fields.field-0.0 c.in_err-take_fields.ensures (λ none.
    none_taken (fields_of c.args-2.result) (args c.args.known) c.new-writer.result c.args.reader.now c.args-2.ensures none))

pub returns-clause-takes : goal.returns-clause-takes
returns-clause-takes c =
    (taken (fields_of c.args-2.result) (args c.args.known) (args_kind c.args.known) c.new-writer.result c.args.reader.now c.take_fields.new.writer c.finish.result c.take_fields.new.reader
    c.args-2.ensures (args_are c.args.known) c.new-writer.ensures c.finish.ensures c.in_ok-take_fields.ensures).takes

pub returns-clause-written : goal.returns-clause-written
returns-clause-written c =
    (taken (fields_of c.args-2.result) (args c.args.known) (args_kind c.args.known) c.new-writer.result c.args.reader.now c.take_fields.new.writer c.finish.result c.take_fields.new.reader
    c.args-2.ensures (args_are c.args.known) c.new-writer.ensures c.finish.ensures c.in_ok-take_fields.ensures).written
