use Rattle.std.proofs.Common.{◌∙◌, ap, sym}
use Rattle.std.specs.Option.{option_map}
use Rattle.sd_server.specs.Sessions.{bytes_at}
use Rattle.sd_server.proofs.Transfers.{filed_by, asked_none, asked_some}
use Rattle.sd_server.proofs.tftp.asked_for.Goals as goal

pub begins-requires : goal.begins-requires
begins-requires c = filed_by c.args.config.now c.args.made c.args.tick c.in-Some.file c.args.from c.args.name.now (c.place_of_file.ensures.found ∙ ap (option_map (bytes_at c.args.config.now)) c.in-Some.is) c.in-Some.ensures.named

pub returns-in_ok-refusal-in-None : goal.returns-in_ok-refusal-in-None
returns-in_ok-refusal-in-None c = λ part number.
    asked_none c.args.config.now c.args.tick part c.args.from c.args.name.now c.in_ok-refusal-in-None.field-0 (c.place_of_file.ensures.found ∙ ap (option_map (bytes_at c.args.config.now)) c.in-None.is) (c.in_ok-refusal-in-None.ensures part)

pub returns-in_ok-begins-in-Some : goal.returns-in_ok-begins-in-Some
returns-in_ok-begins-in-Some c = λ part number.
    asked_some c.args.config.now c.args.made c.args.tick c.in-Some.file part c.args.from c.args.name.now c.in_ok-begins-in-Some.field-0 number (c.place_of_file.ensures.found ∙ ap (option_map (bytes_at c.args.config.now)) c.in-Some.is) c.in-Some.ensures.named
    (c.in_ok-begins-in-Some.ensures part number)
