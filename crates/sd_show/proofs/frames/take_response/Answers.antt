use Rattle.std.specs.Prelude.{codes}
use Rattle.std.proofs.lemmas.Result.{err_from_is_err_and}
use Rattle.sd_text.specs.Kind.{◌&◌}
use Rattle.sd_text.proofs.Loops.{handed_on, first_none, second_none, given_none}
use Rattle.sd_show.specs.Lines.{ends, macs_value, host, host_value, response}
use Rattle.sd_show.proofs.frames.take_response.Goals as goal

pub returns-in_err-sender : goal.returns-in_err-sender
returns-in_err-sender c =
    let p = err_from_is_err_and c.from_residual-in_err-sender.result c.from_residual-in_err-sender.ensures.1 in
    let sender = host (codes " sender=") (codes " sender_ip=") in
    let target = host (codes " target=") (codes " target_ip=") in
    rw (p.1, p.2) (handed_on c.in_err-sender.field-0.0 c.in_err-sender.ensures (λ none.
    given_none 1 response c.args.reader.now (second_none ends (sender & target) c.args.reader.now c.take_ends.new.reader (macs_value (c.in_ok-dst.dst, c.in_ok-dst.src)) c.in_ok-dst.ensures
    (first_none sender target c.take_ends.new.reader none))))

pub returns-in_err-target : goal.returns-in_err-target
returns-in_err-target c =
    let p = err_from_is_err_and c.from_residual-in_err-target.result c.from_residual-in_err-target.ensures.1 in
    let sender = host (codes " sender=") (codes " sender_ip=") in
    let target = host (codes " target=") (codes " target_ip=") in
    rw (p.1, p.2) (handed_on c.in_err-target.field-0.0 c.in_err-target.ensures (λ none.
    given_none 1 response c.args.reader.now (second_none ends (sender & target) c.args.reader.now c.take_ends.new.reader (macs_value (c.in_ok-dst.dst, c.in_ok-dst.src)) c.in_ok-dst.ensures
    (second_none sender target c.take_ends.new.reader c.take_host.new.reader (host_value (c.in_ok-sender.sender, c.in_ok-sender.sender_ip)) c.in_ok-sender.ensures none))))
