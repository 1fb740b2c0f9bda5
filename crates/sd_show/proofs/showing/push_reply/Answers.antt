use Rattle.std.proofs.Common.{◌++◌, List, ℕ, sym, ap, ◌∙◌}
use Rattle.std.specs.Prelude.{codes}
use Rattle.std.specs.Fmt.{decimal}
use Rattle.sd_rpc_msg.specs.declared.message.Outcome.TheVariants.{Success}
use Rattle.sd_show.proofs.Joined.{three, reply_said, reply_ends}
use Rattle.sd_show.proofs.showing.push_reply.Goals as goal

pub returns-in-Success : goal.returns-in-Success
returns-in-Success c =
    let r = c.args.reply.now in
    let xid = c.in_ok-number.ensures ∙ ap (λ (n : ℕ). c.said.new.self ++ decimal n) c.from.ensures in
    let word = three c.args.writer.now (codes "reply ") (decimal r.xid) (codes " ") c.said.new.self c.number.new.self c.said-2.new.self c.in_ok-said.ensures xid c.in_ok-said-2.ensures in
    reply_said c.args.asked r (Success c.in-Success.verf c.as_slice.result.now) c.args.writer.now c.said-2.new.self c.push_success.new.writer c.push_success.result
    (c.in-Success.is ∙ ap (λ (bs : List ℕ). Success c.in-Success.verf bs) (sym c.as_slice.ensures)) word c.push_success.ensures

pub returns : goal.returns
returns c =
    let r = c.args.reply.now in
    let xid = c.in_ok-number.ensures ∙ ap (λ (n : ℕ). c.said.new.self ++ decimal n) c.from.ensures in
    let word = three c.args.writer.now (codes "reply ") (decimal r.xid) (codes " ") c.said.new.self c.number.new.self c.said-2.new.self c.in_ok-said.ensures xid c.in_ok-said-2.ensures in
    reply_ends c.args.asked r c.args.writer.now c.said-2.new.self c.push_outcome.new.writer c.in_default.not-Success word c.in_ok-push_outcome.ensures
