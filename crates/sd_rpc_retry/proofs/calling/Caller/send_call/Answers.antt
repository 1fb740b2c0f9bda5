use Rattle.std.proofs.Common.{subst}
use Rattle.std.proofs.lemmas.Result.{IfOk-weaker}
use Rattle.sd_outside.specs.declared.packet.Addr.{Addr}
use Rattle.sd_outside.specs.declared.packet.Packet.{Packet}
use Rattle.sd_link.specs.Link.{Moves}
use Rattle.sd_rpc_retry.specs.Asking.{IsAsked}
use Rattle.sd_rpc_retry.specs.Calling.{request, hearing_of, reply_hearing, shown_as}
use Rattle.sd_rpc_retry.proofs.calling.Caller.send_call.Goals as goal

pub returns-clause-told : goal.returns-clause-told
returns-clause-told g c =
    let caller = c.args.self.now in
    let dst = c.args.dst in
    let asked = g.Q.Question.ask c.args.question.now in
    let show = shown_as g.Q.Question.shown in
    let old = g.L.Link.told c.args.link.now in
    let new = g.L.Link.told c.ask_counting.new.link in
    IfOk-weaker c.ask_counting.result
    (λ asking. Moves old new (IsAsked c.in_ok-request.request (reply_hearing c.home.result caller.next_xid dst asked) show caller.tries caller.wait asking))
    (λ asking. Moves old new (IsAsked (request caller dst asked) (hearing_of caller dst asked) show caller.tries caller.wait asking))
    (λ asking m.
    subst (λ (packet : Packet). Moves old new (IsAsked packet (hearing_of caller dst asked) show caller.tries caller.wait asking)) c.in_ok-request.ensures
    (subst (λ (me : Addr). Moves old new (IsAsked c.in_ok-request.request (reply_hearing me caller.next_xid dst asked) show caller.tries caller.wait asking)) c.home.ensures m))
    c.ask_counting.ensures.told
