use Rattle.std.proofs.Common.{sym, subst}
use Rattle.sd_rpc_msg.specs.declared.message.Call.{Call}
use Rattle.sd_rpc_msg.specs.declared.message.Message.TheVariants.{Asked}
use Rattle.sd_rpc_msg.specs.Layout.{MessageFits}
use Rattle.sd_rpc_retry.proofs.ShortCred.{call_fits}
use Rattle.sd_rpc_retry.proofs.calling.Caller.request.Goals as goal

pub write_message-requires : goal.write_message-requires
write_message-requires g c =
    subst (λ (k : Call). MessageFits (Asked k)) (sym c.in_ok-call.ensures)
    (call_fits c.args.self.now.machine c.requires.machine c.args.self.now.next_xid c.args.dst (g.Q.Question.ask c.args.question.now))
