use Rattle.std.proofs.Common.{◌≡◌}
use Rattle.std.specs.Prelude.{IfSome}
use Rattle.std.specs.Option.{option_map}
use Rattle.std.proofs.lemmas.Result.{IfOk-weaker}
use Rattle.sd_rpc_msg.specs.Layout.{message, message_value}
use Rattle.sd_rpc_msg.specs.Laws.{IsMessage}
use Rattle.sd_services.specs.RpcCalls.{spelled}
use Rattle.sd_rpc_retry.specs.Reading.{IsKnown}
use Rattle.sd_rpc_retry.proofs.Known.{known_says, known_is_message}
use Rattle.sd_rpc_retry.proofs.reply.message_in.Goals as goal

pub returns-clause-value : goal.returns-clause-value
returns-clause-value c =
    IfOk-weaker c.known.result (IsKnown c.read_message.result) (λ found. option_map message_value found ≡ spelled message c.args.bytes.now)
    (λ found is. known_says message message_value c.args.bytes.now c.read_message.result found c.read_message.ensures.answers is) c.known.ensures

pub returns-clause-rules : goal.returns-clause-rules
returns-clause-rules c =
    IfOk-weaker c.known.result (IsKnown c.read_message.result) (λ found. IfSome found IsMessage)
    (λ found is. known_is_message c.args.bytes.now c.read_message.result found c.read_message.ensures.answers is) c.known.ensures
