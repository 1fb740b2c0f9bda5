use Rattle.std.proofs.Common.{◌≡◌}
use Rattle.std.specs.Option.{option_map}
use Rattle.std.proofs.lemmas.Result.{IfOk-weaker}
use Rattle.sd_mount.specs.Layout.{result_kind, result_value}
use Rattle.sd_services.specs.RpcCalls.{spelled}
use Rattle.sd_rpc_retry.specs.Reading.{IsKnown}
use Rattle.sd_rpc_retry.proofs.Known.{known_says}
use Rattle.sd_rpc_retry.proofs.reply.mnt_result_in.Goals as goal

pub returns-clause-value : goal.returns-clause-value
returns-clause-value c =
    IfOk-weaker c.known.result (IsKnown c.read_mount_result.result) (λ found. option_map result_value found ≡ spelled (result_kind 1) c.args.bytes.now)
    (λ found is. known_says (result_kind 1) result_value c.args.bytes.now c.read_mount_result.result found c.read_mount_result.ensures.answers is) c.known.ensures
