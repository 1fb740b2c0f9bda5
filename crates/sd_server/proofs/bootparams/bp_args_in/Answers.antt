use Rattle.std.proofs.Common.{◌≡◌}
use Rattle.std.specs.Option.{option_map}
use Rattle.std.proofs.lemmas.Result.{IfOk-weaker}
use Rattle.sd_bootparams.specs.Layout.{args_kind}
use Rattle.sd_services.specs.RpcCalls.{spelled}
use Rattle.sd_services.specs.RpcReply.{bp_args_in}
use Rattle.sd_server.specs.Services.{IsKnown}
use Rattle.sd_server.proofs.Known.{bp_known}
use Rattle.sd_server.proofs.bootparams.bp_args_in.Goals as goal

pub returns : goal.returns
returns c =
    IfOk-weaker c.known.result (IsKnown c.read_bp_args.result) (λ found. found ≡ option_map bp_args_in (spelled (args_kind c.args.proc_no) c.args.bytes.now))
    (λ found is. bp_known c.args.proc_no c.args.bytes.now c.read_bp_args.result found c.read_bp_args.ensures.answers is) c.known.ensures
