use Rattle.std.proofs.Common.{◌≡◌, ◌^◌, ◌<◌, length}
use Rattle.std.proofs.lemmas.Result.{IfOk-weaker}
use Rattle.sd_bootparams.specs.Layout.{args_bytes}
use Rattle.sd_rpc_retry.proofs.ShortArgs.{short_args}
use Rattle.sd_rpc_retry.proofs.request.bootparams_args.Goals as goal

pub returns-clause-short : goal.returns-clause-short
returns-clause-short c =
    IfOk-weaker c.write_bp_args.result (λ bytes. bytes ≡ args_bytes c.args.args.now) (λ bytes. length bytes < 2 ^ 32)
    (λ bytes is. short_args c.args.args.now bytes is c.requires) c.write_bp_args.ensures
