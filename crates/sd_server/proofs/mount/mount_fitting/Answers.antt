use Rattle.std.proofs.Common.{◌≡◌, sym, subst}
use Rattle.std.proofs.lemmas.Result.{IfOk-weaker}
use Rattle.sd_mount.specs.declared.message.MountResult.{MountResult}
use Rattle.sd_mount.specs.Layout.{ResultFits}
use Rattle.sd_services.specs.MountReply.{mount_answer}
use Rattle.sd_server.proofs.MountsFit.{mount_answer_fits}
use Rattle.sd_server.proofs.mount.mount_fitting.Goals as goal

pub returns-clause-fits : goal.returns-clause-fits
returns-clause-fits c =
    IfOk-weaker c.mount_answer.result (λ answer. answer ≡ mount_answer c.args.setup.now c.args.mounts.now c.args.from c.args.args.now) ResultFits
    (λ answer is. subst ResultFits (sym is) (mount_answer_fits c.args.setup.now c.mount_answer.ensures.rules c.args.mounts.now c.requires c.args.from c.args.args.now)) c.mount_answer.ensures.answer
