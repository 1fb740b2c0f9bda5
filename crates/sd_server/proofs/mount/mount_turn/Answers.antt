use Rattle.std.proofs.Common.{◌≡◌, Some, None, refl, ap, sym, ◌∙◌}
use Rattle.std.specs.Option.{option_map}
use Rattle.sd_services.specs.MountReply.{mount, mount_args_in}
use Rattle.sd_mount.specs.Layout.{args_kind}
use Rattle.sd_services.specs.RpcCalls.{spelled}
use Rattle.sd_server.specs.declared.coming.Coming.{Coming}
use Rattle.sd_server.specs.declared.coming.Coming.TheVariants.{Nowhere, Refused, Asks}
use Rattle.sd_server.specs.declared.service.Service.TheVariants.{Mount}
use Rattle.sd_server.specs.Services.{program_of}
use Rattle.sd_server.specs.Coming.{comes_as, arrival}
use Rattle.sd_server.proofs.Arriving.{replies_as}
use Rattle.sd_server.proofs.MountsFit.{refused_mounts, called_mounts}
use Rattle.sd_server.proofs.mount.mount_turn.Goals as goal

pub returns-in-Refused-clause-reply : goal.returns-in-Refused-clause-reply
returns-in-Refused-clause-reply c =
    replies_as (mount c.args.setup.now c.args.mounts.now c.args.from) (λ v. None) c.args.body.now (Refused c.in-Refused.reply) (Some c.in-Refused.reply)
    (c.in_ok-arrive.ensures.comes ∙ ap (comes_as (program_of Mount)) c.in-Refused.is) refl

pub returns-in-Refused-clause-mounts : goal.returns-in-Refused-clause-mounts
returns-in-Refused-clause-mounts c = λ part same.
    refused_mounts c.args.setup.now c.args.mounts.now c.args.from part c.args.body.now c.in-Refused.reply (c.in_ok-arrive.ensures.comes ∙ ap (comes_as (program_of Mount)) c.in-Refused.is) same

pub returns-in_ok-called-in-Asks-clause-mounts : goal.returns-in_ok-called-in-Asks-clause-mounts
returns-in_ok-called-in-Asks-clause-mounts c = λ part same.
    called_mounts c.args.setup.now c.args.mounts.now c.args.from part c.args.body.now c.in-Asks.xid (spelled (args_kind c.in-Asks.proc_no) c.in-Asks.args) c.in_ok-found-in-Asks.found c.in_ok-called-in-Asks.called.change
    (c.in_ok-arrive.ensures.comes ∙ ap (comes_as (program_of Mount)) c.in-Asks.is)
    (c.in_ok-found-in-Asks.ensures.found ∙ ap (λ bs. option_map mount_args_in (spelled (args_kind c.in-Asks.proc_no) bs)) c.as_slice.ensures)
    (c.in_ok-called-in-Asks.ensures.mounts part same)
