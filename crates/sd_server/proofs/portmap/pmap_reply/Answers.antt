use Rattle.std.proofs.Common.{◌≡◌, Some, None, refl, ap, ◌∙◌}
use Rattle.sd_services.specs.RpcReply.{portmapper}
use Rattle.sd_server.specs.Services.{program_of}
use Rattle.sd_server.specs.Coming.{comes_as}
use Rattle.sd_server.specs.declared.coming.Coming.TheVariants.{Refused}
use Rattle.sd_server.proofs.Arriving.{replies_as}
use Rattle.sd_server.proofs.portmap.pmap_reply.Goals as goal

pub returns-in-Refused-clause-reply : goal.returns-in-Refused-clause-reply
returns-in-Refused-clause-reply c =
    replies_as (portmapper c.args.setup.now) (λ v. None) c.args.body.now (Refused c.in-Refused.reply) (Some c.in-Refused.reply)
    (c.in_ok-arrive.ensures.comes ∙ ap (comes_as (program_of Rattle.sd_server.specs.declared.service.Service.TheVariants.Portmapper)) c.in-Refused.is) refl
