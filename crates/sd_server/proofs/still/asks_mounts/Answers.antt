use Rattle.std.proofs.Common.{◌≡◌, sym, ap, ◌∙◌}
use Rattle.sd_server.specs.declared.service.Service.TheVariants.{Mount}
use Rattle.sd_server.specs.Services.{program_of}
use Rattle.sd_server.specs.Coming.{Refused, comes_as}
use Rattle.sd_server.proofs.StillReplies.{asks_by}
use Rattle.sd_server.proofs.still.asks_mounts.Goals as goal

pub returns-in-Refused : goal.returns-in-Refused
returns-in-Refused c = sym (asks_by c.args.body.now (Refused c.in-Refused.field-0) (c.in_ok-arrive.ensures.comes ∙ ap (comes_as (program_of Mount)) c.in-Refused.is))
