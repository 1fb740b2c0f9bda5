use Rattle.std.proofs.Common.{◌*◌, subst}
use Rattle.std.specs.Prelude.{IfOk}
use Rattle.sd_link.specs.Link.{Moves}
use Rattle.sd_claims.specs.Rarp.{rarp_request, rarp_hearing}
use Rattle.sd_rpc_retry.specs.Asking.{IsAsked}
use Rattle.sd_boot_chain.specs.Address.{shows_learned}
use Rattle.sd_boot_chain.specs.Step.{ClientView}
use Rattle.sd_claims.specs.AnyLink.{IsMet}
use Rattle.sd_boot_chain.specs.Needs.{AskedNeeds}
use Rattle.sd_boot_chain.proofs.client.Client.learn_address.Goals as goal

pub returns-clause-told : goal.returns-clause-told
returns-clause-told g c =
    subst (λ (v : ClientView). IfOk c.learn.result (λ asked. Moves (g.L.Link.told c.args.link.now) (g.L.Link.told c.learn.new.link) (IsAsked (rarp_request v.config.mac) (rarp_hearing v.config.mac) shows_learned v.config.tries v.config.wait asked)))
    c.self.view_is c.learn.ensures.told

pub returns-clause-needs : goal.returns-clause-needs
returns-clause-needs g c =
    subst (λ (v : ClientView). IfOk c.learn.result (AskedNeeds (v.config.tries * v.config.wait) (IsMet (g.L.Link.handed c.args.link.now) (g.L.Link.handed c.learn.new.link) (g.L.Link.clock c.args.link.now) (g.L.Link.clock c.learn.new.link)))) c.self.view_is
    c.learn.ensures.needs
