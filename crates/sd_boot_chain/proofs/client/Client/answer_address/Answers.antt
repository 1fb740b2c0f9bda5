use Rattle.std.proofs.Common.{◌*◌, subst}
use Rattle.std.specs.Prelude.{IfOk}
use Rattle.sd_link.specs.Link.{Moves}
use Rattle.sd_boot_chain.specs.Address.{IsAddrAnswer}
use Rattle.sd_boot_chain.specs.Step.{ClientView}
use Rattle.sd_claims.specs.AnyLink.{IsMet, AddrNeeds}
use Rattle.sd_boot_chain.proofs.client.Client.answer_address.Goals as goal

pub returns-clause-caused : goal.returns-clause-caused
returns-clause-caused g c =
    subst (λ (v : ClientView). IfOk c.own_address.result (λ answer. Moves (g.L.Link.told c.args.link.now) (g.L.Link.told c.own_address.new.link) (IsAddrAnswer v.config answer))) c.self.view_is
    c.own_address.ensures.caused

pub returns-clause-needs : goal.returns-clause-needs
returns-clause-needs g c =
    subst (λ (v : ClientView). IfOk c.own_address.result (AddrNeeds (v.config.tries * v.config.wait) (IsMet (g.L.Link.handed c.args.link.now) (g.L.Link.handed c.own_address.new.link) (g.L.Link.clock c.args.link.now) (g.L.Link.clock c.own_address.new.link)))) c.self.view_is
    c.own_address.ensures.needs
