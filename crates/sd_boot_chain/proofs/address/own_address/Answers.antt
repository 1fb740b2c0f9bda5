use Rattle.std.proofs.Common.{subst}
use Rattle.sd_link.specs.Link.{Moves}
use Rattle.sd_config.specs.declared.stage.Stage.TheVariants as stage
use Rattle.sd_link.proofs.Histories.{moves_weaker}
use Rattle.sd_config.specs.declared.told.Told.TheVariants.{AddrOk, AddrTimeout, AddrFlood, AddrLinkFault}
use Rattle.sd_rpc_retry.specs.declared.asking.Asked.TheVariants as asked
use Rattle.sd_boot_chain.specs.Address.{IsAddrAnswer}
use Rattle.sd_boot_chain.proofs.Addressing.{AsksAddress, address_told, address_timeout, address_flood, address_failed}
use Rattle.sd_boot_chain.proofs.address.own_address.Goals as goal

pub returns-in-Answer-clause-caused : goal.returns-in-Answer-clause-caused
returns-in-Answer-clause-caused g c =
    let client = c.args.config.now in
    let learned = c.in-Answer.learned in
    moves_weaker _ _ (AsksAddress client (asked.Answer learned)) (IsAddrAnswer client (AddrOk learned.address))
    (λ h part a. address_told client h part learned a)
    (subst (λ e. Moves (g.L.Link.told c.args.link.now) (g.L.Link.told c.learn.new.link) (AsksAddress client e)) c.in-Answer.is c.in_ok-learned.ensures.told)

pub returns-in-Timeout-clause-caused : goal.returns-in-Timeout-clause-caused
returns-in-Timeout-clause-caused g c =
    let client = c.args.config.now in
    moves_weaker _ _ (AsksAddress client asked.Timeout) (IsAddrAnswer client AddrTimeout)
    (λ h part a. address_timeout client h part a)
    (subst (λ e. Moves (g.L.Link.told c.args.link.now) (g.L.Link.told c.learn.new.link) (AsksAddress client e)) c.in-Timeout.is c.in_ok-learned.ensures.told)

pub returns-in-Flood-clause-caused : goal.returns-in-Flood-clause-caused
returns-in-Flood-clause-caused g c =
    let client = c.args.config.now in
    moves_weaker _ _ (AsksAddress client asked.Flood) (IsAddrAnswer client (AddrFlood stage.Rarp))
    (λ h part a. address_flood client h part a)
    (subst (λ e. Moves (g.L.Link.told c.args.link.now) (g.L.Link.told c.learn.new.link) (AsksAddress client e)) c.in-Flood.is c.in_ok-learned.ensures.told)

pub returns-in-Fault-clause-caused : goal.returns-in-Fault-clause-caused
returns-in-Fault-clause-caused g c =
    let client = c.args.config.now in
    moves_weaker _ _ (AsksAddress client asked.Fault) (IsAddrAnswer client AddrLinkFault)
    (λ h part a. address_failed client h part a)
    (subst (λ e. Moves (g.L.Link.told c.args.link.now) (g.L.Link.told c.learn.new.link) (AsksAddress client e)) c.in-Fault.is c.in_ok-learned.ensures.told)
