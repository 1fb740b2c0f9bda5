use Rattle.std.proofs.Common.{◌*◌, subst}
use Rattle.sd_link.specs.Link.{Moves}
use Rattle.sd_claims.specs.Rarp.{rarp_hearing}
use Rattle.sd_rpc_retry.specs.Asking.{IsAsked}
use Rattle.sd_boot_chain.specs.Address.{shows_learned}
use Rattle.sd_boot_chain.proofs.Needing.{asked_met}
use Rattle.sd_boot_chain.proofs.address.learn.Goals as goal

pub returns-clause-told : goal.returns-clause-told
returns-clause-told g c =
    let config = c.args.config.now in
    subst (λ request. Moves (g.L.Link.told c.args.link.now) (g.L.Link.told c.ask.new.link) (IsAsked request (rarp_hearing config.mac) shows_learned config.tries config.wait c.in_ok-asked.asked)) c.in_ok-request.ensures
    c.in_ok-asked.ensures.told

pub returns-clause-needs : goal.returns-clause-needs
returns-clause-needs g c =
    asked_met (c.args.config.now.tries * c.args.config.now.wait) _ _ _ _ c.in_ok-asked.asked c.in_ok-asked.ensures.handed c.in_ok-asked.ensures.waited c.ask.ensures.counts c.ask.ensures.later
