use Rattle.std.proofs.Common.{subst}
use Rattle.sd_link.specs.Link.{Moves}
use Rattle.sd_link.proofs.Histories.{moves_weaker}
use Rattle.sd_config.specs.declared.told.Told.TheVariants.{WaitOk, WaitFlood, WaitLinkFault}
use Rattle.sd_boot_chain.specs.declared.pause.Pause.TheVariants.{Over, Flood, Fault}
use Rattle.sd_boot_chain.specs.Pause.{IsPause, IsWaitAnswer}
use Rattle.sd_boot_chain.proofs.Pausing.{waited_so, flooded_so, failed_so}
use Rattle.sd_boot_chain.proofs.pause.wait.Goals as goal

pub returns-in-Over-clause-caused : goal.returns-in-Over-clause-caused
returns-in-Over-clause-caused g c =
    moves_weaker _ _ (IsPause c.args.ticks Over) (IsWaitAnswer c.args.ticks (WaitOk c.args.ticks)) (λ h part p. waited_so c.args.ticks h part p)
    (subst (λ p. Moves (g.L.Link.told c.args.link.now) (g.L.Link.told c.pass_ticks.new.link) (IsPause c.args.ticks p)) c.in-Over.is c.in_ok-pass_ticks.ensures.told)

pub returns-in-Flood-clause-caused : goal.returns-in-Flood-clause-caused
returns-in-Flood-clause-caused g c =
    moves_weaker _ _ (IsPause c.args.ticks Flood) (IsWaitAnswer c.args.ticks (WaitFlood c.args.ticks)) (λ h part p. flooded_so c.args.ticks h part p)
    (subst (λ p. Moves (g.L.Link.told c.args.link.now) (g.L.Link.told c.pass_ticks.new.link) (IsPause c.args.ticks p)) c.in-Flood.is c.in_ok-pass_ticks.ensures.told)

pub returns-in-Fault-clause-caused : goal.returns-in-Fault-clause-caused
returns-in-Fault-clause-caused g c =
    moves_weaker _ _ (IsPause c.args.ticks Fault) (IsWaitAnswer c.args.ticks (WaitLinkFault c.args.ticks)) (λ h part p. failed_so c.args.ticks h part p)
    (subst (λ p. Moves (g.L.Link.told c.args.link.now) (g.L.Link.told c.pass_ticks.new.link) (IsPause c.args.ticks p)) c.in-Fault.is c.in_ok-pass_ticks.ensures.told)
