use Rattle.std.proofs.Common.{◌*◌, Ok, subst, arith}
use Rattle.sd_link.specs.Link.{Moves}
use Rattle.sd_config.specs.declared.stage.Stage.TheVariants as stage
use Rattle.sd_link.proofs.Histories.{moves_weaker}
use Rattle.sd_config.specs.declared.command.Command.TheVariants.{Boot}
use Rattle.sd_config.specs.declared.told.Told.TheVariants.{BootTimeout, BootFlood, BootLinkFault}
use Rattle.sd_claims.specs.Causes.{boot_timeout_rarp, boot_flood_rarp, boot_linkfault_rarp}
use Rattle.sd_rpc_retry.specs.Lasting.{Fails, most_asking_ticks}
use Rattle.sd_rpc_retry.specs.Sending.{asked_fails}
use Rattle.sd_rpc_retry.proofs.Failing.{fails_then}
use Rattle.sd_boot_chain.proofs.Needing.{boot_later}
use Rattle.sd_rpc_retry.proofs.Lasting.{lasts_then}
use Rattle.sd_boot_chain.specs.Durations.{most_ticks, most_boot_ticks}
use Rattle.sd_boot_chain.proofs.Addressing.{AsksAddress, address_vain, address_full, address_broken}
use Rattle.sd_boot_chain.proofs.Booting.{IsDoneSo, done_briefly, fails_ok, boot_answer, boot_unheard}
use Rattle.sd_boot_chain.proofs.client.Client.boot.Goals as goal

pub returns-in-Answer-clause-lasts : goal.returns-in-Answer-clause-lasts
returns-in-Answer-clause-lasts g c = lasts_then _ _ _ most_asking_ticks most_boot_ticks most_ticks (omega arith) c.learn_address.ensures.lasts c.fetch_program.ensures.lasts

pub returns-in-Answer-clause-fails : goal.returns-in-Answer-clause-fails
returns-in-Answer-clause-fails g c =
    fails_then _ _ _ _ (subst (λ e. Fails (asked_fails (Ok e)) (g.L.Link.told c.args.link.now) (g.L.Link.told c.learn_address.new.link)) c.in-Answer.is c.in_ok-asked.ensures.fails) c.fetch_program.ensures.fails

pub returns-in-Answer-clause-caused : goal.returns-in-Answer-clause-caused
returns-in-Answer-clause-caused g c =
    let client = c.args.self.now in
    let learned = c.in-Answer.learned in
    let heard = subst (λ e. Moves (g.L.Link.told c.args.link.now) (g.L.Link.told c.learn_address.new.link) (AsksAddress client.config e)) c.in-Answer.is c.in_ok-asked.ensures.told in
    boot_answer client c.fetch_program.new.self learned _ _ _ c.fetch_program.result most_ticks (omega arith) (returns-in-Answer-clause-lasts g c)
    (fails_ok _ _ c.fetch_program.result (returns-in-Answer-clause-fails g c)) c.in_ok-asked.ensures.lawful heard c.fetch_program.ensures.caused

pub returns-in-Timeout-clause-caused : goal.returns-in-Timeout-clause-caused
returns-in-Timeout-clause-caused g c =
    let client = c.args.self.now in
    let heard = subst (λ e. Moves (g.L.Link.told c.args.link.now) (g.L.Link.told c.learn_address.new.link) (AsksAddress client.config e)) c.in-Timeout.is c.in_ok-asked.ensures.told in
    done_briefly _ _ client Boot (BootTimeout stage.Rarp) client most_asking_ticks (omega arith) c.learn_address.ensures.lasts
    (subst (λ e. Fails (asked_fails (Ok e)) (g.L.Link.told c.args.link.now) (g.L.Link.told c.learn_address.new.link)) c.in-Timeout.is c.in_ok-asked.ensures.fails)
    (moves_weaker _ _ _ (IsDoneSo client Boot (BootTimeout stage.Rarp) client)
    (λ h part k. boot_unheard client (BootTimeout stage.Rarp) h part (λ is_for n. boot_timeout_rarp part (address_vain client.config h part is_for k)))
    heard)

pub returns-in-Flood-clause-caused : goal.returns-in-Flood-clause-caused
returns-in-Flood-clause-caused g c =
    let client = c.args.self.now in
    let heard = subst (λ e. Moves (g.L.Link.told c.args.link.now) (g.L.Link.told c.learn_address.new.link) (AsksAddress client.config e)) c.in-Flood.is c.in_ok-asked.ensures.told in
    done_briefly _ _ client Boot (BootFlood stage.Rarp) client most_asking_ticks (omega arith) c.learn_address.ensures.lasts
    (subst (λ e. Fails (asked_fails (Ok e)) (g.L.Link.told c.args.link.now) (g.L.Link.told c.learn_address.new.link)) c.in-Flood.is c.in_ok-asked.ensures.fails)
    (moves_weaker _ _ _ (IsDoneSo client Boot (BootFlood stage.Rarp) client)
    (λ h part k. boot_unheard client (BootFlood stage.Rarp) h part (λ is_for n. boot_flood_rarp part (address_full client.config h part is_for k)))
    heard)

pub returns-in-Fault-clause-caused : goal.returns-in-Fault-clause-caused
returns-in-Fault-clause-caused g c =
    let client = c.args.self.now in
    let heard = subst (λ e. Moves (g.L.Link.told c.args.link.now) (g.L.Link.told c.learn_address.new.link) (AsksAddress client.config e)) c.in-Fault.is c.in_ok-asked.ensures.told in
    done_briefly _ _ client Boot BootLinkFault client most_asking_ticks (omega arith) c.learn_address.ensures.lasts
    (subst (λ e. Fails (asked_fails (Ok e)) (g.L.Link.told c.args.link.now) (g.L.Link.told c.learn_address.new.link)) c.in-Fault.is c.in_ok-asked.ensures.fails)
    (moves_weaker _ _ _ (IsDoneSo client Boot BootLinkFault client)
    (λ h part k. boot_unheard client BootLinkFault h part
    (λ is_for n. boot_linkfault_rarp part (address_broken client.config h part is_for k)))
    heard)

pub returns-in-Answer-clause-needs : goal.returns-in-Answer-clause-needs
returns-in-Answer-clause-needs g c =
    boot_later (c.args.self.now.config.tries * c.args.self.now.config.wait) _ _ _ _ _ _ c.fetch_program.result c.learn_address.ensures.counts c.learn_address.ensures.later c.fetch_program.ensures.needs
