use Rattle.std.proofs.Common.{sym, subst, arith}
use Rattle.std.specs.Prelude.{IfOk}
use Rattle.std.proofs.lemmas.Result.{IfOk-weaker}
use Rattle.sd_link.specs.Link.{Moves}
use Rattle.sd_link.proofs.Histories.{moves_weaker}
use Rattle.sd_config.specs.declared.command.Command.{Command}
use Rattle.sd_config.specs.declared.command.Command.TheVariants.{Addr, Wait}
use Rattle.sd_rpc_retry.specs.Lasting.{most_asking_ticks}
use Rattle.sd_boot_chain.specs.Step.{IsDone}
use Rattle.sd_boot_chain.proofs.Booting.{IsDoneSo, all_done, addr_done, wait_done}
use Rattle.sd_boot_chain.proofs.client.Client.step.Goals as goal

pub returns-in-Addr-clause-caused : goal.returns-in-Addr-clause-caused
returns-in-Addr-clause-caused g c =
    let client = c.args.self.now in
    subst (λ (k : Command). IfOk c.answer_address.result (λ answer. Moves (g.L.Link.told c.args.link.now) (g.L.Link.told c.answer_address.new.link) (IsDone client k answer client))) (sym c.in-Addr.is)
    (all_done _ _ client Addr client c.answer_address.result most_asking_ticks (omega arith) c.answer_address.ensures.lasts c.answer_address.ensures.fails
    (IfOk-weaker c.answer_address.result _ _
    (λ answer m. moves_weaker _ _ _ (IsDoneSo client Addr answer client) (λ h part k. addr_done client answer h part k) m)
    c.answer_address.ensures.caused))

pub returns-in-Wait-clause-caused : goal.returns-in-Wait-clause-caused
returns-in-Wait-clause-caused g c =
    let client = c.args.self.now in
    let ticks = c.in-Wait.ticks in
    subst (λ (k : Command). IfOk c.wait.result (λ answer. Moves (g.L.Link.told c.args.link.now) (g.L.Link.told c.wait.new.link) (IsDone client k answer client))) (sym c.in-Wait.is)
    (all_done _ _ client (Wait ticks) client c.wait.result 100000 (omega arith) c.wait.ensures.goes c.wait.ensures.fails
    (IfOk-weaker c.wait.result _ _
    (λ answer m. moves_weaker _ _ _ (IsDoneSo client (Wait ticks) answer client) (λ h part k. wait_done client ticks answer h part k) m)
    c.wait.ensures.caused))
