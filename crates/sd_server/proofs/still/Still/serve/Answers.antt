use Rattle.std.proofs.Common.{◌≡◌, ◌||◌, Some, false, sym, ap, ◌∙◌, subst}
use Rattle.sd_config.specs.declared.config.Config.{Config}
use Rattle.sd_server.specs.Deciding.{DeskView, Decides, IsNow}
use Rattle.sd_server.specs.State.{Volatile}
use Rattle.sd_server.specs.Still.{is_to_tftp, is_of_mounts, GivesStill}
use Rattle.sd_server.specs.declared.access.Decision.{Decision}
use Rattle.sd_server.proofs.StillReplies.{gives_now}
use Rattle.sd_server.proofs.still.Still.serve.Goals as goal

pub returns-clause-gives : goal.returns-clause-gives
returns-clause-gives c =
    let k : Config = c.self.inside.desk.config in
    let none : (is_to_tftp k c.args.packet.now || is_of_mounts k c.args.packet.now) ≡ false =
    ap (λ (x : Config). is_to_tftp x c.args.packet.now || is_of_mounts x c.args.packet.now) (sym c.config.ensures.same) ∙ sym c.in_ok-needs_memory.ensures ∙ c.if-branch.false in
    let now = subst (λ (d : Decision). Decides k c.self.inside.desk.volatile 0 c.args.packet.now d) c.in-Now.is c.in_ok-decide.ensures in
    let still = subst (λ (v : Volatile). IsNow k v 0 c.args.packet.now c.in-Now.answer) c.self.invariant now in
    subst (λ (x : Config). GivesStill x c.args.packet.now (Some c.in_ok-packets_of-in-Now.field-0)) c.self.view_is (gives_now k c.args.packet.now c.in-Now.answer c.in_ok-packets_of-in-Now.field-0 still none c.in_ok-packets_of-in-Now.ensures.packets)
