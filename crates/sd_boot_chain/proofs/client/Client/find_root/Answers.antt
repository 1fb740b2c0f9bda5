use Rattle.std.proofs.Common.{ℕ, Result, sym, ap, subst}
use Rattle.std.specs.Prelude.{IfOk}
use Rattle.sd_outside.specs.declared.errors.NoMemory.{NoMemory}
use Rattle.sd_config.specs.declared.told.Told.{Told}
use Rattle.sd_link.specs.Link.{Moves}
use Rattle.sd_rpc_retry.specs.declared.calling.Caller.{Caller}
use Rattle.sd_boot_chain.specs.Step.{ClientView}
use Rattle.sd_boot_chain.specs.Boot.{caller_of}
use Rattle.sd_boot_chain.specs.Root.{answer_to, IsCallsAnswer}
use Rattle.sd_boot_chain.proofs.Rooting.{calls_answer}
use Rattle.sd_boot_chain.proofs.client.Client.find_root.Goals as goal

pub returns-clause-told : goal.returns-clause-told
returns-clause-told g c =
    let old = g.L.Link.told c.args.link.now in
    let new = g.L.Link.told c.find_mount-found.new.link in
    let program = c.args.program in
    let found = c.find_mount-found.result in
    let number = c.set_next_xid.new.self.next_xid in
    subst (λ (r : Result Told NoMemory). IfOk r (λ answer. Moves old new (IsCallsAnswer (caller_of c.args.self.now c.args.address) program answer number))) (sym c.answer_to.ensures)
    (subst (λ (k : Caller). IfOk (answer_to program found) (λ answer. Moves old new (IsCallsAnswer k program answer number))) c.caller-caller.ensures.caller
    (subst (λ (n : ℕ). IfOk (answer_to program found) (λ answer. Moves old new (IsCallsAnswer c.caller-caller.result program answer n))) (sym (ap (λ (v : ClientView). v.next_xid) c.set_next_xid.ensures))
    (calls_answer old new c.caller-caller.result c.find_mount-found.new.caller program found c.find_mount-found.ensures.told)))
