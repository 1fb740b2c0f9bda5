use Rattle.std.proofs.Common.{Ok, subst, arith, refl, ap, sym, ◌∙◌}
use Rattle.sd_link.specs.Link.{Moves}
use Rattle.sd_rpc_retry.specs.Lasting.{Fails}
use Rattle.sd_rpc_retry.proofs.Lasting.{lasts_then}
use Rattle.sd_rpc_retry.proofs.Failing.{fails_then}
use Rattle.sd_boot_chain.specs.Failing.{fetch_fails}
use Rattle.sd_boot_chain.specs.declared.fetch.Fetched.TheVariants as came
use Rattle.sd_boot_chain.specs.Address.{shows_learned}
use Rattle.sd_boot_chain.specs.Fetch.{fetch_of, CameOf}
use Rattle.sd_boot_chain.specs.Durations.{most_fetch_ticks, most_calls_ticks, most_boot_ticks}
use Rattle.sd_boot_chain.proofs.Booting.{program_answer, fetch_timeout, fetch_flood, fetch_refused, fetch_large, fetch_failed}
use Rattle.sd_boot_chain.proofs.client.Client.fetch_program.Goals as goal

pub returns-in-File-clause-lasts : goal.returns-in-File-clause-lasts
returns-in-File-clause-lasts g c = lasts_then _ _ _ most_fetch_ticks most_calls_ticks most_boot_ticks (omega arith) c.fetch.ensures.lasts c.find_root.ensures.lasts

pub returns-in-File-clause-caused : goal.returns-in-File-clause-caused
returns-in-File-clause-caused g c =
    let client = c.args.self.now in
    let learned = shows_learned c.args.learned in
    let old = g.L.Link.told c.args.link.now in
    let mid = g.L.Link.told c.fetch.new.link in
    let new = g.L.Link.told c.find_root.new.link in
    let fetched = subst (λ e. Moves old mid (CameOf (fetch_of c.in_ok-task.task) e)) c.in-File.is c.in_ok-program.ensures.told in
    program_answer client c.count_boot.new.self c.find_root.new.self learned c.in-File.program old mid new c.find_root.result c.count_boot.ensures.same c.count_boot.ensures.counted c.count_boot.ensures.xid c.find_root.ensures.boots
    (subst (λ f. Moves old mid (CameOf f (came.File c.in-File.program))) c.in_ok-task.ensures.task fetched)
    c.find_root.ensures.told

pub returns-in-Timeout-clause-caused : goal.returns-in-Timeout-clause-caused
returns-in-Timeout-clause-caused g c =
    let old = g.L.Link.told c.args.link.now in
    let new = g.L.Link.told c.fetch.new.link in
    fetch_timeout c.args.self.now c.count_boot.new.self (shows_learned c.args.learned) old new c.count_boot.ensures.counted c.count_boot.ensures.xid
    (subst (λ f. Moves old new (CameOf f came.Timeout)) c.in_ok-task.ensures.task (subst (λ e. Moves old new (CameOf (fetch_of c.in_ok-task.task) e)) c.in-Timeout.is c.in_ok-program.ensures.told))

pub returns-in-Flood-clause-caused : goal.returns-in-Flood-clause-caused
returns-in-Flood-clause-caused g c =
    let old = g.L.Link.told c.args.link.now in
    let new = g.L.Link.told c.fetch.new.link in
    fetch_flood c.args.self.now c.count_boot.new.self (shows_learned c.args.learned) old new c.count_boot.ensures.counted c.count_boot.ensures.xid
    (subst (λ f. Moves old new (CameOf f came.Flood)) c.in_ok-task.ensures.task (subst (λ e. Moves old new (CameOf (fetch_of c.in_ok-task.task) e)) c.in-Flood.is c.in_ok-program.ensures.told))

pub returns-in-Refused-clause-caused : goal.returns-in-Refused-clause-caused
returns-in-Refused-clause-caused g c =
    let old = g.L.Link.told c.args.link.now in
    let new = g.L.Link.told c.fetch.new.link in
    let code = c.in-Refused.code in
    fetch_refused c.args.self.now c.count_boot.new.self (shows_learned c.args.learned) old new c.count_boot.ensures.counted c.count_boot.ensures.xid code
    (subst (λ f. Moves old new (CameOf f (came.Refused code))) c.in_ok-task.ensures.task (subst (λ e. Moves old new (CameOf (fetch_of c.in_ok-task.task) e)) c.in-Refused.is c.in_ok-program.ensures.told))

pub returns-in-TooLarge-clause-caused : goal.returns-in-TooLarge-clause-caused
returns-in-TooLarge-clause-caused g c =
    let old = g.L.Link.told c.args.link.now in
    let new = g.L.Link.told c.fetch.new.link in
    let size = c.in-TooLarge.size in
    fetch_large c.args.self.now c.count_boot.new.self (shows_learned c.args.learned) old new c.count_boot.ensures.counted c.count_boot.ensures.xid size
    (subst (λ f. Moves old new (CameOf f (came.TooLarge size))) c.in_ok-task.ensures.task (subst (λ e. Moves old new (CameOf (fetch_of c.in_ok-task.task) e)) c.in-TooLarge.is c.in_ok-program.ensures.told))

pub returns-in-File-clause-fails : goal.returns-in-File-clause-fails
returns-in-File-clause-fails g c =
    fails_then _ _ _ _ (subst (λ e. Fails (fetch_fails (Ok e)) (g.L.Link.told c.args.link.now) (g.L.Link.told c.fetch.new.link)) c.in-File.is c.in_ok-program.ensures.fails) c.find_root.ensures.fails

pub returns-clause-caused : goal.returns-clause-caused
returns-clause-caused g c =
    let old = g.L.Link.told c.args.link.now in
    let new = g.L.Link.told c.fetch.new.link in
    fetch_failed c.args.self.now c.count_boot.new.self (shows_learned c.args.learned) old new c.count_boot.ensures.counted c.count_boot.ensures.xid
    (subst (λ f. Moves old new (CameOf f came.Fault)) c.in_ok-task.ensures.task (subst (λ e. Moves old new (CameOf (fetch_of c.in_ok-task.task) e)) c.in-Fault.is c.in_ok-program.ensures.told))
