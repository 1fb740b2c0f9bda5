use Rattle.std.proofs.Common.{subst, Ok, Result, ℕ}
use Rattle.sd_link.specs.Link.{Moves}
use Rattle.sd_rpc_retry.specs.declared.calling.Ask.TheVariants as asks
use Rattle.sd_loader.specs.Served.{IsServers}
use Rattle.sd_loader.specs.Trust.{Trusted}
use Rattle.sd_loader.proofs.Telling.{trusted_weaker}
use Rattle.sd_nfs_msg.specs.declared.message.NfsArgs.TheVariants as nfs_asks
use Rattle.sd_loader.specs.Found.{IsFile, IsFound}
use Rattle.sd_rpc_retry.specs.declared.nfs_question.Found.{Found}
use Rattle.sd_rpc_retry.specs.Questions.{found}
use Rattle.sd_loader.proofs.RootSays.{found_is}
use Rattle.sd_loader.proofs.calls.lookup.Goals as goal

pub returns-in-Ok-Ok-clause-trusted : goal.returns-in-Ok-Ok-clause-trusted
returns-in-Ok-Ok-clause-trusted g c =
    let caller = c.args.caller.now in
    let nfs = c.args.nfs in
    let old = g.L.Link.told c.args.link.now in
    let new = g.L.Link.told c.ask_at.new.link in
    let next = c.ask_at.new.caller.next_xid in
    let what = asks.Nfs (nfs_asks.Lookup c.args.dir c.args.name.now) in
    trusted_weaker old new caller nfs next (λ k. IsServers k caller nfs what (Ok (found (Ok c.in-Ok-Ok.found)))) (λ k. (number : ℕ) → IsFile k c.args.dir number → IsFound k number c.args.name.now c.in-Ok-Ok.found.file c.in-Ok-Ok.found.attr)
    (λ k is s number f. found_is k is caller nfs c.requires.machine c.args.dir number f c.args.name.now c.in-Ok-Ok.found.file c.in-Ok-Ok.found.attr c.requires.name s)
    (subst (λ (r : Result Found ℕ). Moves old new (Trusted caller nfs next (λ k. IsServers k caller nfs what (Ok (found r))))) c.in-Ok-Ok.field-0-is c.in-Ok-Ok.ensures.trusted)
