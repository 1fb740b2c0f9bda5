use Rattle.std.proofs.Common.{◌≡◌, subst, Ok, Result, ℕ, List}
use Rattle.sd_link.specs.Link.{Moves}
use Rattle.sd_rpc_retry.specs.declared.calling.Ask.TheVariants as asks
use Rattle.sd_loader.specs.Served.{IsServers}
use Rattle.sd_loader.specs.Trust.{Trusted}
use Rattle.sd_loader.proofs.Telling.{trusted_weaker}
use Rattle.sd_nfs_msg.specs.declared.message.NfsArgs.TheVariants as nfs_asks
use Rattle.sd_loader.specs.Found.{IsFile}
use Rattle.sd_services.specs.Files.{exported}
use Rattle.sd_services.specs.declared.node.Standing.TheVariants as standing
use Rattle.sd_loader.specs.Walk.{what_at}
use Rattle.sd_rpc_retry.specs.Questions.{target}
use Rattle.sd_loader.proofs.RootSays.{target_is}
use Rattle.sd_loader.proofs.calls.readlink.Goals as goal

pub returns-in-Ok-Ok-clause-trusted : goal.returns-in-Ok-Ok-clause-trusted
returns-in-Ok-Ok-clause-trusted g c =
    let caller = c.args.caller.now in
    let nfs = c.args.nfs in
    let old = g.L.Link.told c.args.link.now in
    let new = g.L.Link.told c.ask_at.new.link in
    let next = c.ask_at.new.caller.next_xid in
    let what = asks.Nfs (nfs_asks.Readlink c.args.file) in
    trusted_weaker old new caller nfs next (λ k. IsServers k caller nfs what (Ok (target (Ok c.in-Ok-Ok.text)))) (λ k. (number : ℕ) → IsFile k c.args.file number → what_at (exported k).root number ≡ standing.Symlink c.in-Ok-Ok.text)
    (λ k is s number f. target_is k is caller nfs c.requires.machine c.args.file number f c.in-Ok-Ok.text s)
    (subst (λ (r : Result (List ℕ) ℕ). Moves old new (Trusted caller nfs next (λ k. IsServers k caller nfs what (Ok (target r))))) c.in-Ok-Ok.field-0-is c.in-Ok-Ok.ensures.trusted)
