use Rattle.std.proofs.Common.{subst, Ok, Result, ℕ}
use Rattle.sd_link.specs.Link.{Moves}
use Rattle.sd_rpc_retry.specs.declared.calling.Ask.TheVariants as asks
use Rattle.sd_loader.specs.Served.{IsServers}
use Rattle.sd_loader.specs.Trust.{Trusted}
use Rattle.sd_loader.proofs.Telling.{trusted_weaker}
use Rattle.sd_nfs_msg.specs.declared.message.NfsArgs.TheVariants as nfs_asks
use Rattle.sd_loader.specs.Found.{IsFile, AreOf}
use Rattle.sd_nfs_msg.specs.declared.parts.Fattr.{Fattr}
use Rattle.sd_rpc_retry.specs.Questions.{attributes}
use Rattle.sd_loader.proofs.RootSays.{attributes_are}
use Rattle.sd_loader.proofs.calls.getattr.Goals as goal

pub returns-in-Ok-Ok-clause-trusted : goal.returns-in-Ok-Ok-clause-trusted
returns-in-Ok-Ok-clause-trusted g c =
    let caller = c.args.caller.now in
    let nfs = c.args.nfs in
    let old = g.L.Link.told c.args.link.now in
    let new = g.L.Link.told c.ask_at.new.link in
    let next = c.ask_at.new.caller.next_xid in
    let what = asks.Nfs (nfs_asks.Getattr c.args.file) in
    trusted_weaker old new caller nfs next (λ k. IsServers k caller nfs what (Ok (attributes (Ok c.in-Ok-Ok.attr)))) (λ k. (number : ℕ) → IsFile k c.args.file number → AreOf k number c.in-Ok-Ok.attr)
    (λ k is s number f. attributes_are k is caller nfs c.requires.machine c.args.file number f c.in-Ok-Ok.attr s)
    (subst (λ (r : Result Fattr ℕ). Moves old new (Trusted caller nfs next (λ k. IsServers k caller nfs what (Ok (attributes r))))) c.in-Ok-Ok.field-0-is c.in-Ok-Ok.ensures.trusted)
