use Rattle.std.proofs.Common.{subst, Ok, Result, ℕ}
use Rattle.sd_outside.specs.declared.fhandle.FHandle.{FHandle}
use Rattle.sd_link.specs.Link.{Moves}
use Rattle.sd_rpc_retry.specs.declared.calling.Ask.TheVariants as asks
use Rattle.sd_loader.specs.Served.{IsServers}
use Rattle.sd_loader.specs.Trust.{Trusted}
use Rattle.sd_loader.proofs.Telling.{trusted_weaker}
use Rattle.sd_rpc_retry.specs.Questions.{given}
use Rattle.sd_loader.specs.Mounting.{IsMounted}
use Rattle.sd_loader.proofs.RootSays.{mounted_is}
use Rattle.sd_loader.proofs.mounting.mount.Goals as goal

pub returns-in-Ok-Ok-clause-mounted : goal.returns-in-Ok-Ok-clause-mounted
returns-in-Ok-Ok-clause-mounted g c =
    let caller = c.args.caller.now in
    let dst = c.args.dst in
    let path = c.args.path.now in
    let old = g.L.Link.told c.args.link.now in
    let new = g.L.Link.told c.ask_at.new.link in
    let next = c.ask_at.new.caller.next_xid in
    trusted_weaker old new caller dst next (λ k. IsServers k caller dst (asks.Mnt path) (Ok (given (Ok c.in-Ok-Ok.file)))) (λ k. IsMounted k path c.in-Ok-Ok.file)
    (λ k is s. mounted_is k caller dst path c.in-Ok-Ok.file c.requires.machine c.requires.path s)
    (subst (λ (r : Result FHandle ℕ). Moves old new (Trusted caller dst next (λ k. IsServers k caller dst (asks.Mnt path) (Ok (given r))))) c.in-Ok-Ok.field-0-is c.in-Ok-Ok.ensures.trusted)
