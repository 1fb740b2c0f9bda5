use Rattle.std.specs.Prelude.{◌-◌, ◌^◌}
use Rattle.sd_rpc_retry.specs.declared.calling.Ask.TheVariants as asks
use Rattle.sd_claims.specs.Booting.{portmapper}
use Rattle.sd_boot_chain.proofs.Rooting.{named_by}
use Rattle.sd_boot_chain.proofs.root.whoami.Goals as goal

pub returns-clause-told : goal.returns-clause-told
returns-clause-told g c =
    named_by (g.L.Link.told c.args.link.now) (g.L.Link.told c.ask_at.new.link) c.args.caller.now c.portmapper.result (portmapper (2 ^ 32 - 1)) (asks.Whoami c.args.caller.now.ip)
    c.in_ok-named.named c.portmapper.ensures c.in_ok-named.ensures.told
