use Rattle.sd_rpc_retry.specs.declared.calling.Ask.TheVariants as asks
use Rattle.sd_claims.specs.Booting.{portmapper}
use Rattle.sd_boot_chain.proofs.Rooting.{placed_by}
use Rattle.sd_boot_chain.proofs.root.getfile.Goals as goal

pub returns-clause-told : goal.returns-clause-told
returns-clause-told g c =
    placed_by (g.L.Link.told c.args.link.now) (g.L.Link.told c.ask_at.new.link) c.args.caller.now c.portmapper-dst.result (portmapper c.args.named.from) (asks.Getfile c.args.named.client c.args.key)
    c.in_ok-located.located c.portmapper-dst.ensures c.in_ok-located.ensures.told
