use Rattle.std.proofs.Common.{◌∙◌, Some, None, refl}
use Rattle.sd_services.specs.RpcReply.{bootparams}
use Rattle.sd_server.proofs.Known.{accepted_by}
use Rattle.sd_server.proofs.bootparams.bp_accepted.Goals as goal

pub bp_answered-requires : goal.bp_answered-requires
bp_answered-requires c = (c.in-None.ensures.within refl).0

pub returns-in-Some-clause-outcome : goal.returns-in-Some-clause-outcome
returns-in-Some-clause-outcome c =
    accepted_by (bootparams c.args.setup.now) c.args.prog c.args.vers c.args.proc_no c.args.args.now (Some c.in-Some.refused) c.in-Some.ensures.first

pub returns-in_ok-bp_answered-in-None-clause-outcome : goal.returns-in_ok-bp_answered-in-None-clause-outcome
returns-in_ok-bp_answered-in-None-clause-outcome c =
    c.in_ok-bp_answered-in-None.ensures.outcome
    ∙ accepted_by (bootparams c.args.setup.now) c.args.prog c.args.vers c.args.proc_no c.args.args.now None c.in-None.ensures.first
