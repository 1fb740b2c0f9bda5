use Rattle.std.proofs.Common.{◌≡◌, ap, sym, ◌∙◌, subst}
use Rattle.std.specs.Option.{option_map}
use Rattle.sd_services.specs.NfsCalls.{nfs_args_in}
use Rattle.sd_services.specs.RpcCalls.{spelled}
use Rattle.sd_nfs_msg.specs.Layout.{args_kind}
use Rattle.sd_server.specs.declared.service.Service.TheVariants.{Nfs}
use Rattle.sd_server.specs.declared.coming.Coming.{Coming}
use Rattle.sd_server.specs.Services.{program_of}
use Rattle.sd_server.specs.Coming.{comes_as, MayCome}
use Rattle.sd_server.proofs.NfsFound.{nowhere_turn, refused_turn, found_turn, not_skipped}
use Rattle.sd_server.proofs.nfs.nfs_turn.Goals as goal

pub returns-in-Nowhere : goal.returns-in-Nowhere
returns-in-Nowhere c = nowhere_turn c.args.setup.now c.args.from c.args.body.now (c.in_ok-arrive.ensures.comes ∙ ap (comes_as (program_of Nfs)) c.in-Nowhere.is)

pub returns-in-Refused : goal.returns-in-Refused
returns-in-Refused c =
    refused_turn c.args.setup.now c.args.from c.args.body.now c.in-Refused.reply (c.in_ok-arrive.ensures.comes ∙ ap (comes_as (program_of Nfs)) c.in-Refused.is)
    (subst (λ (come : Coming). MayCome (program_of Nfs) come) c.in-Refused.is c.in_ok-arrive.ensures.fits)

pub returns-in_ok-nfs_found-in-Asks : goal.returns-in_ok-nfs_found-in-Asks
returns-in_ok-nfs_found-in-Asks c =
    found_turn c.args.setup.now c.args.from c.args.body.now c.in-Asks.xid (spelled (args_kind c.in-Asks.proc_no) c.in-Asks.args) c.in_ok-found-in-Asks.found c.in_ok-nfs_found-in-Asks.field-0
    (c.in_ok-arrive.ensures.comes ∙ ap (comes_as (program_of Nfs)) c.in-Asks.is)
    (c.in_ok-found-in-Asks.ensures.found ∙ ap (λ bs. option_map nfs_args_in (spelled (args_kind c.in-Asks.proc_no) bs)) c.as_slice.ensures)
    c.in_ok-nfs_found-in-Asks.ensures
