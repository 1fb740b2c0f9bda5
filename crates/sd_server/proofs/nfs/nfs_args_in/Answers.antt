use Rattle.std.proofs.Common.{◌≡◌}
use Rattle.std.specs.Prelude.{IfSome}
use Rattle.std.specs.Option.{option_map}
use Rattle.std.proofs.lemmas.Result.{IfOk-weaker}
use Rattle.sd_nfs_msg.specs.Layout.{args_kind, ArgsFit}
use Rattle.sd_services.specs.RpcCalls.{spelled}
use Rattle.sd_services.specs.NfsCalls.{nfs_args_in}
use Rattle.sd_server.specs.Services.{IsKnown}
use Rattle.sd_server.proofs.Known.{nfs_known, known_fits}
use Rattle.sd_server.proofs.nfs.nfs_args_in.Goals as goal

pub returns-clause-found : goal.returns-clause-found
returns-clause-found c =
    IfOk-weaker c.known.result (IsKnown c.read_args.result) (λ found. found ≡ option_map nfs_args_in (spelled (args_kind c.args.proc_no) c.args.bytes.now))
    (λ found is. nfs_known c.args.proc_no c.args.bytes.now c.read_args.result found c.read_args.ensures.answers is) c.known.ensures

pub returns-clause-fits : goal.returns-clause-fits
returns-clause-fits c =
    IfOk-weaker c.known.result (IsKnown c.read_args.result) (λ found. IfSome found ArgsFit) (λ found is. known_fits ArgsFit c.read_args.result found c.read_args.ensures.fits is) c.known.ensures
