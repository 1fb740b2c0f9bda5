-- The tables of fields are those of the messages: each procedure's fields have the kind of its arguments or results.
use Rattle.std.proofs.Common.{◌≡◌, refl}
use Rattle.sd_xdr.specs.Kind.{ended}
use Rattle.sd_show.specs.declared.procedures.Known.{Known}
use Rattle.sd_show.specs.declared.procedures.Known.TheVariants as known
use Rattle.sd_show.specs.Fields.{fields_kind}
use Rattle.sd_show.specs.Programs.{args_kind, results_kind, args, results}

pub args_are : (k : Known) → ended (fields_kind (args k)) ≡ args_kind k
unfolding args_kind
args_are known.PmapNull = refl
args_are known.PmapSet = refl
args_are known.PmapUnset = refl
args_are known.PmapGetport = refl
args_are known.PmapDump = refl
args_are known.PmapCallit = refl
args_are known.BootparamNull = refl
args_are known.BootparamWhoami = refl
args_are known.BootparamGetfile = refl
args_are known.MountNull = refl
args_are known.MountMnt = refl
args_are known.MountDump = refl
args_are known.MountUmnt = refl
args_are known.MountUmntall = refl
args_are known.MountExport = refl
args_are known.NfsNull = refl
args_are known.NfsGetattr = refl
args_are known.NfsSetattr = refl
args_are known.NfsLookup = refl
args_are known.NfsReadlink = refl
args_are known.NfsRead = refl
args_are known.NfsWrite = refl
args_are known.NfsCreate = refl
args_are known.NfsRemove = refl
args_are known.NfsRename = refl
args_are known.NfsLink = refl
args_are known.NfsSymlink = refl
args_are known.NfsMkdir = refl
args_are known.NfsRmdir = refl
args_are known.NfsReaddir = refl
args_are known.NfsStatfs = refl

pub results_are : (k : Known) → ended (fields_kind (results k)) ≡ results_kind k
unfolding results_kind
results_are known.PmapNull = refl
results_are known.PmapSet = refl
results_are known.PmapUnset = refl
results_are known.PmapGetport = refl
results_are known.PmapDump = refl
results_are known.PmapCallit = refl
results_are known.BootparamNull = refl
results_are known.BootparamWhoami = refl
results_are known.BootparamGetfile = refl
results_are known.MountNull = refl
results_are known.MountMnt = refl
results_are known.MountDump = refl
results_are known.MountUmnt = refl
results_are known.MountUmntall = refl
results_are known.MountExport = refl
results_are known.NfsNull = refl
results_are known.NfsGetattr = refl
results_are known.NfsSetattr = refl
results_are known.NfsLookup = refl
results_are known.NfsReadlink = refl
results_are known.NfsRead = refl
results_are known.NfsWrite = refl
results_are known.NfsCreate = refl
results_are known.NfsRemove = refl
results_are known.NfsRename = refl
results_are known.NfsLink = refl
results_are known.NfsSymlink = refl
results_are known.NfsMkdir = refl
results_are known.NfsRmdir = refl
results_are known.NfsReaddir = refl
results_are known.NfsStatfs = refl
