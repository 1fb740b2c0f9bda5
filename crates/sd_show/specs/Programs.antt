-- The procedures that are known by name: the portmapper's (RFC 1057, appendix A), bootparams', those of MOUNT (RFC 1094, appendix A)
-- and of NFS (RFC 1094, section 2.2), with the fields of their arguments and results.
use Rattle.std.specs.Prelude.{◌≡◌, ℕ, ◌==◌, List, [], ◌∷◌, codes, if◌then◌else◌}
use Rattle.sd_xdr.specs.Kind.{whole, Kind}
use Rattle.sd_portmap.specs.Layout as pmap
use Rattle.sd_bootparams.specs.Layout as bootparam
use Rattle.sd_mount.specs.Layout as mount
use Rattle.sd_nfs_msg.specs.Layout as nfs
use Rattle.sd_show.specs.declared.procedures.Procedure.{Procedure}
use Rattle.sd_show.specs.declared.procedures.Known.{Known}
use Rattle.sd_show.specs.declared.procedures.Known.TheVariants as known
use Rattle.sd_show.specs.declared.fields.Field.TheVariants as fields
use Rattle.sd_text.specs.Texts.{Text}
use Rattle.sd_show.specs.Fields.{Fields, nothing, field, ◌⊕◌, numbered, checked}

-- ---- numbers and names

abbrev pub pmap_procedure : ℕ → Procedure
pmap_procedure n = record { prog = 100000; vers = 2; proc_no = n }

abbrev pub bootparam_procedure : ℕ → Procedure
bootparam_procedure n = record { prog = 100026; vers = 1; proc_no = n }

abbrev pub mount_procedure : ℕ → Procedure
mount_procedure n = record { prog = 100005; vers = 1; proc_no = n }

abbrev pub nfs_procedure : ℕ → Procedure
nfs_procedure n = record { prog = 100003; vers = 2; proc_no = n }

abbrev pub numbers : Known → Procedure
numbers known.PmapNull = pmap_procedure 0
numbers known.PmapSet = pmap_procedure 1
numbers known.PmapUnset = pmap_procedure 2
numbers known.PmapGetport = pmap_procedure 3
numbers known.PmapDump = pmap_procedure 4
numbers known.PmapCallit = pmap_procedure 5
numbers known.BootparamNull = bootparam_procedure 0
numbers known.BootparamWhoami = bootparam_procedure 1
numbers known.BootparamGetfile = bootparam_procedure 2
numbers known.MountNull = mount_procedure 0
numbers known.MountMnt = mount_procedure 1
numbers known.MountDump = mount_procedure 2
numbers known.MountUmnt = mount_procedure 3
numbers known.MountUmntall = mount_procedure 4
numbers known.MountExport = mount_procedure 5
numbers known.NfsNull = nfs_procedure 0
numbers known.NfsGetattr = nfs_procedure 1
numbers known.NfsSetattr = nfs_procedure 2
numbers known.NfsLookup = nfs_procedure 4
numbers known.NfsReadlink = nfs_procedure 5
numbers known.NfsRead = nfs_procedure 6
numbers known.NfsWrite = nfs_procedure 8
numbers known.NfsCreate = nfs_procedure 9
numbers known.NfsRemove = nfs_procedure 10
numbers known.NfsRename = nfs_procedure 11
numbers known.NfsLink = nfs_procedure 12
numbers known.NfsSymlink = nfs_procedure 13
numbers known.NfsMkdir = nfs_procedure 14
numbers known.NfsRmdir = nfs_procedure 15
numbers known.NfsReaddir = nfs_procedure 16
numbers known.NfsStatfs = nfs_procedure 17

abbrev pub known_text : Known → Text
known_text known.PmapNull = codes "pmap.null"
known_text known.PmapSet = codes "pmap.set"
known_text known.PmapUnset = codes "pmap.unset"
known_text known.PmapGetport = codes "pmap.getport"
known_text known.PmapDump = codes "pmap.dump"
known_text known.PmapCallit = codes "pmap.callit"
known_text known.BootparamNull = codes "bootparam.null"
known_text known.BootparamWhoami = codes "bootparam.whoami"
known_text known.BootparamGetfile = codes "bootparam.getfile"
known_text known.MountNull = codes "mount.null"
known_text known.MountMnt = codes "mount.mnt"
known_text known.MountDump = codes "mount.dump"
known_text known.MountUmnt = codes "mount.umnt"
known_text known.MountUmntall = codes "mount.umntall"
known_text known.MountExport = codes "mount.export"
known_text known.NfsNull = codes "nfs.null"
known_text known.NfsGetattr = codes "nfs.getattr"
known_text known.NfsSetattr = codes "nfs.setattr"
known_text known.NfsLookup = codes "nfs.lookup"
known_text known.NfsReadlink = codes "nfs.readlink"
known_text known.NfsRead = codes "nfs.read"
known_text known.NfsWrite = codes "nfs.write"
known_text known.NfsCreate = codes "nfs.create"
known_text known.NfsRemove = codes "nfs.remove"
known_text known.NfsRename = codes "nfs.rename"
known_text known.NfsLink = codes "nfs.link"
known_text known.NfsSymlink = codes "nfs.symlink"
known_text known.NfsMkdir = codes "nfs.mkdir"
known_text known.NfsRmdir = codes "nfs.rmdir"
known_text known.NfsReaddir = codes "nfs.readdir"
known_text known.NfsStatfs = codes "nfs.statfs"

-- all that are known
abbrev pub all_known : List Known
all_known =
    known.PmapNull ∷ known.PmapSet ∷ known.PmapUnset ∷ known.PmapGetport ∷ known.PmapDump ∷ known.PmapCallit
    ∷ known.BootparamNull ∷ known.BootparamWhoami ∷ known.BootparamGetfile
    ∷ known.MountNull ∷ known.MountMnt ∷ known.MountDump ∷ known.MountUmnt ∷ known.MountUmntall ∷ known.MountExport
    ∷ known.NfsNull ∷ known.NfsGetattr ∷ known.NfsSetattr ∷ known.NfsLookup ∷ known.NfsReadlink ∷ known.NfsRead ∷ known.NfsWrite ∷ known.NfsCreate ∷ known.NfsRemove
    ∷ known.NfsRename ∷ known.NfsLink ∷ known.NfsSymlink ∷ known.NfsMkdir ∷ known.NfsRmdir ∷ known.NfsReaddir ∷ known.NfsStatfs ∷ []

-- no procedure with these numbers is known by name
abbrev pub IsUnknown : Procedure → Type 0
IsUnknown p = (k : Known) → numbers k ≡ p → ⊥

-- ---- the messages of the programs

abbrev pub args_of : Procedure → Kind whole
args_of p =
    if p.prog == 100000 then pmap.args_kind p.proc_no else
    (if p.prog == 100026 then bootparam.args_kind p.proc_no else
    (if p.prog == 100005 then mount.args_kind p.proc_no else nfs.args_kind p.proc_no))

abbrev pub results_of : Procedure → Kind whole
results_of p =
    if p.prog == 100000 then pmap.result_kind p.proc_no else
    (if p.prog == 100026 then bootparam.result_kind p.proc_no else
    (if p.prog == 100005 then mount.result_kind p.proc_no else nfs.result_kind p.proc_no))

-- the kind of a procedure's arguments, and of its results
unfoldable pub args_kind : Known → Kind whole
args_kind k = args_of (numbers k)

unfoldable pub results_kind : Known → Kind whole
results_kind k = results_of (numbers k)

-- ---- fields that several have

-- a name in a directory
abbrev pub place : Fields
place = field fields.Dir ⊕ field fields.Named

abbrev pub to_place : Fields
to_place = field fields.ToDir ⊕ field fields.ToName

abbrev pub attr : Fields
attr = field fields.Attr

abbrev pub sattr : Fields
sattr = field fields.Set

abbrev pub mapping : Fields
mapping = field fields.Prog ⊕ field fields.Vers ⊕ field fields.Prot ⊕ field fields.Port

-- ---- the arguments of each procedure

abbrev pub asked : Known → Fields
asked known.PmapNull = nothing
asked known.PmapSet = mapping
asked known.PmapUnset = mapping
asked known.PmapGetport = mapping
asked known.PmapDump = nothing
asked known.PmapCallit = field fields.Prog ⊕ field fields.Vers ⊕ field fields.Proc ⊕ field fields.Args
asked known.BootparamNull = nothing
asked known.BootparamWhoami = field fields.Address
asked known.BootparamGetfile = field fields.Client ⊕ field fields.Key
asked known.MountNull = nothing
asked known.MountMnt = field fields.Path
asked known.MountDump = nothing
asked known.MountUmnt = field fields.Path
asked known.MountUmntall = nothing
asked known.MountExport = nothing
asked known.NfsNull = nothing
asked known.NfsGetattr = field fields.File
asked known.NfsSetattr = field fields.File ⊕ sattr
asked known.NfsLookup = place
asked known.NfsReadlink = field fields.File
asked known.NfsRead = field fields.File ⊕ field fields.Offset ⊕ field fields.Count ⊕ field fields.Total
asked known.NfsWrite = field fields.File ⊕ field fields.Begin ⊕ field fields.Offset ⊕ field fields.Total ⊕ field fields.Bytes
asked known.NfsCreate = place ⊕ sattr
asked known.NfsRemove = place
asked known.NfsRename = place ⊕ to_place
asked known.NfsLink = field fields.From ⊕ to_place
asked known.NfsSymlink = place ⊕ field fields.Path ⊕ sattr
asked known.NfsMkdir = place ⊕ sattr
asked known.NfsRmdir = place
asked known.NfsReaddir = field fields.Dir ⊕ field fields.Cookie ⊕ field fields.Count
asked known.NfsStatfs = field fields.File

-- they are one variant of the program's arguments, by the procedure's number
abbrev pub args : Known → Fields
args k = numbered (numbers k).proc_no (asked k)

-- ---- the results of each procedure

-- what NFS answers, behind a status and the procedure's number
abbrev pub done : ℕ → Fields → Fields
done n A = checked (numbered n A)

abbrev pub results : Known → Fields
results known.PmapNull = numbered 0 nothing
results known.PmapSet = numbered 1 (field fields.Ok)
results known.PmapUnset = numbered 1 (field fields.Ok)
results known.PmapGetport = numbered 2 (field fields.PortAnswer)
results known.PmapDump = numbered 3 (field fields.Maps)
results known.PmapCallit = numbered 4 (field fields.Port ⊕ field fields.Results)
results known.BootparamNull = numbered 0 nothing
results known.BootparamWhoami = numbered 1 (field fields.Client ⊕ field fields.Domain ⊕ field fields.Router)
results known.BootparamGetfile = numbered 2 (field fields.Server ⊕ field fields.Address ⊕ field fields.Path)
results known.MountNull = numbered 0 nothing
results known.MountMnt = numbered 1 (checked (field fields.File))
results known.MountDump = numbered 2 (field fields.Mounts)
results known.MountUmnt = numbered 0 nothing
results known.MountUmntall = numbered 0 nothing
results known.MountExport = numbered 3 (field fields.Exports)
results known.NfsNull = nothing
results known.NfsGetattr = done 1 attr
results known.NfsSetattr = done 2 attr
results known.NfsLookup = done 4 (field fields.File ⊕ attr)
results known.NfsReadlink = done 5 (field fields.Path)
results known.NfsRead = done 6 (attr ⊕ field fields.Bytes)
results known.NfsWrite = done 8 attr
results known.NfsCreate = done 9 (field fields.File ⊕ attr)
results known.NfsRemove = done 10 nothing
results known.NfsRename = done 11 nothing
results known.NfsLink = done 12 nothing
results known.NfsSymlink = done 13 nothing
results known.NfsMkdir = done 14 (field fields.File ⊕ attr)
results known.NfsRmdir = done 15 nothing
results known.NfsReaddir = done 16 (field fields.Entries ⊕ field fields.Eof)
results known.NfsStatfs = done 17 (field fields.Tsize ⊕ field fields.Bsize ⊕ field fields.Blocks ⊕ field fields.Bfree ⊕ field fields.Bavail)
