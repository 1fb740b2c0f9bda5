-- The kinds of the messages of the MOUNT protocol, version 1, with the standard's names, and the value that each message is
-- (RFC 1094, appendix A).
use Rattle.std.specs.Prelude.{◌≡◌, ℕ, ◌≤◌, ◌==◌, if◌then◌else◌, List, length, map, All}
use Rattle.sd_xdr.specs.Kind.{fixed, upto, part, whole, Kind, void, opaque, list, ◌&◌, where_zero, variant, place_of, Value, none, number, bytes, ◌⊗◌, chain}
use Rattle.sd_xdr.specs.Grammar.{writes}
use Rattle.sd_mount.specs.declared.lists.MountPair.{MountPair}
use Rattle.sd_mount.specs.declared.lists.ExportItem.{ExportItem}
use Rattle.sd_mount.specs.declared.message.MountArgs.{MountArgs}
use Rattle.sd_mount.specs.declared.message.MountArgs.TheVariants as args
use Rattle.sd_mount.specs.declared.message.MountResult.{MountResult}
use Rattle.sd_mount.specs.declared.message.MountResult.TheVariants as results

-- MNTNAMLEN and MNTPATHLEN (appendix A.3)
abbrev pub name_limit : ℕ
name_limit = 255

abbrev pub path_limit : ℕ
path_limit = 1024

-- ---- kinds

-- fhandle (appendix A.4.1)
abbrev pub fhandle : Kind part
fhandle = opaque (fixed 32)

-- fhstatus (appendix A.4.2): a status, and the handle of a directory where that is 0
abbrev pub fhstatus : Kind part
fhstatus = where_zero fhandle

-- dirpath (appendix A.4.3) and name (appendix A.4.4)
abbrev pub dirpath : Kind part
dirpath = opaque (upto path_limit)

abbrev pub name : Kind part
name = opaque (upto name_limit)

-- what stands in a mountlist (appendix A.5.3): hostname, directory; whether one more follows belongs to the list
abbrev pub mount : Kind part
mount = name & dirpath

-- groups, and what stands in an exportlist (appendix A.5.6): filesys, groups
abbrev pub groups : Kind part
groups = list name

abbrev pub export : Kind part
export = dirpath & groups

-- The arguments of a procedure (appendix A.5): 0 MNTPROC_NULL, 1 MNTPROC_MNT, 2 MNTPROC_DUMP, 3 MNTPROC_UMNT, 4 MNTPROC_UMNTALL,
-- 5 MNTPROC_EXPORT.
abbrev pub args_layout : ℕ → Kind part
args_layout n =
    if n == 1 then dirpath else
    (if n == 3 then dirpath else void)

abbrev pub args_kind : ℕ → Kind whole
args_kind proc_no = variant args_layout proc_no

-- The results: nothing, a status with a handle, a mountlist, and an exportlist.
abbrev pub result_layout : ℕ → Kind part
result_layout place =
    if place == 0 then void else
    (if place == 1 then fhstatus else
    (if place == 2 then list mount else list export))

-- which of them a procedure has
abbrev pub result_place : ℕ → ℕ
result_place proc_no =
    if proc_no == 1 then 1 else
    (if proc_no == 2 then 2 else
    (if proc_no == 5 then 3 else 0))

abbrev pub result_kind : ℕ → Kind whole
result_kind proc_no = variant result_layout (result_place proc_no)

-- ---- values

abbrev pub mount_value : MountPair → Value
mount_value m = bytes m.host ⊗ bytes m.path

abbrev pub mounts_value : List MountPair → Value
mounts_value ms = chain (map mount_value ms) none

abbrev pub names_value : List (List ℕ) → Value
names_value texts = chain (map bytes texts) none

abbrev pub export_value : ExportItem → Value
export_value e = bytes e.path ⊗ names_value e.groups

abbrev pub exports_value : List ExportItem → Value
exports_value es = chain (map export_value es) none

-- the number of the procedure, and its arguments
abbrev pub args_value : MountArgs → Value
args_value args.Null = number 0 ⊗ none
args_value (args.Mnt path) = number 1 ⊗ bytes path
args_value args.Dump = number 2 ⊗ none
args_value (args.Umnt path) = number 3 ⊗ bytes path
args_value args.UmntAll = number 4 ⊗ none
args_value args.Export = number 5 ⊗ none

-- the place of the result among the results, and what it says
abbrev pub result_value : MountResult → Value
result_value results.Void = number 0 ⊗ none
result_value (results.Given file) = number 1 ⊗ number 0 ⊗ bytes file.0
result_value (results.Refused status) = number 1 ⊗ number status ⊗ none
result_value (results.Mounts ms) = number 2 ⊗ mounts_value ms
result_value (results.Exports es) = number 3 ⊗ exports_value es

-- ---- which procedure they are of

-- the procedure that has these arguments
abbrev pub proc_of : MountArgs → ℕ
proc_of a = place_of (args_value a)

-- the procedure has results of this variant
abbrev pub IsResultOf : ℕ → MountResult → Type 0
IsResultOf proc_no r = place_of (result_value r) ≡ result_place proc_no

-- ---- what is written

abbrev pub args_bytes : MountArgs → List ℕ
args_bytes a = writes (args_kind (proc_of a)) (args_value a)

abbrev pub result_bytes : MountResult → List ℕ
result_bytes r = writes (variant result_layout (place_of (result_value r))) (result_value r)

-- ---- what has room

abbrev pub IsName : List ℕ → Type 0
IsName text = length text ≤ name_limit

abbrev pub MountFits : MountPair → Type 0
MountFits m = IsName m.host × (length m.path ≤ path_limit)

abbrev pub ExportFits : ExportItem → Type 0
ExportFits e = (length e.path ≤ path_limit) × All IsName e.groups

abbrev pub ArgsFit : MountArgs → Type 0
ArgsFit args.Null = Unit {0}
ArgsFit (args.Mnt path) = length path ≤ path_limit
ArgsFit args.Dump = Unit {0}
ArgsFit (args.Umnt path) = length path ≤ path_limit
ArgsFit args.UmntAll = Unit {0}
ArgsFit args.Export = Unit {0}

abbrev pub ResultFits : MountResult → Type 0
ResultFits results.Void = Unit {0}
ResultFits (results.Given file) = Unit {0}
ResultFits (results.Refused status) = status ≡ 0 → ⊥
ResultFits (results.Mounts ms) = All MountFits ms
ResultFits (results.Exports es) = All ExportFits es
