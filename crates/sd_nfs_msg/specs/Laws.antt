-- What holds of the messages of NFS. The functions of src/laws.rt have these as their contracts.
use Rattle.std.specs.Prelude.{◌≡◌, ◌↔◌, ℕ, ◌^◌, ◌<◌, ◌≤◌, List, length, All}
use Rattle.sd_xdr.specs.Kind.{whole}
use Rattle.sd_xdr.specs.Grammar.{Reads}
use Rattle.sd_outside.specs.declared.fhandle.FHandle.{FHandle}
use Rattle.sd_nfs_msg.specs.declared.parts.Fattr.{Fattr}
use Rattle.sd_nfs_msg.specs.declared.parts.Sattr.{Sattr}
use Rattle.sd_nfs_msg.specs.declared.parts.DirEntry.{DirEntry}
use Rattle.sd_nfs_msg.specs.declared.message.NfsArgs.{NfsArgs}
use Rattle.sd_nfs_msg.specs.declared.message.NfsArgs.TheVariants as args
use Rattle.sd_nfs_msg.specs.declared.message.NfsResult.{NfsResult}
use Rattle.sd_nfs_msg.specs.declared.message.NfsResult.TheVariants as results
use Rattle.sd_nfs_msg.specs.Layout.{name_limit, path_limit, data_limit, args_kind, args_value, proc_of, args_bytes, IsResultOf, result_kind, result_value, result_bytes}

-- the bytes, all of them, spell these arguments of a procedure
abbrev pub ReadsArgs : ℕ → List ℕ → NfsArgs → Type 0
ReadsArgs proc_no bs a = Reads whole (args_kind proc_no) bs (args_value a)

-- the bytes, all of them, spell this result of a procedure
abbrev pub ReadsResult : ℕ → List ℕ → NfsResult → Type 0
ReadsResult proc_no bs r = Reads whole (result_kind proc_no) bs (result_value r)

-- ---- what has a spelling: a definition's numbers and lists may be any, a message's are words and have their lengths

abbrev pub IsWord : ℕ → Type 0
IsWord n = n < 2 ^ 32

abbrev pub IsHandle : FHandle → Type 0
IsHandle file = length file.0 ≡ 32

abbrev pub IsName : List ℕ → Type 0
IsName text = length text ≤ name_limit

abbrev pub IsAttr : Fattr → Type 0
IsAttr a =
    IsWord a.kind × IsWord a.mode × IsWord a.nlink × IsWord a.uid × IsWord a.gid × IsWord a.size
    × IsWord a.blocksize × IsWord a.rdev × IsWord a.blocks × IsWord a.fsid × IsWord a.fileid
    × IsWord a.atime_s × IsWord a.atime_u × IsWord a.mtime_s × IsWord a.mtime_u × IsWord a.ctime_s × IsWord a.ctime_u

abbrev pub IsSet : Sattr → Type 0
IsSet a =
    IsWord a.mode × IsWord a.uid × IsWord a.gid × IsWord a.size
    × IsWord a.atime_s × IsWord a.atime_u × IsWord a.mtime_s × IsWord a.mtime_u

abbrev pub IsEntry : DirEntry → Type 0
IsEntry e = IsWord e.fileid × IsName e.name × (length e.cookie ≡ 4)

-- the arguments that have a spelling
abbrev pub AreArgs : NfsArgs → Type 0
AreArgs args.Null = Unit {0}
AreArgs (args.Getattr file) = IsHandle file
AreArgs (args.Setattr file set) = IsHandle file × IsSet set
AreArgs (args.Lookup dir text) = IsHandle dir × IsName text
AreArgs (args.Readlink file) = IsHandle file
AreArgs (args.Read file offset count total) = IsHandle file × IsWord offset × IsWord count × IsWord total
AreArgs (args.Write file begin offset total body) = IsHandle file × IsWord begin × IsWord offset × IsWord total × (length body ≤ data_limit)
AreArgs (args.Create dir text set) = IsHandle dir × IsName text × IsSet set
AreArgs (args.Remove dir text) = IsHandle dir × IsName text
AreArgs (args.Rename dir text to_dir to_text) = IsHandle dir × IsName text × IsHandle to_dir × IsName to_text
AreArgs (args.Link from to_dir to_text) = IsHandle from × IsHandle to_dir × IsName to_text
AreArgs (args.Symlink dir text target set) = IsHandle dir × IsName text × (length target ≤ path_limit) × IsSet set
AreArgs (args.Mkdir dir text set) = IsHandle dir × IsName text × IsSet set
AreArgs (args.Rmdir dir text) = IsHandle dir × IsName text
AreArgs (args.Readdir dir mark count) = IsHandle dir × (length mark ≡ 4) × IsWord count
AreArgs (args.Statfs file) = IsHandle file

-- the results that have a spelling
abbrev pub IsResult : NfsResult → Type 0
IsResult results.Null = Unit {0}
IsResult (results.Refused status) = IsWord status × (status ≡ 0 → ⊥)
IsResult (results.Getattr a) = IsAttr a
IsResult (results.Setattr a) = IsAttr a
IsResult (results.Lookup file a) = IsHandle file × IsAttr a
IsResult (results.Readlink target) = length target ≤ path_limit
IsResult (results.Read a body) = IsAttr a × (length body ≤ data_limit)
IsResult (results.Write a) = IsAttr a
IsResult (results.Create file a) = IsHandle file × IsAttr a
IsResult results.Remove = Unit {0}
IsResult results.Rename = Unit {0}
IsResult results.Link = Unit {0}
IsResult results.Symlink = Unit {0}
IsResult (results.Mkdir file a) = IsHandle file × IsAttr a
IsResult results.Rmdir = Unit {0}
IsResult (results.Readdir entries eof) = All IsEntry entries
IsResult (results.Statfs tsize bsize blocks bfree bavail) = IsWord tsize × IsWord bsize × IsWord blocks × IsWord bfree × IsWord bavail

-- ---- the laws

-- What is written for arguments is read as those, and as no others.
abbrev pub ArgsWrittenAreRead : Type 0
ArgsWrittenAreRead = (a b : NfsArgs) → AreArgs a → ReadsArgs (proc_of a) (args_bytes a) b ↔ (b ≡ a)

-- Bytes that are read as arguments of a procedure are those that are written for them. The arguments are of that procedure, and
-- have a spelling.
abbrev pub ArgsOneSpelling : Type 0
ArgsOneSpelling = (proc_no : ℕ) (a : NfsArgs) (bs : List ℕ) →
    ReadsArgs proc_no bs a → (bs ≡ args_bytes a) × (proc_no ≡ proc_of a) × AreArgs a

-- The same of results, a refusal being read as that by each procedure that may refuse.
abbrev pub ResultWrittenIsRead : Type 0
ResultWrittenIsRead = (proc_no : ℕ) (r s : NfsResult) → IsResult r → IsResultOf proc_no r →
    ReadsResult proc_no (result_bytes r) s ↔ (s ≡ r)

abbrev pub ResultOneSpelling : Type 0
ResultOneSpelling = (proc_no : ℕ) (r : NfsResult) (bs : List ℕ) →
    ReadsResult proc_no bs r → (bs ≡ result_bytes r) × IsResultOf proc_no r × IsResult r
