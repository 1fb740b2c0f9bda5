-- The kinds of the messages of NFS, version 2, with the standard's names, and the value that each message is (RFC 1094, sections 2.2
-- and 2.3).
use Rattle.std.specs.Prelude.{◌≡◌, ℕ, ◌≤◌, ◌==◌, if◌then◌else◌, List, length, map, All}
use Rattle.sd_xdr.specs.Kind.{any, flag, fixed, upto, part, whole, Kind, void, word, opaque, list, ◌&◌, union, given, ended, variant, place_of, Value, none, number, bytes, ◌⊗◌, truth, chain}
use Rattle.sd_xdr.specs.Grammar.{writes}
use Rattle.sd_outside.specs.declared.fhandle.FHandle.{FHandle}
use Rattle.sd_nfs_msg.specs.declared.parts.Fattr.{Fattr}
use Rattle.sd_nfs_msg.specs.declared.parts.Sattr.{Sattr}
use Rattle.sd_nfs_msg.specs.declared.parts.DirEntry.{DirEntry}
use Rattle.sd_nfs_msg.specs.declared.message.NfsArgs.{NfsArgs}
use Rattle.sd_nfs_msg.specs.declared.message.NfsArgs.TheVariants as args
use Rattle.sd_nfs_msg.specs.declared.message.NfsResult.{NfsResult}
use Rattle.sd_nfs_msg.specs.declared.message.NfsResult.TheVariants as results

-- the port of a file server (section 3.4)
abbrev pub nfs_port : ℕ
nfs_port = 2049

-- MAXNAMLEN, MAXPATHLEN and MAXDATA (section 3.5)
abbrev pub name_limit : ℕ
name_limit = 255

abbrev pub path_limit : ℕ
path_limit = 1024

abbrev pub data_limit : ℕ
data_limit = 8192

-- ---- kinds

-- fhandle (section 2.3.3)
abbrev pub fhandle : Kind part
fhandle = opaque (fixed 32)

-- fattr (section 2.3.5), each time as seconds and microseconds (section 2.3.4): kind, mode, nlink, uid, gid, size, blocksize, rdev,
-- blocks, fsid, fileid, atime, mtime, ctime
abbrev pub fattr : Kind part
fattr = word any & word any & word any & word any & word any & word any & word any & word any & word any & word any & word any & word any & word any & word any & word any & word any & word any

-- sattr (section 2.3.6): mode, uid, gid, size, atime, mtime
abbrev pub sattr : Kind part
sattr = word any & word any & word any & word any & word any & word any & word any & word any

-- filename (section 2.3.7)
abbrev pub filename : Kind part
filename = opaque (upto name_limit)

-- path (section 2.3.8)
abbrev pub nfspath : Kind part
nfspath = opaque (upto path_limit)

-- nfsdata (section 2.2.7) and nfscookie (section 2.2.17)
abbrev pub nfsdata : Kind part
nfsdata = opaque (upto data_limit)

abbrev pub nfscookie : Kind part
nfscookie = opaque (fixed 4)

-- diropargs (section 2.3.10): dir, name
abbrev pub diropargs : Kind part
diropargs = fhandle & filename

-- entry (section 2.2.17): fileid, name, cookie; whether one more follows belongs to the list
abbrev pub entry : Kind part
entry = word any & filename & nfscookie

-- The arguments of a procedure (section 2.2).
abbrev pub args_layout : ℕ → Kind part
args_layout n =
    -- 1 NFSPROC_GETATTR, 2 NFSPROC_SETATTR, 4 NFSPROC_LOOKUP, 5 NFSPROC_READLINK
    if n == 1 then fhandle else
    (if n == 2 then fhandle & sattr else
    (if n == 4 then diropargs else
    (if n == 5 then fhandle else
    -- 6 NFSPROC_READ: file, offset, count, totalcount
    (if n == 6 then fhandle & word any & word any & word any else
    -- 8 NFSPROC_WRITE: file, beginoffset, offset, totalcount, data
    (if n == 8 then fhandle & word any & word any & word any & nfsdata else
    -- 9 NFSPROC_CREATE, 10 NFSPROC_REMOVE, 11 NFSPROC_RENAME, 12 NFSPROC_LINK
    (if n == 9 then diropargs & sattr else
    (if n == 10 then diropargs else
    (if n == 11 then diropargs & diropargs else
    (if n == 12 then fhandle & diropargs else
    -- 13 NFSPROC_SYMLINK: from, to, attributes
    (if n == 13 then diropargs & nfspath & sattr else
    -- 14 NFSPROC_MKDIR, 15 NFSPROC_RMDIR
    (if n == 14 then diropargs & sattr else
    (if n == 15 then diropargs else
    -- 16 NFSPROC_READDIR: dir, cookie, count; 17 NFSPROC_STATFS
    (if n == 16 then fhandle & nfscookie & word any else
    (if n == 17 then fhandle else
    -- 0 NFSPROC_NULL
    void))))))))))))))

abbrev pub args_kind : ℕ → Kind whole
args_kind proc_no = variant args_layout proc_no

-- What a procedure answers behind the status 0 (section 2.2).
abbrev pub done_layout : ℕ → Kind part
done_layout n =
    -- attrstat: 1 NFSPROC_GETATTR, 2 NFSPROC_SETATTR, 8 NFSPROC_WRITE
    if n == 1 then fattr else
    (if n == 2 then fattr else
    (if n == 8 then fattr else
    -- diropres: 4 NFSPROC_LOOKUP, 9 NFSPROC_CREATE, 14 NFSPROC_MKDIR
    (if n == 4 then fhandle & fattr else
    (if n == 9 then fhandle & fattr else
    (if n == 14 then fhandle & fattr else
    -- 5 NFSPROC_READLINK, 6 NFSPROC_READ
    (if n == 5 then nfspath else
    (if n == 6 then fattr & nfsdata else
    -- 16 NFSPROC_READDIR: entries, eof
    (if n == 16 then list entry & word flag else
    -- 17 NFSPROC_STATFS: tsize, bsize, blocks, bfree, bavail
    (if n == 17 then word any & word any & word any & word any & word any else
    -- 10 NFSPROC_REMOVE, 11 NFSPROC_RENAME, 12 NFSPROC_LINK, 13 NFSPROC_SYMLINK, 15 NFSPROC_RMDIR
    void)))))))))

-- Each result but that of the null procedure is a union by its status (section 2.3.1), and has nothing where that isn't NFS_OK.
abbrev pub result_layout : ℕ → Kind part
result_layout n = if n == 0 then void else union any (λ status. if status == 0 then given n (done_layout n) else void)

abbrev pub result_kind : ℕ → Kind whole
result_kind proc_no = ended (result_layout proc_no)

-- ---- values

abbrev pub fh_value : FHandle → Value
fh_value file = bytes file.0

abbrev pub attr_value : Fattr → Value
attr_value a = number a.kind ⊗ number a.mode ⊗ number a.nlink ⊗ number a.uid ⊗ number a.gid ⊗ number a.size ⊗ number a.blocksize ⊗ number a.rdev ⊗ number a.blocks ⊗ number a.fsid ⊗ number a.fileid ⊗ number a.atime_s ⊗ number a.atime_u ⊗ number a.mtime_s ⊗ number a.mtime_u ⊗ number a.ctime_s ⊗ number a.ctime_u

abbrev pub sattr_value : Sattr → Value
sattr_value a = number a.mode ⊗ number a.uid ⊗ number a.gid ⊗ number a.size ⊗ number a.atime_s ⊗ number a.atime_u ⊗ number a.mtime_s ⊗ number a.mtime_u

abbrev pub place_value : FHandle → List ℕ → Value
place_value dir text = fh_value dir ⊗ bytes text

abbrev pub entry_value : DirEntry → Value
entry_value e = number e.fileid ⊗ bytes e.name ⊗ bytes e.cookie

abbrev pub entries_value : List DirEntry → Value
entries_value es = chain (map entry_value es) none

-- the number of the procedure, and its arguments
abbrev pub args_value : NfsArgs → Value
args_value args.Null = number 0 ⊗ none
args_value (args.Getattr file) = number 1 ⊗ fh_value file
args_value (args.Setattr file set) = number 2 ⊗ fh_value file ⊗ sattr_value set
args_value (args.Lookup dir text) = number 4 ⊗ place_value dir text
args_value (args.Readlink file) = number 5 ⊗ fh_value file
args_value (args.Read file offset count total) = number 6 ⊗ fh_value file ⊗ number offset ⊗ number count ⊗ number total
args_value (args.Write file begin offset total body) = number 8 ⊗ fh_value file ⊗ number begin ⊗ number offset ⊗ number total ⊗ bytes body
args_value (args.Create dir text set) = number 9 ⊗ place_value dir text ⊗ sattr_value set
args_value (args.Remove dir text) = number 10 ⊗ place_value dir text
args_value (args.Rename dir text to_dir to_text) = number 11 ⊗ place_value dir text ⊗ place_value to_dir to_text
args_value (args.Link from to_dir to_text) = number 12 ⊗ fh_value from ⊗ place_value to_dir to_text
args_value (args.Symlink dir text target set) = number 13 ⊗ place_value dir text ⊗ bytes target ⊗ sattr_value set
args_value (args.Mkdir dir text set) = number 14 ⊗ place_value dir text ⊗ sattr_value set
args_value (args.Rmdir dir text) = number 15 ⊗ place_value dir text
args_value (args.Readdir dir mark count) = number 16 ⊗ fh_value dir ⊗ bytes mark ⊗ number count
args_value (args.Statfs file) = number 17 ⊗ fh_value file

-- the status 0, the number of the procedure, and what it answers
abbrev pub done_value : ℕ → Value → Value
done_value n x = number 0 ⊗ number n ⊗ x

abbrev pub result_value : NfsResult → Value
result_value results.Null = none
result_value (results.Refused status) = number status ⊗ none
result_value (results.Getattr a) = done_value 1 (attr_value a)
result_value (results.Setattr a) = done_value 2 (attr_value a)
result_value (results.Lookup file a) = done_value 4 (fh_value file ⊗ attr_value a)
result_value (results.Readlink target) = done_value 5 (bytes target)
result_value (results.Read a body) = done_value 6 (attr_value a ⊗ bytes body)
result_value (results.Write a) = done_value 8 (attr_value a)
result_value (results.Create file a) = done_value 9 (fh_value file ⊗ attr_value a)
result_value results.Remove = done_value 10 none
result_value results.Rename = done_value 11 none
result_value results.Link = done_value 12 none
result_value results.Symlink = done_value 13 none
result_value (results.Mkdir file a) = done_value 14 (fh_value file ⊗ attr_value a)
result_value results.Rmdir = done_value 15 none
result_value (results.Readdir entries eof) = done_value 16 (entries_value entries ⊗ truth eof)
result_value (results.Statfs tsize bsize blocks bfree bavail) = done_value 17 (number tsize ⊗ number bsize ⊗ number blocks ⊗ number bfree ⊗ number bavail)

-- ---- which procedure they are of

-- the procedure that has these arguments
abbrev pub proc_of : NfsArgs → ℕ
proc_of a = place_of (args_value a)

-- the procedure that has this result; a refusal, which all but the null one spell alike, is counted to the first of them
abbrev pub result_proc : NfsResult → ℕ
result_proc results.Null = 0
result_proc (results.Refused status) = 1
result_proc (results.Getattr a) = 1
result_proc (results.Setattr a) = 2
result_proc (results.Lookup file a) = 4
result_proc (results.Readlink target) = 5
result_proc (results.Read a body) = 6
result_proc (results.Write a) = 8
result_proc (results.Create file a) = 9
result_proc results.Remove = 10
result_proc results.Rename = 11
result_proc results.Link = 12
result_proc results.Symlink = 13
result_proc (results.Mkdir file a) = 14
result_proc results.Rmdir = 15
result_proc (results.Readdir entries eof) = 16
result_proc (results.Statfs tsize bsize blocks bfree bavail) = 17

-- The procedure has results of this variant: each but the null one may refuse.
abbrev pub IsResultOf : ℕ → NfsResult → Type 0
IsResultOf proc_no (results.Refused status) = proc_no ≡ 0 → ⊥
IsResultOf proc_no r = proc_no ≡ result_proc r

-- ---- what is written

abbrev pub args_bytes : NfsArgs → List ℕ
args_bytes a = writes (args_kind (proc_of a)) (args_value a)

abbrev pub result_bytes : NfsResult → List ℕ
result_bytes r = writes (result_kind (result_proc r)) (result_value r)

-- ---- what has room

abbrev pub EntryFits : DirEntry → Type 0
EntryFits e = length e.name ≤ name_limit

abbrev pub ArgsFit : NfsArgs → Type 0
ArgsFit args.Null = Unit {0}
ArgsFit (args.Getattr file) = Unit {0}
ArgsFit (args.Setattr file set) = Unit {0}
ArgsFit (args.Lookup dir text) = length text ≤ name_limit
ArgsFit (args.Readlink file) = Unit {0}
ArgsFit (args.Read file offset count total) = Unit {0}
ArgsFit (args.Write file begin offset total body) = length body ≤ data_limit
ArgsFit (args.Create dir text set) = length text ≤ name_limit
ArgsFit (args.Remove dir text) = length text ≤ name_limit
ArgsFit (args.Rename dir text to_dir to_text) = (length text ≤ name_limit) × (length to_text ≤ name_limit)
ArgsFit (args.Link from to_dir to_text) = length to_text ≤ name_limit
ArgsFit (args.Symlink dir text target set) = (length text ≤ name_limit) × (length target ≤ path_limit)
ArgsFit (args.Mkdir dir text set) = length text ≤ name_limit
ArgsFit (args.Rmdir dir text) = length text ≤ name_limit
ArgsFit (args.Readdir dir mark count) = Unit {0}
ArgsFit (args.Statfs file) = Unit {0}

abbrev pub ResultFits : NfsResult → Type 0
ResultFits results.Null = Unit {0}
ResultFits (results.Refused status) = status ≡ 0 → ⊥
ResultFits (results.Getattr a) = Unit {0}
ResultFits (results.Setattr a) = Unit {0}
ResultFits (results.Lookup file a) = Unit {0}
ResultFits (results.Readlink target) = length target ≤ path_limit
ResultFits (results.Read a body) = length body ≤ data_limit
ResultFits (results.Write a) = Unit {0}
ResultFits (results.Create file a) = Unit {0}
ResultFits results.Remove = Unit {0}
ResultFits results.Rename = Unit {0}
ResultFits results.Link = Unit {0}
ResultFits results.Symlink = Unit {0}
ResultFits (results.Mkdir file a) = Unit {0}
ResultFits results.Rmdir = Unit {0}
ResultFits (results.Readdir entries eof) = All EntryFits entries
ResultFits (results.Statfs tsize bsize blocks bfree bavail) = Unit {0}
