-- What the server answers to each call of NFS (RFC 1094, section 2.2).
use Rattle.std.specs.Prelude.{ℕ, ◌+◌, ◌-◌, ◌/◌, min, Bool, ◌&&◌, ◌==◌, nat_le, if◌then◌else◌, List, [], ◌∷◌, length, take, drop, slice_index_or, Option, Some, None}
use Rattle.std.specs.Int.{w32, from_be_bytes}
use Rattle.sd_outside.specs.declared.fhandle.FHandle.{FHandle}
use Rattle.sd_nfs_msg.specs.declared.parts.Fattr.{Fattr}
use Rattle.sd_nfs_msg.specs.declared.parts.Sattr.{Sattr}
use Rattle.sd_nfs_msg.specs.declared.parts.DirEntry.{DirEntry}
use Rattle.sd_nfs_msg.specs.declared.message.NfsArgs.{NfsArgs}
use Rattle.sd_nfs_msg.specs.declared.message.NfsArgs.TheVariants as asks
use Rattle.sd_nfs_msg.specs.declared.message.NfsResult.{NfsResult}
use Rattle.sd_nfs_msg.specs.declared.message.NfsResult.TheVariants as results
use Rattle.sd_services.specs.declared.node.Node.{Node}
use Rattle.sd_services.specs.declared.node.Standing.{Standing}
use Rattle.sd_services.specs.declared.node.Standing.TheVariants as standing
use Rattle.sd_services.specs.Files.{Exported, Place, handle, named_by}
use Rattle.sd_services.specs.Names.{called, listed, entries, window}

-- ---- refusals (section 2.3.1)

abbrev pub refused : ℕ → NfsResult
refused status = results.Refused status

-- NFSERR_PERM: not the owner
abbrev pub err_perm : ℕ
err_perm = 1

-- NFSERR_NOENT: no such name
abbrev pub err_noent : ℕ
err_noent = 2

-- NFSERR_IO: the disk failed
abbrev pub err_io : ℕ
err_io = 5

-- NFSERR_NXIO: the file has no such use
abbrev pub err_nxio : ℕ
err_nxio = 6

-- NFSERR_ACCES: permission denied
abbrev pub err_acces : ℕ
err_acces = 13

-- NFSERR_NOTDIR: not a directory
abbrev pub err_notdir : ℕ
err_notdir = 20

-- NFSERR_ISDIR: a directory
abbrev pub err_isdir : ℕ
err_isdir = 21

-- NFSERR_NOSPC: no space left
abbrev pub err_nospc : ℕ
err_nospc = 28

-- NFSERR_ROFS: the file system is read only
abbrev pub err_rofs : ℕ
err_rofs = 30

-- NFSERR_STALE: the handle names no live file
abbrev pub err_stale : ℕ
err_stale = 70

-- ---- attributes (section 2.3.5)

-- of a file by its export and number, its ftype (section 2.3.2), its mode, its links and its size
abbrev pub attributes : ℕ → ℕ → ℕ → ℕ → ℕ → ℕ → Fattr
attributes export number ftype bits links bytes = record {
  kind = ftype;
  mode = bits;
  nlink = links;
  uid = 0;
  gid = 0;
  size = bytes;
  blocksize = 8192;
  rdev = 0;
  blocks = (bytes + 511) / 512;
  fsid = export + 1;
  fileid = number;
  atime_s = 0;
  atime_u = 0;
  mtime_s = 0;
  mtime_u = 0;
  ctime_s = 0;
  ctime_u = 0;
}

-- NFDIR 040555, NFREG 0100444, NFLNK 0120777
abbrev pub root_attributes : ℕ → Standing → Fattr
root_attributes number standing.Directory = attributes 0 number 2 16749 2 512
root_attributes number (standing.File content) = attributes 0 number 1 33060 1 (length content)
root_attributes number (standing.Symlink target) = attributes 0 number 5 41471 1 (length target)

-- NFREG 0100600
abbrev pub swap_attributes : ℕ → Fattr
swap_attributes size = attributes 1 1 1 33152 1 size

-- ---- what several rows say

-- 2.2.7: the bytes from the offset on, as many as the count, 8,192 and the end allow
abbrev pub bytes_read : List ℕ → ℕ → ℕ → List ℕ
bytes_read content offset count = take (min count 8192) (drop offset content)

-- 2.2.18: how many blocks of 8,192 bytes hold so many bytes
abbrev pub blocks_of : ℕ → ℕ
blocks_of bytes = (bytes + 8191) / 8192

abbrev pub statfs : ℕ → NfsResult
statfs blocks = results.Statfs 8192 8192 blocks 0 0

-- ---- the root export

-- the file of that number
abbrev pub node_at : List Node → ℕ → Node
node_at nodes number = slice_index_or nodes (number - 1) (record { path = []; what = standing.Directory })

-- 2.2.5
abbrev pub looks_up : List Node → Option ℕ → NfsResult
looks_up nodes None = refused err_noent
looks_up nodes (Some number) = results.Lookup (record { 0 = handle 0 number }) (root_attributes number (node_at nodes number).what)

abbrev pub lookup : List Node → ℕ → List ℕ → Standing → List ℕ → NfsResult
lookup nodes number dir standing.Directory name = looks_up nodes (called nodes number dir name)
lookup nodes number dir (standing.File content) name = refused err_notdir
lookup nodes number dir (standing.Symlink target) name = refused err_notdir

-- 2.2.6
abbrev pub readlink : Standing → NfsResult
readlink standing.Directory = refused err_nxio
readlink (standing.File content) = refused err_nxio
readlink (standing.Symlink target) = results.Readlink target

-- 2.2.7
abbrev pub read : ℕ → Standing → ℕ → ℕ → NfsResult
read number standing.Directory offset count = refused err_isdir
read number (standing.File content) offset count = results.Read (root_attributes number (standing.File content)) (bytes_read content offset count)
read number (standing.Symlink target) offset count = refused err_nxio

-- 2.2.17: the entries after the cookie, while their bytes and the closing 8 bytes are within the count and 8,192
abbrev pub ends : List DirEntry → List DirEntry → NfsResult
ends rest taken = results.Readdir taken (length taken == length rest)

abbrev pub reads_dir : List DirEntry → ℕ → NfsResult
reads_dir rest count = ends rest (window (min count 8192 - 8) rest)

abbrev pub readdir : List Node → ℕ → List ℕ → Standing → List ℕ → ℕ → NfsResult
readdir nodes number dir standing.Directory cookie count = reads_dir (drop (from_be_bytes w32 cookie) (entries 1 (listed nodes number dir))) count
readdir nodes number dir (standing.File content) cookie count = refused err_notdir
readdir nodes number dir (standing.Symlink target) cookie count = refused err_notdir

-- 2.2.18: the blocks of all files and links
abbrev pub standing_blocks : Standing → ℕ
standing_blocks standing.Directory = 0
standing_blocks (standing.File content) = blocks_of (length content)
standing_blocks (standing.Symlink target) = blocks_of (length target)

abbrev pub all_blocks : List Node → ℕ
all_blocks [] = 0
all_blocks (node ∷ nodes) = standing_blocks node.what + all_blocks nodes

-- a file of the root export, procedure by procedure: 2.2.1 to 2.2.18, without the obsolete 2.2.4 and 2.2.8
abbrev pub on_root : List Node → ℕ → Node → NfsArgs → NfsResult
on_root nodes number node asks.Null = results.Null
on_root nodes number node (asks.Getattr at) = results.Getattr (root_attributes number node.what)
on_root nodes number node (asks.Setattr at set) = refused err_rofs
on_root nodes number node (asks.Lookup at name) = lookup nodes number node.path node.what name
on_root nodes number node (asks.Readlink at) = readlink node.what
on_root nodes number node (asks.Read at offset count total) = read number node.what offset count
on_root nodes number node (asks.Write at begin offset total content) = refused err_rofs
on_root nodes number node (asks.Create at name set) = refused err_rofs
on_root nodes number node (asks.Remove at name) = refused err_rofs
on_root nodes number node (asks.Rename at name to to_name) = refused err_rofs
on_root nodes number node (asks.Link at to to_name) = refused err_rofs
on_root nodes number node (asks.Symlink at name path set) = refused err_rofs
on_root nodes number node (asks.Mkdir at name set) = refused err_rofs
on_root nodes number node (asks.Rmdir at name) = refused err_rofs
on_root nodes number node (asks.Readdir at cookie count) = readdir nodes number node.path node.what cookie count
on_root nodes number node (asks.Statfs at) = statfs (all_blocks nodes)

-- ---- the swap export

-- 2.2.3: all ones in a word leave it as it is
abbrev pub changes_nothing : Sattr → Bool
changes_nothing set =
    (set.mode == 0xffffffff) && (set.uid == 0xffffffff) && (set.gid == 0xffffffff) && (set.size == 0xffffffff) &&
    (set.atime_s == 0xffffffff) && (set.atime_u == 0xffffffff) && (set.mtime_s == 0xffffffff) && (set.mtime_u == 0xffffffff)

-- 2.2.7: by the owner alone
abbrev pub swap_read : ℕ → ℕ → ℕ → List ℕ → ℕ → ℕ → NfsResult
swap_read owner from size content offset count =
    if from == owner then results.Read (swap_attributes size) (bytes_read content offset count) else refused err_acces

-- 2.2.9: by the owner alone, and up to the end
abbrev pub swap_write : ℕ → ℕ → ℕ → ℕ → ℕ → NfsResult
swap_write owner from size offset len =
    if from == owner
    then (if nat_le (offset + len) size then results.Write (swap_attributes size) else refused err_nospc)
    else refused err_acces

-- the swap file with its size and content, procedure by procedure, by its owner's address and the caller's
abbrev pub on_swap : ℕ → ℕ → ℕ → List ℕ → NfsArgs → NfsResult
on_swap owner from size content asks.Null = results.Null
on_swap owner from size content (asks.Getattr at) = results.Getattr (swap_attributes size)
on_swap owner from size content (asks.Setattr at set) = if changes_nothing set then results.Setattr (swap_attributes size) else refused err_perm
on_swap owner from size content (asks.Lookup at name) = refused err_notdir
on_swap owner from size content (asks.Readlink at) = refused err_nxio
on_swap owner from size content (asks.Read at offset count total) = swap_read owner from size content offset count
on_swap owner from size content (asks.Write at begin offset total bytes) = swap_write owner from size offset (length bytes)
on_swap owner from size content (asks.Create at name set) = refused err_notdir
on_swap owner from size content (asks.Remove at name) = refused err_notdir
on_swap owner from size content (asks.Rename at name to to_name) = refused err_notdir
on_swap owner from size content (asks.Link at to to_name) = refused err_notdir
on_swap owner from size content (asks.Symlink at name path set) = refused err_notdir
on_swap owner from size content (asks.Mkdir at name set) = refused err_notdir
on_swap owner from size content (asks.Rmdir at name) = refused err_notdir
on_swap owner from size content (asks.Readdir at cookie count) = refused err_notdir
on_swap owner from size content (asks.Statfs at) = statfs (blocks_of size)

abbrev pub on_swap_file : ℕ → ℕ → Option ℕ → List ℕ → NfsArgs → NfsResult
on_swap_file owner from None content args = refused err_stale
on_swap_file owner from (Some size) content args = on_swap owner from size content args

-- ---- both exports

-- the file by which a call goes: that of its first handle
abbrev pub first_handle : NfsArgs → Option FHandle
first_handle asks.Null = None
first_handle (asks.Getattr at) = Some at
first_handle (asks.Setattr at set) = Some at
first_handle (asks.Lookup at name) = Some at
first_handle (asks.Readlink at) = Some at
first_handle (asks.Read at offset count total) = Some at
first_handle (asks.Write at begin offset total content) = Some at
first_handle (asks.Create at name set) = Some at
first_handle (asks.Remove at name) = Some at
first_handle (asks.Rename at name to to_name) = Some at
first_handle (asks.Link at to to_name) = Some at
first_handle (asks.Symlink at name path set) = Some at
first_handle (asks.Mkdir at name set) = Some at
first_handle (asks.Rmdir at name) = Some at
first_handle (asks.Readdir at cookie count) = Some at
first_handle (asks.Statfs at) = Some at

-- a handle that names no live file is stale, whatever the procedure
abbrev pub decided : Exported → List ℕ → ℕ → Option Place → NfsArgs → NfsResult
decided files content from None args = refused err_stale
decided files content from (Some place) args =
    if place.0 == 0 then on_root files.root place.1 (node_at files.root place.1) args else on_swap_file files.owner from files.swap content args

-- 2.2.1 has no handle
abbrev pub answered : Exported → List ℕ → ℕ → Option FHandle → NfsArgs → NfsResult
answered files content from None args = results.Null
answered files content from (Some h) args = decided files content from (named_by files h.0) args

-- What a call from an address is answered, where the swap file holds this content.
abbrev pub nfs_result : Exported → List ℕ → ℕ → NfsArgs → NfsResult
nfs_result files content from args = answered files content from (first_handle args) args
