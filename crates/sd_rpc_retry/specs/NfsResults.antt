-- What the results of NFS say, by their values (RFC 1094, section 2.2).
use Rattle.std.specs.Prelude.{ℕ, Bool, ◌==◌, if◌then◌else◌, List, [], ◌∷◌}
use Rattle.sd_outside.specs.declared.fhandle.FHandle.{FHandle}
use Rattle.sd_xdr.specs.Kind.{Value, none, number, bytes, ◌⊗◌, number_of, bytes_of, first, second}
use Rattle.sd_nfs_msg.specs.declared.parts.Fattr.{Fattr}
use Rattle.sd_nfs_msg.specs.declared.parts.DirEntry.{DirEntry}
use Rattle.sd_nfs_msg.specs.declared.message.NfsResult.{NfsResult}
use Rattle.sd_nfs_msg.specs.declared.message.NfsResult.TheVariants as results

abbrev pub handle_in : Value → FHandle
handle_in v = record { 0 = bytes_of v }

-- fattr (2.3.5): kind, mode, nlink, uid, gid, size, blocksize, rdev, blocks, fsid, fileid, atime, mtime, ctime
abbrev pub attr_in : Value → Fattr
attr_in v =
    let mode_on = second v in
    let nlink_on = second mode_on in
    let uid_on = second nlink_on in
    let gid_on = second uid_on in
    let size_on = second gid_on in
    let blocksize_on = second size_on in
    let rdev_on = second blocksize_on in
    let blocks_on = second rdev_on in
    let fsid_on = second blocks_on in
    let fileid_on = second fsid_on in
    let atime_s_on = second fileid_on in
    let atime_u_on = second atime_s_on in
    let mtime_s_on = second atime_u_on in
    let mtime_u_on = second mtime_s_on in
    let ctime_s_on = second mtime_u_on in
    record {
      kind = number_of (first v);
      mode = number_of (first mode_on);
      nlink = number_of (first nlink_on);
      uid = number_of (first uid_on);
      gid = number_of (first gid_on);
      size = number_of (first size_on);
      blocksize = number_of (first blocksize_on);
      rdev = number_of (first rdev_on);
      blocks = number_of (first blocks_on);
      fsid = number_of (first fsid_on);
      fileid = number_of (first fileid_on);
      atime_s = number_of (first atime_s_on);
      atime_u = number_of (first atime_u_on);
      mtime_s = number_of (first mtime_s_on);
      mtime_u = number_of (first mtime_u_on);
      ctime_s = number_of (first ctime_s_on);
      ctime_u = number_of (second ctime_s_on);
    }

-- entry (2.2.17): fileid, name, cookie
abbrev pub entry_in : Value → DirEntry
entry_in v = record { fileid = number_of (first v); name = bytes_of (first (second v)); cookie = bytes_of (second (second v)) }

abbrev pub entries_in : Value → List DirEntry
entries_in none = []
entries_in (number n) = []
entries_in (bytes bs) = []
entries_in (x ⊗ y) = entry_in x ∷ entries_in y

-- info (2.2.18): tsize, bsize, blocks, bfree, bavail
abbrev pub statfs_in : Value → NfsResult
statfs_in v =
    let bsize_on = second v in
    let blocks_on = second bsize_on in
    let bfree_on = second blocks_on in
    results.Statfs (number_of (first v)) (number_of (first bsize_on)) (number_of (first blocks_on)) (number_of (first bfree_on)) (number_of (second bfree_on))

-- what a procedure answers behind the status NFS_OK
abbrev pub done_in : ℕ → Value → NfsResult
done_in proc_no v =
    if proc_no == 1 then results.Getattr (attr_in v) else
    (if proc_no == 2 then results.Setattr (attr_in v) else
    (if proc_no == 4 then results.Lookup (handle_in (first v)) (attr_in (second v)) else
    (if proc_no == 5 then results.Readlink (bytes_of v) else
    (if proc_no == 6 then results.Read (attr_in (first v)) (bytes_of (second v)) else
    (if proc_no == 8 then results.Write (attr_in v) else
    (if proc_no == 9 then results.Create (handle_in (first v)) (attr_in (second v)) else
    (if proc_no == 10 then results.Remove else
    (if proc_no == 11 then results.Rename else
    (if proc_no == 12 then results.Link else
    (if proc_no == 13 then results.Symlink else
    (if proc_no == 14 then results.Mkdir (handle_in (first v)) (attr_in (second v)) else
    (if proc_no == 15 then results.Rmdir else
    (if proc_no == 16 then results.Readdir (entries_in (first v)) (number_of (second v) == 1) else
    (if proc_no == 17 then statfs_in v else results.Null))))))))))))))

-- the status, the number of the procedure, and what it answers
abbrev pub status_in : ℕ → ℕ → Value → NfsResult
status_in proc_no status v = if status == 0 then done_in proc_no (second v) else results.Refused status

-- the result of a procedure
abbrev pub nfs_result_in : ℕ → Value → NfsResult
nfs_result_in proc_no v = if proc_no == 0 then results.Null else status_in proc_no (number_of (first v)) (second v)
