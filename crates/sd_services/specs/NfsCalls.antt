-- The server's part of NFS over the network: its program, and which datagram changes a file (RFC 1094, section 2.2).
use Rattle.std.specs.Prelude.{ℕ, Bool, false, ◌==◌, ◌&&◌, ◌||◌, if◌then◌else◌, List, Option, Some, None}
use Rattle.std.specs.Option.{option_map, option_and_then}
use Rattle.sd_outside.specs.declared.fhandle.FHandle.{FHandle}
use Rattle.sd_outside.specs.declared.packet.Addr.{Addr}
use Rattle.sd_outside.specs.declared.packet.Packet.{Packet}
use Rattle.sd_outside.specs.declared.packet.Packet.TheVariants.{Frame, Udp}
use Rattle.sd_xdr.specs.Kind.{Value, number_of, bytes_of, first, second, place_of}
use Rattle.sd_nfs_msg.specs.declared.parts.Sattr.{Sattr}
use Rattle.sd_nfs_msg.specs.declared.message.NfsArgs.{NfsArgs}
use Rattle.sd_nfs_msg.specs.declared.message.NfsArgs.TheVariants as asks
use Rattle.sd_nfs_msg.specs.Layout as layout
use Rattle.sd_nfs_msg.specs.Layout.{nfs_port}
use Rattle.sd_config.specs.declared.config.Config.{Config}
use Rattle.sd_services.specs.Files.{exported}
use Rattle.sd_services.specs.Part.{Change}
use Rattle.sd_services.specs.NfsReply.{nfs_reply, nfs_change, uses_swap}
use Rattle.sd_services.specs.RpcCalls.{Program, asked}

-- ---- the arguments that were read

abbrev pub handle_in : Value → FHandle
handle_in v = record { 0 = bytes_of v }

-- sattr (2.3.6): mode, uid, gid, size, atime, mtime
abbrev pub sattr_in : Value → Sattr
sattr_in v =
    let uid = second v in
    let gid = second uid in
    let size = second gid in
    let atime_s = second size in
    let atime_u = second atime_s in
    let mtime_s = second atime_u in
    record {
      mode = number_of (first v);
      uid = number_of (first uid);
      gid = number_of (first gid);
      size = number_of (first size);
      atime_s = number_of (first atime_s);
      atime_u = number_of (first atime_u);
      mtime_s = number_of (first mtime_s);
      mtime_u = number_of (second mtime_s);
    }

-- readargs (2.2.7): file, offset, count, totalcount
abbrev pub read_in : Value → NfsArgs
read_in v =
    let offset = second v in
    let count = second offset in
    asks.Read (handle_in (first v)) (number_of (first offset)) (number_of (first count)) (number_of (second count))

-- writeargs (2.2.9): file, beginoffset, offset, totalcount, data
abbrev pub write_in : Value → NfsArgs
write_in v =
    let begin = second v in
    let offset = second begin in
    let total = second offset in
    asks.Write (handle_in (first v)) (number_of (first begin)) (number_of (first offset)) (number_of (first total)) (bytes_of (second total))

-- createargs (2.2.10): where, attributes
abbrev pub create_in : Value → NfsArgs
create_in v = asks.Create (handle_in (first (first v))) (bytes_of (second (first v))) (sattr_in (second v))

-- renameargs (2.2.12): from, to
abbrev pub rename_in : Value → NfsArgs
rename_in v = asks.Rename (handle_in (first (first v))) (bytes_of (second (first v))) (handle_in (first (second v))) (bytes_of (second (second v)))

-- linkargs (2.2.13): from, to
abbrev pub link_in : Value → NfsArgs
link_in v = asks.Link (handle_in (first v)) (handle_in (first (second v))) (bytes_of (second (second v)))

-- symlinkargs (2.2.14): from, to, attributes
abbrev pub symlink_in : Value → NfsArgs
symlink_in v = asks.Symlink (handle_in (first (first v))) (bytes_of (second (first v))) (bytes_of (first (second v))) (sattr_in (second (second v)))

-- createargs again for MKDIR (2.2.15)
abbrev pub mkdir_in : Value → NfsArgs
mkdir_in v = asks.Mkdir (handle_in (first (first v))) (bytes_of (second (first v))) (sattr_in (second v))

-- readdirargs (2.2.17): dir, cookie, count
abbrev pub readdir_in : Value → NfsArgs
readdir_in v = asks.Readdir (handle_in (first v)) (bytes_of (first (second v))) (number_of (second (second v)))

-- the arguments of a procedure
abbrev pub nfs_args_of : ℕ → Value → NfsArgs
nfs_args_of proc_no v =
    if proc_no == 1 then asks.Getattr (handle_in v) else
    (if proc_no == 2 then asks.Setattr (handle_in (first v)) (sattr_in (second v)) else
    (if proc_no == 4 then asks.Lookup (handle_in (first v)) (bytes_of (second v)) else
    (if proc_no == 5 then asks.Readlink (handle_in v) else
    (if proc_no == 6 then read_in v else
    (if proc_no == 8 then write_in v else
    (if proc_no == 9 then create_in v else
    (if proc_no == 10 then asks.Remove (handle_in (first v)) (bytes_of (second v)) else
    (if proc_no == 11 then rename_in v else
    (if proc_no == 12 then link_in v else
    (if proc_no == 13 then symlink_in v else
    (if proc_no == 14 then mkdir_in v else
    (if proc_no == 15 then asks.Rmdir (handle_in (first v)) (bytes_of (second v)) else
    (if proc_no == 16 then readdir_in v else
    (if proc_no == 17 then asks.Statfs (handle_in v) else asks.Null))))))))))))))

-- they stand behind the number of their procedure
abbrev pub nfs_args_in : Value → NfsArgs
nfs_args_in v = nfs_args_of (place_of v) (second v)

-- ---- the program: 100003, version 2

-- NFSPROC_ROOT (2.2.4) and NFSPROC_WRITECACHE (2.2.8) are obsolete and unused
abbrev pub is_obsolete : ℕ → Bool
is_obsolete proc_no = (proc_no == 3) || (proc_no == 7)

abbrev pub nfs_giving : (Value → Option (List ℕ)) → Program
nfs_giving gives = record { prog = 100003; vers = 2; last = 17; skips = is_obsolete; args = layout.args_kind; gives = gives }

-- NFS as an address sees it, where these files are stored
abbrev pub nfs : Config → List (List ℕ) → ℕ → Program
nfs c stored from = nfs_giving (λ v. Some (layout.result_bytes (nfs_reply (exported c) stored from (nfs_args_in v))))

-- NFS as it is asked, whatever it gives
abbrev pub nfs_to_ask : Program
nfs_to_ask = nfs_giving (λ v. None)

-- what the body of a datagram asks of NFS, where it is a call that is not refused
abbrev pub nfs_asked : List ℕ → Option NfsArgs
nfs_asked body = option_map nfs_args_in (asked nfs_to_ask body)

-- ---- what a datagram does to the files

-- a datagram to the server's port of NFS
abbrev pub is_to_nfs : Config → Addr → Bool
is_to_nfs c dst = (dst.ip == c.server.ip) && (dst.port == nfs_port)

-- what a packet asks of NFS, with the address from which it comes
abbrev pub nfs_call : Config → Packet → Option (ℕ × NfsArgs)
nfs_call c (Frame bytes) = None
nfs_call c (Udp src dst body) = if is_to_nfs c dst then option_map (λ args. (src.ip, args)) (nfs_asked body) else None

-- The change of a file that a packet asks for. It is that of a datagram from the client's address to the server's port 2049 whose
-- body is an NFS WRITE that isn't refused, by the handle of the swap file, of some bytes that end within its size; no other packet
-- asks for one.
unfoldable pub change_of : Config → Packet → Option Change
change_of c packet = option_and_then (λ (call : ℕ × NfsArgs). nfs_change (exported c) call.0 call.1) (nfs_call c packet)

abbrev pub uses_swap_file : Config → Option (ℕ × NfsArgs) → Bool
uses_swap_file c None = false
uses_swap_file c (Some call) = uses_swap (exported c) call.1

-- a READ or WRITE of the swap file, by whomever
unfoldable pub is_swap_access : Config → Packet → Bool
is_swap_access c packet = uses_swap_file c (nfs_call c packet)
