-- The server's RPC programs: the portmapper (RFC 1057, appendix A), bootparams (bootparam_prot.x of SunOS), MOUNT and NFS (RFC 1094).
use Rattle.std.specs.Prelude.{ℕ, ◌+◌, ◌*◌, Bool, false, ◌==◌, ◌||◌, if◌then◌else◌, List, [], ◌∷◌, Option, Some, None}
use Rattle.std.specs.Option.{option_map}
use Rattle.sd_outside.specs.declared.packet.Addr.{Addr}
use Rattle.sd_outside.specs.declared.packet.Packet.{Packet}
use Rattle.sd_outside.specs.declared.packet.Packet.TheVariants.{Udp}
use Rattle.sd_xdr.specs.Kind.{Value, number_of, bytes_of, first, second, place_of}
use Rattle.sd_xdr.specs.Grammar.{writes}
use Rattle.sd_rpc_msg.specs.declared.message.Outcome.{Outcome}
use Rattle.sd_rpc_msg.specs.declared.message.Outcome.TheVariants.{Success, ProgUnavail, ProgMismatch, ProcUnavail, GarbageArgs, RpcMismatch, AuthError}
use Rattle.sd_rpc_msg.specs.declared.message.Reply.{Reply}
use Rattle.sd_rpc_msg.specs.declared.message.Message.TheVariants.{Answered}
use Rattle.sd_rpc_msg.specs.Layout.{message, message_value}
use Rattle.sd_portmap.specs.declared.mapping.Mapping.{Mapping}
use Rattle.sd_portmap.specs.declared.message.PmapArgs.{PmapArgs}
use Rattle.sd_portmap.specs.declared.message.PmapArgs.TheVariants as pmap
use Rattle.sd_portmap.specs.declared.message.PmapResult.{PmapResult}
use Rattle.sd_portmap.specs.declared.message.PmapResult.TheVariants as pmap_result
use Rattle.sd_portmap.specs.Layout as portmap
use Rattle.sd_portmap.specs.Layout.{pmap_port}
use Rattle.sd_portmap.specs.Table.{port_of}
use Rattle.sd_bootparams.specs.declared.book.Host.{Host}
use Rattle.sd_bootparams.specs.BookView.{BookView}
use Rattle.sd_bootparams.specs.File.{nothing, adding, parts}
use Rattle.sd_bootparams.specs.Tables.{whoami_of, getfile_of}
use Rattle.sd_bootparams.specs.declared.message.BpArgs.{BpArgs}
use Rattle.sd_bootparams.specs.declared.message.BpArgs.TheVariants as bp
use Rattle.sd_bootparams.specs.declared.message.BpResult.{BpResult}
use Rattle.sd_bootparams.specs.declared.message.BpResult.TheVariants as bp_result
use Rattle.sd_bootparams.specs.Layout as bootparam
use Rattle.sd_config.specs.declared.config.Config.{Config}
use Rattle.sd_services.specs.RpcCalls.{Program, none_between, accepted, reply_to}
use Rattle.sd_services.specs.MountReply.{mount_port, mount, mounts_after}
use Rattle.sd_nfs_msg.specs.Layout.{nfs_port}
use Rattle.sd_services.specs.NfsCalls.{nfs}
use Rattle.sd_services.specs.Part.{ServerPart, Replied}

-- ---- bootparams: program 100026, version 1

abbrev pub bootparams_port : ℕ
bootparams_port = 1016

-- the machines that are known: the server, the client, and those of the host lines
abbrev pub machines_of : Config → List Host
machines_of c = record { name = c.server.name; ip = c.server.ip } ∷ record { name = c.client.name; ip = c.client.ip } ∷ c.hosts

-- what bootparams answers by: the file, and these machines
abbrev pub book_of : Config → BookView
book_of c = record { contents = adding nothing (parts c.params); hosts = machines_of c; domain = c.domain; router = c.router }

-- an address by its four bytes: bp_address is 1, net, host, lh, impno
abbrev pub address_in : Value → ℕ
address_in v =
    let net = second v in
    let host = second net in
    let lh = second host in
    let impno = second lh in
    ((number_of (first net) * 256 + number_of (first host)) * 256 + number_of (first lh)) * 256 + number_of impno

-- the arguments, behind the number of their procedure
abbrev pub bp_args_in : Value → BpArgs
bp_args_in v =
    if place_of v == 0 then bp.Null else
    (if place_of v == 1 then bp.Whoami (address_in (second v)) else
    bp.Getfile (bytes_of (first (second v))) (bytes_of (second (second v))))

-- BOOTPARAMPROC_WHOAMI and BOOTPARAMPROC_GETFILE are answered by the book, and not at all where it has no entry: another server
-- may have one.
abbrev pub bp_answer : Config → BpArgs → Option BpResult
bp_answer c bp.Null = Some bp_result.Void
bp_answer c (bp.Whoami ip) = option_map (λ found. bp_result.Whoami found.0 found.1 found.2) (whoami_of (book_of c) ip)
bp_answer c (bp.Getfile client key) = option_map (λ found. bp_result.Getfile found.0 found.1 found.2) (getfile_of (book_of c) client key)

abbrev pub bp_giving : (Value → Option (List ℕ)) → Program
bp_giving gives = record { prog = 100026; vers = 1; last = 2; skips = none_between; args = bootparam.args_kind; gives = gives }

abbrev pub bootparams : Config → Program
bootparams c = bp_giving (λ v. option_map bootparam.result_bytes (bp_answer c (bp_args_in v)))

-- ---- the portmapper: program 100000, version 2

-- a program that is served over UDP, IP protocol 17
abbrev pub over_udp : ℕ → ℕ → ℕ → Mapping
over_udp prog vers port = record { prog = prog; vers = vers; prot = 17; port = port }

-- the portmapper, bootparams, MOUNT and NFS
abbrev pub mappings : List Mapping
mappings = over_udp 100000 2 pmap_port ∷ over_udp 100026 1 bootparams_port ∷ over_udp 100005 1 mount_port ∷ over_udp 100003 2 nfs_port ∷ []

-- mapping: prog, vers, prot, port
abbrev pub mapping_in : Value → Mapping
mapping_in v = record {
  prog = number_of (first v);
  vers = number_of (first (second v));
  prot = number_of (first (second (second v)));
  port = number_of (second (second (second v)));
}

-- call_args: prog, vers, proc, args
abbrev pub callit_in : Value → PmapArgs
callit_in v = pmap.Callit (number_of (first v)) (number_of (first (second v))) (number_of (first (second (second v)))) (bytes_of (second (second (second v))))

-- the arguments, behind the number of their procedure
abbrev pub pmap_args_in : Value → PmapArgs
pmap_args_in v =
    if place_of v == 0 then pmap.Null else
    (if place_of v == 1 then pmap.Set (mapping_in (second v)) else
    (if place_of v == 2 then pmap.Unset (mapping_in (second v)) else
    (if place_of v == 3 then pmap.Getport (mapping_in (second v)) else
    (if place_of v == 4 then pmap.Dump else callit_in (second v)))))

-- the results of a call that succeeds
abbrev pub results_in : Option Outcome → Option (List ℕ)
results_in (Some (Success verf results)) = Some results
results_in (Some (ProgUnavail verf)) = None
results_in (Some (ProgMismatch verf low high)) = None
results_in (Some (ProcUnavail verf)) = None
results_in (Some (GarbageArgs verf)) = None
results_in (Some (RpcMismatch low high)) = None
results_in (Some (AuthError stat)) = None
results_in None = None

-- Nobody sets or unsets a mapping over the network. PMAPPROC_CALLIT calls bootparams alone, and there is no reply where that call
-- isn't successful.
abbrev pub pmap_answer : Config → PmapArgs → Option PmapResult
pmap_answer c pmap.Null = Some pmap_result.Void
pmap_answer c (pmap.Set m) = Some (pmap_result.Flag false)
pmap_answer c (pmap.Unset m) = Some (pmap_result.Flag false)
pmap_answer c (pmap.Getport m) = Some (pmap_result.Port (port_of mappings m.prog m.vers m.prot))
pmap_answer c pmap.Dump = Some (pmap_result.Mappings mappings)
pmap_answer c (pmap.Callit prog vers proc_no args) = option_map (pmap_result.Callit bootparams_port) (results_in (accepted (bootparams c) prog vers proc_no args))

abbrev pub pmap_giving : (Value → Option (List ℕ)) → Program
pmap_giving gives = record { prog = 100000; vers = 2; last = 5; skips = none_between; args = portmap.args_kind; gives = gives }

abbrev pub portmapper : Config → Program
portmapper c = pmap_giving (λ v. option_map portmap.result_bytes (pmap_answer c (pmap_args_in v)))

-- ---- datagrams

abbrev pub is_rpc_port : ℕ → Bool
is_rpc_port port = (port == pmap_port) || (port == bootparams_port) || (port == mount_port) || (port == nfs_port)

-- the program at one of these ports, as an address sees it
abbrev pub program_at : Config → ServerPart → ℕ → ℕ → Program
program_at c part from port =
    if port == pmap_port then portmapper c else
    (if port == bootparams_port then bootparams c else
    (if port == mount_port then mount c part.mounts from else nfs c part.files from))

-- a reply from the port that was asked at the server's address
abbrev pub rpc_packet : Config → ℕ → Addr → Reply → Packet
rpc_packet c port to reply = Udp (record { ip = c.server.ip; port = port }) to (writes message (message_value (Answered reply)))

abbrev pub as_packets : Option Packet → List Packet
as_packets None = []
as_packets (Some packet) = packet ∷ []

abbrev pub rpc_out : Config → ServerPart → Addr → ℕ → List ℕ → List Packet
rpc_out c part from port body = as_packets (option_map (rpc_packet c port from) (reply_to (program_at c part from.ip port) body))

-- MOUNT alone changes the mounts
abbrev pub mounts_then : Config → ServerPart → Addr → ℕ → List ℕ → List (ℕ × List ℕ)
mounts_then c part from port body = if port == mount_port then mounts_after c part.mounts from.ip body else part.mounts

-- What the server does with a datagram to one of these ports, but for its files.
abbrev pub rpc_reply : Config → ServerPart → Addr → ℕ → List ℕ → Replied
rpc_reply c part from port body = record { out = rpc_out c part from port body; next = record part { mounts = mounts_then c part from port body } }
