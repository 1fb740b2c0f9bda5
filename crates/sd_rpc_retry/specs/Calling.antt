-- What is sent for a call of a procedure, and what a datagram tells its caller (RFC 1057; RFC 1094; bootparam_prot.x of SunOS). That
-- this is what the grammars say of replies is `VerdictIsMatch` of Matches.antt.
use Rattle.std.specs.Prelude.{ℕ, ◌+◌, ◌-◌, ◌^◌, ◌≤◌, ◌==◌, ◌&&◌, ◌||◌, Bool, if◌then◌else◌, List, [], length, Option, Some, None, Result, Ok, Err}
use Rattle.std.specs.Option.{option_map}
use Rattle.sd_outside.specs.declared.packet.Addr.{Addr}
use Rattle.sd_outside.specs.declared.packet.Packet.{Packet}
use Rattle.sd_outside.specs.declared.packet.Packet.TheVariants.{Frame, Udp}
use Rattle.sd_xdr.specs.Kind.{Value, number_of, bytes_of, first, second}
use Rattle.sd_xdr.specs.Grammar.{writes}
use Rattle.sd_rpc_msg.specs.declared.message.Call.{Call}
use Rattle.sd_rpc_msg.specs.declared.message.OpaqueAuth.{OpaqueAuth}
use Rattle.sd_rpc_msg.specs.declared.unix.UnixCred.{UnixCred}
use Rattle.sd_rpc_msg.specs.Unix.{unix, unix_value}
use Rattle.sd_rpc_msg.specs.declared.message.Message.TheVariants.{Asked}
use Rattle.sd_rpc_msg.specs.Layout.{message, message_value}
use Rattle.sd_portmap.specs.declared.message.PmapArgs.{PmapArgs}
use Rattle.sd_portmap.specs.declared.message.PmapArgs.TheVariants as pmap
use Rattle.sd_portmap.specs.Layout as portmap
use Rattle.sd_bootparams.specs.declared.message.BpArgs.{BpArgs}
use Rattle.sd_bootparams.specs.declared.message.BpArgs.TheVariants as bp
use Rattle.sd_bootparams.specs.Layout as bootparams
use Rattle.sd_mount.specs.declared.message.MountArgs.{MountArgs}
use Rattle.sd_mount.specs.declared.message.MountArgs.TheVariants as mnt
use Rattle.sd_mount.specs.Layout as mount
use Rattle.sd_nfs_msg.specs.declared.message.NfsArgs.{NfsArgs}
use Rattle.sd_nfs_msg.specs.declared.message.NfsResult.{NfsResult}
use Rattle.sd_nfs_msg.specs.declared.message.NfsResult.TheVariants as results
use Rattle.sd_nfs_msg.specs.Layout as nfs
use Rattle.sd_services.specs.RpcCalls.{spelled, auth_null}
use Rattle.sd_portmap.specs.Layout.{pmap_port}
use Rattle.sd_services.specs.RpcReply.{address_in}
use Rattle.sd_link.specs.Tries.{Hearing}
use Rattle.sd_rpc_retry.specs.declared.calling.Ask.{Ask}
use Rattle.sd_rpc_retry.specs.declared.calling.Ask.TheVariants as ask
use Rattle.sd_rpc_retry.specs.declared.calling.Answer.{Answer}
use Rattle.sd_rpc_retry.specs.declared.calling.Answer.TheVariants as answer
use Rattle.sd_rpc_retry.specs.declared.calling.Caller.{Caller}
use Rattle.sd_rpc_retry.specs.declared.question.Named.{Named}
use Rattle.sd_rpc_retry.specs.declared.question.Located.{Located}
use Rattle.sd_rpc_retry.specs.NfsResults.{nfs_result_in}

-- ---- where calls go

-- 255.255.255.255 is everyone on this network (RFC 919, section 7)
abbrev pub is_everyone : Addr → Bool
is_everyone dst = dst.ip == 2 ^ 32 - 1

-- A portmapper is asked to call another program on its machine: it is at its port, and it is who hears a broadcast.
abbrev pub is_relayed : Addr → Bool
is_relayed dst = dst.port == pmap_port || is_everyone dst

-- ---- the call

-- AUTH_UNIX (RFC 1057, section 9.2): user 0 of the machine, in group 0 and in no other, at stamp 0
abbrev pub user_of : List ℕ → UnixCred
user_of machine = record { stamp = 0; machine = machine; uid = 0; gid = 0; gids = [] }

unfoldable pub unix_body : List ℕ → List ℕ
unix_body machine = writes unix (unix_value (user_of machine))

abbrev pub auth_unix : List ℕ → OpaqueAuth
auth_unix machine = record { flavor = 1; body = unix_body machine }

-- call_body (RFC 1057, section 8): a procedure of a program's version, with credentials and its arguments
abbrev pub call_as : OpaqueAuth → ℕ → ℕ → ℕ → ℕ → List ℕ → Call
call_as cred xid prog vers proc_no args = record { xid = xid; prog = prog; vers = vers; proc_no = proc_no; cred = cred; verf = auth_null; args = args }

-- without credentials
abbrev pub call_of : ℕ → ℕ → ℕ → ℕ → List ℕ → Call
call_of xid prog vers proc_no args = call_as auth_null xid prog vers proc_no args

-- PMAP_PROG, PMAP_VERS (RFC 1057, appendix A)
abbrev pub pmap_call : ℕ → PmapArgs → Call
pmap_call xid args = call_of xid 100000 2 (portmap.proc_of args) (portmap.args_bytes args)

-- BOOTPARAMPROG, BOOTPARAMVERS; by PMAPPROC_CALLIT where a portmapper relays it
abbrev pub bootparams_call : ℕ → Bool → BpArgs → Call
bootparams_call xid relayed args =
    if relayed then pmap_call xid (pmap.Callit 100026 1 (bootparams.proc_of args) (bootparams.args_bytes args))
    else call_of xid 100026 1 (bootparams.proc_of args) (bootparams.args_bytes args)

-- MOUNTPROG, MOUNTVERS (RFC 1094, appendix A)
abbrev pub mount_call : List ℕ → ℕ → MountArgs → Call
mount_call machine xid args = call_as (auth_unix machine) xid 100005 1 (mount.proc_of args) (mount.args_bytes args)

-- NFS_PROGRAM, NFS_VERSION (RFC 1094, section 2.2)
abbrev pub nfs_call : List ℕ → ℕ → NfsArgs → Call
nfs_call machine xid args = call_as (auth_unix machine) xid 100003 2 (nfs.proc_of args) (nfs.args_bytes args)

-- A program's port is asked for over UDP, IP protocol 17; the port in the mapping doesn't count. MOUNT and NFS are told the machine.
abbrev pub call_for : List ℕ → ℕ → Addr → Ask → Call
call_for machine xid dst (ask.Getport prog vers) = pmap_call xid (pmap.Getport (record { prog = prog; vers = vers; prot = 17; port = 0 }))
call_for machine xid dst (ask.Whoami ip) = bootparams_call xid (is_relayed dst) (bp.Whoami ip)
call_for machine xid dst (ask.Getfile client key) = bootparams_call xid (is_relayed dst) (bp.Getfile client key)
call_for machine xid dst (ask.Mnt path) = mount_call machine xid (mnt.Mnt path)
call_for machine xid dst (ask.Nfs args) = nfs_call machine xid args

-- what has a spelling
abbrev pub AskFits : Ask → Type 0
AskFits (ask.Getport prog vers) = Unit {0}
AskFits (ask.Whoami ip) = Unit {0}
AskFits (ask.Getfile client key) = (length client ≤ bootparams.name_limit) × (length key ≤ bootparams.key_limit)
AskFits (ask.Mnt path) = length path ≤ mount.path_limit
AskFits (ask.Nfs args) = nfs.ArgsFit args

-- where the caller is
abbrev pub home : Caller → Addr
home caller = record { ip = caller.ip; port = caller.port }

-- the datagram with the call
abbrev pub request : Caller → Addr → Ask → Packet
request caller dst asked = Udp (home caller) dst (writes message (message_value (Asked (call_for caller.machine caller.next_xid dst asked))))

-- ---- the reply

-- What a reply says: the results, or by which number the call was refused.
abbrev pub Said : Type 0
Said = Result (List ℕ) ℕ

-- accepted_reply: verf, accept_stat; 0 SUCCESS with the results, 1 to 4 the refusals (RFC 1057, section 8)
abbrev pub accepted_says : Value → Said
accepted_says v =
    let accept_stat = number_of (first (second v)) in
    if accept_stat == 0 then Ok (bytes_of (second (second v))) else Err accept_stat

-- rejected_reply: reject_stat; 0 RPC_MISMATCH is refusal 10, and 1 AUTH_ERROR refusal 10 + auth_stat
abbrev pub rejected_says : Value → Said
rejected_says v =
    let reject_stat = number_of (first v) in
    if reject_stat == 0 then Err 10 else Err (10 + number_of (second v))

-- reply_body: reply_stat; 0 MSG_ACCEPTED, 1 MSG_DENIED
abbrev pub reply_says : Value → Said
reply_says v =
    let reply_stat = number_of (first v) in
    if reply_stat == 0 then accepted_says (second v) else rejected_says (second v)

-- rpc_msg: xid, msg_type; it is a reply to the call with this xid where msg_type is 1 REPLY
abbrev pub message_says : ℕ → Value → Option Said
message_says xid v =
    let msg_type = number_of (first (second v)) in
    if number_of (first v) == xid && msg_type == 1 then Some (reply_says (second (second v))) else None

-- what follows from what there is
abbrev pub and_then : {A B : Type 0} → Option A → (A → Option B) → Option B
and_then None f = None
and_then (Some x) f = f x

-- unsigned int: the port, behind the place of the result
abbrev pub port_in : Option Value → Option Answer
port_in found = option_map (λ v. answer.Port (number_of (second v))) found

-- bp_whoami_res, behind the number of its procedure: client_name, domain_name, router_address
abbrev pub whoami_in : ℕ → Value → Answer
whoami_in from v =
    let client = second v in
    let domain = second client in
    answer.Whoami from (bytes_of (first client)) (bytes_of (first domain)) (address_in (second domain))

-- bp_getfile_res, likewise: server_name, server_address, server_path
abbrev pub getfile_in : ℕ → Value → Answer
getfile_in from v =
    let server = second v in
    let address = second server in
    answer.Getfile from (bytes_of (first server)) (address_in (first address)) (bytes_of (second address))

-- call_result of PMAPPROC_CALLIT: port, res
abbrev pub relayed_in : Value → List ℕ
relayed_in v = bytes_of (second (second v))

-- the results of bootparams in what a portmapper, or the program itself, answers
abbrev pub bootparams_results : Bool → List ℕ → Option (List ℕ)
bootparams_results relayed results = if relayed then option_map relayed_in (spelled (portmap.result_kind 5) results) else Some results

abbrev pub bootparams_says : ℕ → Bool → List ℕ → Option Value
bootparams_says proc_no relayed results = and_then (bootparams_results relayed results) (spelled (bootparams.result_kind proc_no))

-- fhstatus (RFC 1094, appendix A), behind the place of the result: 0 with a handle, or the status of a refusal
abbrev pub given_in : Value → Answer
given_in v =
    let status = number_of (first (second v)) in
    if status == 0 then answer.Given (record { 0 = bytes_of (second (second v)) }) else answer.Refused status

-- a status other than NFS_OK refuses (RFC 1094, section 2.3.1)
abbrev pub nfs_answer : NfsResult → Answer
nfs_answer (results.Refused status) = answer.Refused status
nfs_answer done = answer.Nfs done

-- the same of a result of a procedure, by its value
abbrev pub nfs_answer_in : ℕ → Value → Answer
nfs_answer_in proc_no v = nfs_answer (nfs_result_in proc_no v)

-- What results from this address tell of what was asked.
abbrev pub answer_in : Ask → Addr → ℕ → List ℕ → Option Answer
answer_in (ask.Getport prog vers) dst from results = port_in (spelled (portmap.result_kind 3) results)
answer_in (ask.Whoami ip) dst from results = option_map (whoami_in from) (bootparams_says 1 (is_relayed dst) results)
answer_in (ask.Getfile client key) dst from results = option_map (getfile_in from) (bootparams_says 2 (is_relayed dst) results)
answer_in (ask.Mnt path) dst from results = option_map given_in (spelled (mount.result_kind 1) results)
answer_in (ask.Nfs args) dst from results = option_map (nfs_answer_in (nfs.proc_of args)) (spelled (nfs.result_kind (nfs.proc_of args)) results)

-- what a call comes to: an answer, or the number of a refusal
abbrev pub Verdict : Type 0
Verdict = Result Answer ℕ

-- the same, where what is told has a type of its own, and shows an answer
abbrev pub shown_as : {T : Type 0} → (T → Answer) → Result T ℕ → Verdict
shown_as shown (Ok told) = Ok (shown told)
shown_as shown (Err code) = Err code

-- what WHOAMI tells, and what GETFILE tells
abbrev pub named : Named → Answer
named told = answer.Whoami told.from told.client told.domain told.router

abbrev pub located : Located → Answer
located told = answer.Getfile told.from told.server told.ip told.path

abbrev pub verdict_of : Ask → Addr → ℕ → Said → Option Verdict
verdict_of asked dst from (Ok results) = option_map Ok (answer_in asked dst from results)
verdict_of asked dst from (Err code) = Some (Err code)

-- Replies come from where the call went; those to a broadcast come from the portmapper's port of any machine.
abbrev pub comes_from : Addr → Addr → Bool
comes_from dst src = if is_everyone dst then src.port == pmap_port else src.ip == dst.ip && src.port == dst.port

abbrev pub is_at : Addr → Addr → Bool
is_at me dst = dst.ip == me.ip && dst.port == me.port

-- What a packet tells the caller at this address and port that waits for the reply to the call with this xid.
abbrev pub verdict_in : Addr → ℕ → Addr → Ask → Packet → Option Verdict
verdict_in me xid dst asked (Frame bytes) = None
verdict_in me xid dst asked (Udp from to body) =
    if is_at me to && comes_from dst from then and_then (and_then (spelled message body) (message_says xid)) (verdict_of asked dst from.ip) else None

-- The caller takes the first packet that tells it something, and sends nothing for any packet.
abbrev pub reply_hearing : Addr → ℕ → Addr → Ask → Hearing Verdict
reply_hearing me xid dst asked = record { match = verdict_in me xid dst asked; replies = λ packet. [] }

abbrev pub hearing_of : Caller → Addr → Ask → Hearing Verdict
hearing_of caller dst asked = reply_hearing (home caller) caller.next_xid dst asked
