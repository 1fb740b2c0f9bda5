-- Which datagrams are the reply to a call, and what they tell, by the grammars of the messages.
use Rattle.std.specs.Prelude.{◌≡◌, ◌↔◌, ℕ, ◌+◌, Bool, true, false, List, Option, Some, None, Ok, Err}
use Rattle.sd_outside.specs.Bytes.{IsBytes}
use Rattle.sd_outside.specs.declared.packet.Addr.{Addr}
use Rattle.sd_outside.specs.declared.packet.Packet.{Packet}
use Rattle.sd_outside.specs.declared.packet.Packet.TheVariants.{Frame, Udp}
use Rattle.sd_xdr.specs.Kind.{whole}
use Rattle.sd_xdr.specs.Grammar.{Reads}
use Rattle.sd_rpc_msg.specs.declared.message.Outcome.{Outcome}
use Rattle.sd_rpc_msg.specs.declared.message.Outcome.TheVariants.{Success, ProgUnavail, ProgMismatch, ProcUnavail, GarbageArgs, RpcMismatch, AuthError}
use Rattle.sd_rpc_msg.specs.declared.message.Message.TheVariants.{Answered}
use Rattle.sd_rpc_msg.specs.Layout.{message, message_value}
use Rattle.sd_portmap.specs.Laws as portmap
use Rattle.sd_portmap.specs.declared.message.PmapResult.TheVariants as pmap
use Rattle.sd_bootparams.specs.Laws as bootparams
use Rattle.sd_bootparams.specs.declared.message.BpResult.{BpResult}
use Rattle.sd_bootparams.specs.declared.message.BpResult.TheVariants as bp
use Rattle.sd_mount.specs.Laws as mount
use Rattle.sd_mount.specs.declared.message.MountResult.{MountResult}
use Rattle.sd_mount.specs.declared.message.MountResult.TheVariants as mounts
use Rattle.sd_nfs_msg.specs.Layout.{proc_of}
use Rattle.sd_nfs_msg.specs.Laws as nfs
use Rattle.sd_nfs_msg.specs.declared.message.NfsResult.{NfsResult}
use Rattle.sd_rpc_retry.specs.declared.calling.Ask.{Ask}
use Rattle.sd_rpc_retry.specs.declared.calling.Ask.TheVariants as ask
use Rattle.sd_rpc_retry.specs.declared.calling.Answer.{Answer}
use Rattle.sd_rpc_retry.specs.declared.calling.Answer.TheVariants as answer
use Rattle.sd_portmap.specs.Layout.{pmap_port}
use Rattle.sd_rpc_retry.specs.Calling.{Verdict, is_everyone, is_relayed, nfs_answer, verdict_in}

-- a result of bootparams, alone or in what a portmapper answers for PMAPPROC_CALLIT
abbrev pub TellsResult : Bool → ℕ → List ℕ → BpResult → Type 0
TellsResult false proc_no results r = bootparams.ReadsResult proc_no results r
TellsResult true proc_no results r =
    (port : ℕ) × (inner : List ℕ) × portmap.ReadsResult 5 results (pmap.Callit port inner) × bootparams.ReadsResult proc_no inner r

-- what a result of MNTPROC_MNT answers
abbrev pub mnt_answer : MountResult → Option Answer
mnt_answer (mounts.Given file) = Some (answer.Given file)
mnt_answer (mounts.Refused status) = Some (answer.Refused status)
mnt_answer other = None

-- results from this address tell this of what was asked
abbrev pub Tells : Ask → Addr → ℕ → List ℕ → Answer → Type 0
Tells (ask.Getport prog vers) dst from results (answer.Port port) = portmap.ReadsResult 3 results (pmap.Port port)
Tells (ask.Getport prog vers) dst from results other = ⊥
Tells (ask.Whoami address) dst from results (answer.Whoami at client domain router) = (at ≡ from) × TellsResult (is_relayed dst) 1 results (bp.Whoami client domain router)
Tells (ask.Whoami address) dst from results other = ⊥
Tells (ask.Getfile client key) dst from results (answer.Getfile at server ip path) = (at ≡ from) × TellsResult (is_relayed dst) 2 results (bp.Getfile server ip path)
Tells (ask.Getfile client key) dst from results other = ⊥
Tells (ask.Mnt path) dst from results told = (r : MountResult) × mount.ReadsResult 1 results r × (mnt_answer r ≡ Some told)
Tells (ask.Nfs args) dst from results told = (r : NfsResult) × nfs.ReadsResult (proc_of args) results r × (nfs_answer r ≡ told)

-- how a call went decides it: by its results, or by the number of the refusal
abbrev pub Decides : Ask → Addr → ℕ → Outcome → Verdict → Type 0
Decides asked dst from (Success verf results) (Ok answer) = Tells asked dst from results answer
Decides asked dst from (Success verf results) (Err code) = ⊥
Decides asked dst from (ProgUnavail verf) verdict = verdict ≡ Err 1
Decides asked dst from (ProgMismatch verf low high) verdict = verdict ≡ Err 2
Decides asked dst from (ProcUnavail verf) verdict = verdict ≡ Err 3
Decides asked dst from (GarbageArgs verf) verdict = verdict ≡ Err 4
Decides asked dst from (RpcMismatch low high) verdict = verdict ≡ Err 10
Decides asked dst from (AuthError stat) verdict = verdict ≡ Err (10 + stat)

-- a reply to this destination may come from there
abbrev pub MayReply : Bool → Addr → Addr → Type 0
MayReply true dst src = src.port ≡ pmap_port
MayReply false dst src = src ≡ dst

-- The body, from this source, is the reply to the call with this xid, and tells this.
pub record Replies (xid : ℕ) (dst : Addr) (asked : Ask) (src : Addr) (body : List ℕ) (verdict : Verdict) : Type 0 where
  pub source : MayReply (is_everyone dst) dst src
  pub outcome : Outcome
  pub reads : Reads whole message body (message_value (Answered (record { xid = xid; outcome = outcome })))
  pub decides : Decides asked dst src.ip outcome verdict

-- The packet is a datagram to the caller at this address and port, and the reply to its call.
abbrev pub Matches : Addr → ℕ → Addr → Ask → Packet → Verdict → Type 0
Matches me xid dst asked (Frame bytes) verdict = ⊥
Matches me xid dst asked (Udp src to body) verdict = (to ≡ me) × IsBytes body × Replies xid dst asked src body verdict

-- the packet carries bytes; a definition's list may hold any numbers
abbrev pub CarriesBytes : Packet → Type 0
CarriesBytes (Frame bytes) = IsBytes bytes
CarriesBytes (Udp src to body) = IsBytes body

-- What a packet tells a caller is what the grammars say.
abbrev pub VerdictIsMatch : Type 0
VerdictIsMatch = (me : Addr) (xid : ℕ) (dst : Addr) (asked : Ask) (packet : Packet) (verdict : Verdict) → CarriesBytes packet →
    (verdict_in me xid dst asked packet ≡ Some verdict) ↔ Matches me xid dst asked packet verdict
