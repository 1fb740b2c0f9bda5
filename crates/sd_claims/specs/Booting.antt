-- The steps of a boot, in order: RARP, TFTP from the responder, WHOAMI, GETFILE of the root, and GETPORT of MOUNT.
use Rattle.std.specs.Prelude.{◌≡◌, ℕ, ◌+◌, ◌-◌, ◌^◌, ◌%◌, ◌==◌, if◌then◌else◌, List, [], ◌∷◌, ◌++◌, codes}
use Rattle.sd_outside.specs.declared.packet.Addr.{Addr}
use Rattle.sd_outside.specs.declared.packet.Packet.TheVariants.{Udp}
use Rattle.sd_config.specs.declared.config.Config.{Config}
use Rattle.sd_config.specs.Config.{IsConfig}
use Rattle.sd_config.specs.declared.stage.Stage.{Stage}
use Rattle.sd_config.specs.declared.stage.Stage.TheVariants as stage
use Rattle.sd_config.specs.declared.told.Told.{Told}
use Rattle.sd_config.specs.declared.told.Told.TheVariants.{BootUnbuilt, BootTimeout, BootFlood, BootDenied, BootNoPort, BootLinkFault}
use Rattle.sd_config.specs.Program.{program_name}
use Rattle.sd_link.specs.Steps.{Step, Get}
use Rattle.sd_link.specs.Tries.{beyond, Answered}
use Rattle.sd_rpc_retry.specs.declared.calling.Ask.TheVariants as asks
use Rattle.sd_rpc_retry.specs.declared.calling.Answer.{Answer}
use Rattle.sd_rpc_retry.specs.declared.calling.Answer.TheVariants as answers
use Rattle.sd_rpc_retry.specs.declared.calling.Caller.{Caller}
use Rattle.sd_portmap.specs.Layout.{pmap_port}
use Rattle.sd_rpc_retry.specs.Calling.{Verdict}
use Rattle.sd_rpc_retry.specs.Chain.{Call, CallTold, Lead, on, out, nowhere, Way, RowEnd, came, timed_out, flooded, denied, failed, Row}
use Rattle.sd_claims.specs.Rarp.{Learned, rarp_request, rarp_hearing}
use Rattle.sd_claims.specs.Fetching.{Fetch, Fetched}

-- What a client counts over all its commands: how many of its boots reached TFTP, and the number of its next call.
pub record Counts : Type 0 where
  pub boots : ℕ
  pub next_xid : ℕ

abbrev pub first_counts : Counts
first_counts = record { boots = 0; next_xid = 1 }

-- ---- who replied

-- this is the server's address; a configuration that breaks its rules may have a server whose replies tell another
abbrev pub IsServerIp : Config → ℕ → Type 0
IsServerIp c ip = IsConfig c → ip ≡ c.server.ip

-- the last step gets a datagram from the server's address
pub record EndsFromServer (c : Config) (part : List Step) : Type 0 where
  pub before : List Step
  pub id : ℕ
  pub src : Addr
  pub dst : Addr
  pub body : List ℕ
  pub cut : part ≡ before ++ Get id (Udp src dst body) ∷ []
  pub from : IsServerIp c src.ip

-- ---- the address and the program

-- a reply told this: the first RARP reply whose target is the client's hardware address
abbrev pub LearnsAddress : (List Step → Type 0) → Config → Learned → List Step → Type 0
LearnsAddress settled c learned part = Answered settled (rarp_request c.client.mac) (rarp_hearing c.client.mac) c.tries c.wait learned part

-- the port of the boot that comes after so many that reached TFTP
abbrev pub fetch_port : ℕ → ℕ
fetch_port boots = 2048 + boots % 32768

-- the boot program is fetched from the responder, under the name that is made of the address
abbrev pub boot_fetch : Config → ℕ → Learned → Fetch
boot_fetch c boots learned = record {
  me = record { ip = learned.address; port = fetch_port boots };
  server = learned.responder;
  name = program_name c.arch learned.address;
  tries = c.tries;
  wait = c.wait;
}

-- The address was told by a reply that named the server, and then this came of the fetch. A receiver takes blocks and ERRORs from the
-- address alone that is asked.
pub record OfFetch (settled : List Step → Type 0) (c : Config) (n : Counts) (came : (List Step → Type 0) → Fetch → List Step → Type 0) (part : List Step) : Type 0 where
  pub learned : Learned
  pub address : List Step
  pub last : List Step
  pub told : LearnsAddress settled c learned address
  pub named : IsServerIp c learned.responder
  pub came_of : came (beyond settled address) (boot_fetch c n.boots learned) last
  pub cut : part ≡ address ++ last

-- ---- who calls

-- The client calls from the address by which it fetched, and from port 1021.
abbrev pub caller_after : Fetch → ℕ → Caller
caller_after f xid = record { ip = f.me.ip; port = 1021; machine = []; next_xid = xid; tries = f.tries; wait = f.wait }

-- The call was told this, by a reply that came from the server.
pub record ServerTold (c : Config) (verdict : Verdict) (settled : List Step → Type 0) (caller : Caller) (call : Call) (part : List Step) : Type 0 where
  pub told : CallTold verdict settled caller call part
  pub from_server : EndsFromServer c part

-- ---- the calls of a boot

-- the portmapper of a machine
abbrev pub portmapper : ℕ → Addr
portmapper ip = record { ip = ip; port = pmap_port }

-- WHOAMI: the client asks everyone what the machine with its address is called
abbrev pub whoami_call : ℕ → Call
whoami_call ip = record { dst = portmapper (2 ^ 32 - 1); ask = asks.Whoami ip }

-- GETFILE: who answered is asked where the client of that name finds the file that a key stands for
abbrev pub getfile_call : ℕ → List ℕ → List ℕ → Call
getfile_call from client key = record { dst = portmapper from; ask = asks.Getfile client key }

-- GETPORT: the server of the root is asked for the port of MOUNT, version 1 (RFC 1094, appendix A)
abbrev pub getport_call : ℕ → Call
getport_call server = record { dst = portmapper server; ask = asks.Getport 100005 1 }

-- ---- the table

-- The places of a boot after its program was fetched, each with what is known there: the client's address; who told its name, and
-- the name; the address of the root's server.
pub data Place : Type 0 where
  asks_name : ℕ → Place
  asks_root : ℕ → List ℕ → Place
  asks_mount : ℕ → Place

-- how its calls end: the root's server has no MOUNT, or the port of MOUNT is known
pub data End : Type 0 where
  no_mount : End
  found_mount : End

abbrev pub step_at : Place → Stage
step_at (asks_name address) = stage.Whoami
step_at (asks_root from client) = stage.Getfile
step_at (asks_mount server) = stage.Getport

abbrev pub call_at : Place → Call
call_at (asks_name address) = whoami_call address
call_at (asks_root from client) = getfile_call from client (codes "root")
call_at (asks_mount server) = getport_call server

-- where an answer leads
abbrev pub leads_at : Place → Answer → Lead Place End
leads_at (asks_name address) (answers.Whoami from client domain router) = on (asks_root from client)
leads_at (asks_root from client) (answers.Getfile told_by server ip path) = on (asks_mount ip)
leads_at (asks_mount server) (answers.Port port) = out (if port == 0 then no_mount else found_mount)
leads_at at answer = nowhere

abbrev pub boot_way : Way Place End
boot_way = record { step = step_at; call = call_at; leads = leads_at }

-- What a boot is answered whose calls ended so. What follows GETPORT isn't built.
abbrev pub answer_of : List ℕ → RowEnd End → Told
answer_of program (came no_mount) = BootNoPort
answer_of program (came found_mount) = BootUnbuilt stage.Mnt program
answer_of program (timed_out step) = BootTimeout step
answer_of program (flooded step) = BootFlood step
answer_of program (denied step code) = BootDenied step code
answer_of program (failed step) = BootLinkFault

-- The program was fetched from the server, and then the calls ended so. Each reply came from the server. The client counted so much
-- before, and counts so much after.
pub record OfCalls (settled : List Step → Type 0) (c : Config) (n : Counts) (program : List ℕ) (end : RowEnd End) (next : Counts) (part : List Step) : Type 0 where
  pub learned : Learned
  pub address : List Step
  pub fetch : List Step
  pub calls : List Step
  pub last : Caller
  pub told : LearnsAddress settled c learned address
  pub named : IsServerIp c learned.responder
  pub fetched : Fetched (beyond settled address) (boot_fetch c n.boots learned) program fetch
  pub row : Row boot_way (ServerTold c) (beyond settled (address ++ fetch)) (asks_name learned.address) (caller_after (boot_fetch c n.boots learned) n.next_xid) end last calls
  pub next_is : next ≡ record { boots = n.boots + 1; next_xid = last.next_xid }
  pub cut : part ≡ address ++ (fetch ++ calls)
