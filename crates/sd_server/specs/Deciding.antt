-- What the server decides on a packet.
use Rattle.std.specs.Prelude.{◌≡◌, ℕ, ◌+◌, ◌≤◌, true, false, List, [], ◌∷◌, ◌++◌, length, map, take, drop, None, vec_capacity}
use Rattle.std.specs.List.{AllByRecursion}
use Rattle.sd_outside.specs.Ranges.{part}
use Rattle.sd_outside.specs.declared.packet.Packet.{Packet}
use Rattle.sd_xdr.specs.Grammar.{writes}
use Rattle.sd_rpc_msg.specs.declared.message.Message.TheVariants.{Answered}
use Rattle.sd_rpc_msg.specs.Layout.{message, message_value}
use Rattle.sd_nfs_msg.specs.declared.message.NfsResult.{NfsResult}
use Rattle.sd_config.specs.declared.config.Config.{Config}
use Rattle.sd_services.specs.NfsCalls.{change_of, is_swap_access}
use Rattle.sd_services.specs.NfsReply.{file_in, swap_file}
use Rattle.sd_services.specs.Reply.{reply, out_of, next_of, files_after}
use Rattle.sd_server.specs.declared.access.Act.{Act}
use Rattle.sd_server.specs.declared.access.Act.TheVariants as acts
use Rattle.sd_server.specs.declared.access.Access.{Access}
use Rattle.sd_server.specs.declared.access.Decision.{Decision}
use Rattle.sd_server.specs.declared.access.Decision.TheVariants as decisions
use Rattle.sd_server.specs.declared.replies.Answer.{Answer}
use Rattle.sd_server.specs.declared.sessions.Sending.{Sending}
use Rattle.sd_server.specs.Access.{sizes_of, given_reply, datagram, change_by, ActFits}
use Rattle.sd_server.specs.Mounting.{MountHasRoom}
use Rattle.sd_server.specs.Sessions.{session_of, AreSessions, Answers, after_change}
use Rattle.sd_server.specs.State.{Volatile, part_with, volatile_of}
use Rattle.sd_services.specs.Failing.{failure_out}

-- ---- what is held in memory

pub record DeskView : Type 0 where
  pub config : Config
  pub volatile : Volatile

abbrev pub volatile_with : Config → List Sending → ℕ → List (ℕ × List ℕ) → Volatile
volatile_with c sessions made mounts = record { sessions = map (session_of c) sessions; made = made; mounts = mounts }

pub record IsDesk (c : Config) (sessions : List Sending) (made : ℕ) (mounts : List (ℕ × List ℕ)) : Type 0 where
  pub sessions_are : AreSessions c sessions made
  pub room : AllByRecursion MountHasRoom mounts

-- ---- the body of a reply

-- a call was done with this result
abbrev pub given_body : ℕ → NfsResult → List ℕ
given_body xid result = writes message (message_value (Answered (given_reply xid result)))

-- a READ's bytes stand from here on
abbrev pub data_place : ℕ
data_place = 100

-- the body with the bytes that were read
abbrev pub body_by : Act → List ℕ → List ℕ → List ℕ
body_by acts.Nothing done content = done
body_by (acts.Read at buffer) done content = take data_place done ++ (part at (length buffer.items) content ++ drop (data_place + length buffer.items) done)
body_by (acts.Write at bytes) done content = done

abbrev pub HasPlace : Act → List ℕ → Type 0
HasPlace acts.Nothing done = Unit {0}
HasPlace (acts.Read at buffer) done = data_place + length buffer.items ≤ length done
HasPlace (acts.Write at bytes) done = Unit {0}

-- ---- decisions

-- no file is looked at or changed
pub record IsNow (c : Config) (v : Volatile) (tick : ℕ) (packet : Packet) (a : Answer) : Type 0 where
  pub swap : is_swap_access c packet ≡ false
  pub change : change_of c packet ≡ None
  pub answers : (stored : List (List ℕ)) → map (λ file. length file) stored ≡ sizes_of c → Answers c (part_with v stored) a (reply c tick (part_with v stored) packet)

-- the swap file is read or written
pub record IsLater (c : Config) (v : Volatile) (tick : ℕ) (packet : Packet) (a : Access) : Type 0 where
  pub swap : is_swap_access c packet ≡ true
  pub change : change_of c packet ≡ change_by a.act
  pub gives : (stored : List (List ℕ)) → map (λ file. length file) stored ≡ sizes_of c → out_of c tick (part_with v stored) packet ≡ datagram c a.to (body_by a.act a.done (file_in stored swap_file)) ∷ []
  pub fails : failure_out c packet ≡ datagram c a.to a.failed ∷ []
  pub next : (stored : List (List ℕ)) → next_of c tick (part_with v stored) packet ≡ part_with v (files_after c stored packet)
  pub range : ActFits (sizes_of c) a.act
  pub place : HasPlace a.act a.done
  pub empty : a.room.items ≡ []
  pub room : 1 ≤ vec_capacity a.room

abbrev pub Decides : Config → Volatile → ℕ → Packet → Decision → Type 0
Decides c v tick packet (decisions.Now answer) = IsNow c v tick packet answer
Decides c v tick packet (decisions.Later access) = IsLater c v tick packet access

-- what an answer changes is in memory
abbrev pub volatile_after : Config → Volatile → Rattle.sd_server.specs.declared.replies.Change.Change → Volatile
volatile_after c v change = volatile_of (after_change c (part_with v []) change)

-- the body with what is in the buffer
abbrev pub body_with : Act → List ℕ → List ℕ
body_with acts.Nothing done = done
body_with (acts.Read at buffer) done = take data_place done ++ (buffer.items ++ drop (data_place + length buffer.items) done)
body_with (acts.Write at bytes) done = done
