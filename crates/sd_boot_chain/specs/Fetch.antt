-- What came of a fetch, in the code's words and in the standard's.
use Rattle.std.specs.Prelude.{◌≡◌, ◌≤◌, List, [], ◌∷◌, Some, None}
use Rattle.sd_tftp.specs.declared.step.Step.TheVariants as step
use Rattle.sd_tftp.specs.Grammar.{HasNoZero}
use Rattle.sd_tftp.specs.Reception.{Reception}
use Rattle.sd_tftp.specs.ReceiverTurn.{Turn}
use Rattle.sd_outside.specs.declared.packet.Addr.{Addr}
use Rattle.sd_outside.specs.declared.packet.Packet.{Packet}
use Rattle.std.specs.List.{concat}
use Rattle.sd_config.specs.Config.{IsConfig}
use Rattle.sd_config.specs.Program.{boot_file}
use Rattle.sd_link.specs.Requests.{AsksOnlyFor, KeepsOffRpc}
use Rattle.sd_link.specs.Steps.{Step, Send, History, world_of}
use Rattle.sd_link.specs.Link.{IsSettledBy}
use Rattle.sd_link.specs.Tries.{FailsToSend}
use Rattle.sd_claims.specs.Fetching.{Fetch, Fetched, FetchTimedOut, FetchFlooded, FetchFailed, FetchRefused, FetchTooLarge, progress, courtesy}
use Rattle.sd_rpc_retry.specs.declared.asking.Look.{Look}
use Rattle.sd_rpc_retry.specs.declared.asking.Look.TheVariants as look
use Rattle.sd_boot_chain.specs.declared.fetch.Task as code
use Rattle.sd_boot_chain.specs.declared.fetch.Progress.{Progress}
use Rattle.sd_boot_chain.specs.declared.fetch.Progress.TheVariants as moves
use Rattle.sd_boot_chain.specs.declared.fetch.Fetched as outcomes
use Rattle.sd_boot_chain.specs.declared.fetch.Fetched.TheVariants as came

abbrev pub fetch_of : code.Task → Fetch
fetch_of f = record { me = f.me; server = f.server; name = f.name; tries = f.tries; wait = f.wait }

-- the ranges of a fetch
pub record IsFetch (f : code.Task) : Type 0 where
  pub name : HasNoZero f.name
  pub tries : f.tries ≤ 64
  pub wait : f.wait ≤ 1000

-- what moved it on, and the receiver then
abbrev pub shows_progress : Reception → Progress → Turn
shows_progress r (moves.Block to number last) = record { says = step.Took to number last; becomes = r }
shows_progress r (moves.Refused code) = record { says = step.Refused code; becomes = r }
shows_progress r (moves.Over got) = record { says = step.Over got; becomes = r }

-- what was made of a packet, where the receiver's turn on it was this
abbrev pub LooksAt : Addr → Reception → Turn → Look Progress → Type 0
LooksAt me new t (look.Match found) = (progress t.says t ≡ Some (shows_progress new found)) × (courtesy me t.says ≡ [])
LooksAt me new t (look.Reply sent) = (progress t.says t ≡ None) × (courtesy me t.says ≡ sent ∷ [])
LooksAt me new t look.Other = (progress t.says t ≡ None) × (courtesy me t.says ≡ [])

-- what came of it
abbrev pub CameOf : Fetch → outcomes.Fetched → History → List Step → Type 0
CameOf f (came.File bytes) old part = Fetched (IsSettledBy old) f bytes part
CameOf f came.Timeout old part = FetchTimedOut (IsSettledBy old) f part
CameOf f came.Flood old part = FetchFlooded (IsSettledBy old) f part
CameOf f (came.Refused code) old part = FetchRefused code (IsSettledBy old) f part
CameOf f (came.TooLarge got) old part = FetchTooLarge got (IsSettledBy old) f part
CameOf f came.Fault old part = FetchFailed (IsSettledBy old) f part

-- The world is one of the configuration, the server is asked, no other file was ever asked for from this address and port, and
-- nothing of a message's size was ever sent from there to the RPC programs.
pub record MayTrust (f : Fetch) (old : History) : Type 0 where
  pub rules : IsConfig old.config
  pub server : f.server ≡ old.config.server.ip
  pub asks : AsksOnlyFor f.me f.name (world_of old)
  pub keeps_off : KeepsOffRpc f.me (world_of old)

-- a file that came is the configured one of that name
abbrev pub GivesFile : Fetch → outcomes.Fetched → History → List Step → Type 0
GivesFile f (came.File bytes) old part = MayTrust f old → boot_file old.config f.name ≡ Some bytes
GivesFile f what old part = Unit {0}

-- it came, or the link failed at the last ACK
abbrev pub IsFinished : outcomes.Fetched → Type 0
IsFinished (came.File bytes) = Unit {0}
IsFinished came.Fault = Unit {0}
IsFinished what = ⊥

-- the last block is acknowledged, or the ACK couldn't be sent
abbrev pub Finishes : Packet → Reception → outcomes.Fetched → History → List Step → Type 0
Finishes request taken (came.File bytes) old part = (part ≡ Send request ∷ []) × (bytes ≡ concat taken.blocks)
Finishes request taken came.Fault old part = FailsToSend request part
Finishes request taken what old part = ⊥
