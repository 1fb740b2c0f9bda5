-- What a server stands for: its part of the world, and a change of which the disk doesn't know whether it was done.
use Rattle.std.specs.Prelude.{ℕ, List, [], Bool, Option, None}
use Rattle.std.specs.List.{flat_map}
use Rattle.sd_outside.specs.declared.packet.Packet.{Packet}
use Rattle.sd_config.specs.declared.config.Config.{Config}
use Rattle.sd_services.specs.Part.{Change, Session, ServerPart, opened_with}
use Rattle.sd_services.specs.Reply.{next_of}
use Rattle.sd_services.specs.Failing.{doubt_then, files_settled, files_crashed}
use Rattle.sd_server.specs.Ticks.{after_tick}

-- what a crash takes away: the sessions, how many were made, and who mounted what
pub record Volatile : Type 0 where
  pub sessions : List Session
  pub made : ℕ
  pub mounts : List (ℕ × List ℕ)

-- a server's part with these files
abbrev pub part_with : Volatile → List (List ℕ) → ServerPart
part_with v files = record { files = files; sessions = v.sessions; made = v.made; mounts = v.mounts }

abbrev pub volatile_of : ServerPart → Volatile
volatile_of part = record { sessions = part.sessions; made = part.made; mounts = part.mounts }

-- a server that was just opened knows its files alone
abbrev pub nothing_volatile : Volatile
nothing_volatile = record { sessions = []; made = 0; mounts = [] }

pub record State : Type 0 where
  pub part : ServerPart
  -- a change of which the disk doesn't know whether it was done
  pub doubt : Option Change

-- a server that was just opened over these files
abbrev pub opened : List (List ℕ) → State
opened files = record { part = opened_with files; doubt = None }

-- ---- what the steps do to it

-- Serve: the packet is served
abbrev pub served : Config → ℕ → Packet → State → State
served c tick packet s = record s { part = next_of c tick s.part packet }

-- Fault: the disk fails in the packet, whose change becomes doubtful, or nothing was done
abbrev pub faulted : Config → Bool → Packet → State → State
faulted c doubts packet s = record s { doubt = doubt_then c doubts s.doubt packet }

-- Settle: the doubtful change is done whole or not at all, and there is no doubt
abbrev pub settled : Bool → State → State
settled done s = record { part = record s.part { files = files_settled done s.doubt s.part.files }; doubt = None }

-- Crash: the server stops while it is given the packet, whose change was done or wasn't, and is opened again
abbrev pub crashed : Config → Bool → Packet → State → State
crashed c done packet s = opened (files_crashed c done s.part.files packet)

-- the Data and End steps of a tick
abbrev pub ticked : Config → ℕ → State → State
ticked c tick s = record s { part = record s.part { sessions = flat_map (after_tick c tick) s.part.sessions } }
