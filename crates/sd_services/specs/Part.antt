-- What a server holds beside its configuration, and what it does with a packet.
use Rattle.std.specs.Prelude.{ℕ, List, [], ◌∷◌, replicate, Option, Some, None}
use Rattle.sd_outside.specs.declared.packet.Addr.{Addr}
use Rattle.sd_outside.specs.declared.packet.Packet.{Packet}
use Rattle.sd_config.specs.declared.config.SwapLine.{SwapLine}
use Rattle.sd_config.specs.declared.config.Config.{Config}

-- a TFTP session: its peer, the file, its present block, and the tick of that block's last send with the number of its sends
pub record Session : Type 0 where
  pub number : ℕ
  pub peer : Addr
  pub name : List ℕ
  pub block : ℕ
  pub sent : ℕ
  pub sends : ℕ

-- a write to a file: these bytes from this place
pub record Change : Type 0 where
  pub file : ℕ
  pub at : ℕ
  pub bytes : List ℕ

-- what a server holds beside its configuration
pub record ServerPart : Type 0 where
  pub files : List (List ℕ)
  pub sessions : List Session
  -- how many sessions were made since the last opening
  pub made : ℕ
  -- who mounted what: an address and a path
  pub mounts : List (ℕ × List ℕ)

-- the swap file at the start: all zeros, and no file where there is none
abbrev pub swap_files : Option SwapLine → List (List ℕ)
swap_files None = []
swap_files (Some swap) = replicate swap.size 0 ∷ []

-- A server that was just opened knows its files alone.
abbrev pub opened_with : List (List ℕ) → ServerPart
opened_with files = record { files = files; sessions = []; made = 0; mounts = [] }

-- a server that was opened for the first time
abbrev pub first_part : Config → ServerPart
first_part c = opened_with (swap_files c.swap)

-- what the server does with a packet: the packets that it sends, and its part afterwards
pub record Replied : Type 0 where
  pub out : List Packet
  pub next : ServerPart

-- it does nothing
abbrev pub silence : ServerPart → Replied
silence part = record { out = []; next = part }
