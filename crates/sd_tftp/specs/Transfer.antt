-- What a sender is: to whom it sends, and how far it has come.
use Rattle.std.specs.Prelude.{ℕ, ◌+◌, ◌≤◌, Bool, true, false}
use Rattle.sd_outside.specs.declared.packet.Addr.{Addr}

pub record Transfer : Type 0 where
  pub peer : Addr
  -- the present block, the tick of its last send, and how often it was sent
  pub block : ℕ
  pub sent_at : ℕ
  pub sends : ℕ
  pub ended : Bool

-- A block is due `wait` ticks after its last send.
abbrev pub IsDue : ℕ → ℕ → ℕ → Type 0
IsDue sent_at wait now = sent_at + wait ≤ now

-- block 1 was sent
abbrev pub begun : Addr → ℕ → Transfer
begun to now = record { peer = to; block = 1; sent_at = now; sends = 1; ended = false }

-- the next block was sent
abbrev pub moved : Transfer → ℕ → Transfer
moved old now = record { peer = old.peer; block = old.block + 1; sent_at = now; sends = 1; ended = old.ended }

-- the present block was sent again
abbrev pub resent : Transfer → ℕ → Transfer
resent old now = record { peer = old.peer; block = old.block; sent_at = now; sends = old.sends + 1; ended = old.ended }

-- the transfer ended
abbrev pub over : Transfer → Transfer
over old = record { peer = old.peer; block = old.block; sent_at = old.sent_at; sends = old.sends; ended = true }
