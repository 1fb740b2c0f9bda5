-- How a segment goes on.
use Rattle.std.specs.Prelude.{◌≡◌, ◌⊎◌, ℕ, List, [], ◌∷◌, ◌++◌, Option, Some, None}
use Rattle.sd_outside.specs.declared.packet.Packet.{Packet}
use Rattle.sd_link.specs.Steps.{Step, Tick, Send, Stray, Serve, Data, End, Get, Fail, world_of}
use Rattle.sd_link.specs.Parts.{sends_in, got_in, fails_in}
use Rattle.sd_link.specs.Link.{TicksBefore, IsReached}
use Rattle.sd_segment.specs.Segment.{SegmentView, history_of, text_drained}

-- the segment went on by these steps, and drained nothing
pub record Passes (old new : SegmentView) (part : List Step) : Type 0 where
  pub config : new.config ≡ old.config
  pub events : new.events ≡ old.events
  pub steps : (history_of new).steps ≡ (history_of old).steps ++ part
  pub drained : text_drained new ≡ text_drained old
  pub faults : new.faults ≡ old.faults
  pub broken : new.broken ≡ old.broken
  -- each of its steps was one that may happen
  pub bounded : IsReached (history_of new)
  -- and it stood where its world did
  pub stood : (world_of (history_of old)).tick ≡ old.tick

-- strangers send, packets come to the server, its sessions have their turns, and nothing else happens
abbrev pub AllServes : List Step → Type 0
AllServes [] = Unit {0}
AllServes (Stray packet ∷ steps) = AllServes steps
AllServes (Serve id ∷ steps) = AllServes steps
AllServes (Data number ∷ steps) = AllServes steps
AllServes (End number ∷ steps) = AllServes steps
AllServes (others ∷ steps) = ⊥

-- one tick passed, and the server did what was due to it
abbrev pub Advances : SegmentView → SegmentView → Type 0
Advances old new = (served : List Step) × Passes old new (Tick ∷ served) × AllServes served

-- sessions have their turns, and nothing else happens
abbrev pub AllTurns : List Step → Type 0
AllTurns [] = Unit {0}
AllTurns (Data number ∷ steps) = AllTurns steps
AllTurns (End number ∷ steps) = AllTurns steps
AllTurns (others ∷ steps) = ⊥

-- the sessions had their turns
abbrev pub TakesTurns : SegmentView → SegmentView → Type 0
TakesTurns old new = (turns : List Step) × Passes old new turns × AllTurns turns

-- a packet was sent, and the send failed
abbrev pub FailsToSend : SegmentView → SegmentView → Packet → Type 0
FailsToSend old new packet = Passes old (record new { faults = old.faults }) (Send packet ∷ Fail ∷ [])

-- a receive failed
abbrev pub Fails : SegmentView → SegmentView → Type 0
Fails old new = Passes old (record new { faults = old.faults }) (Fail ∷ [])

-- a packet was handed out, or none waits
abbrev pub HandsOut : SegmentView → SegmentView → Option Packet → Type 0
HandsOut old new None = (new ≡ old) × (new.to_client ≡ [])
HandsOut old new (Some packet) = (id : ℕ) × Passes old new (Get id packet ∷ [])

-- the segment went on by these steps, or nothing happened
abbrev pub WentOn : SegmentView → SegmentView → List Step → Type 0
WentOn old new part = ((part ≡ []) × (new ≡ old)) ⊎ Passes old new part

-- what a wait does until a packet is handed out: the client sends nothing and gets nothing, nothing fails, and no tick passes from
-- `until` on
pub record Waits (until : ℕ) (old new : SegmentView) (part : List Step) : Type 0 where
  pub went : WentOn old new part
  pub silent : sends_in part ≡ []
  pub got : got_in part ≡ []
  pub fails : fails_in part ≡ 0
  pub ticks : TicksBefore until old.config (world_of (history_of old)) part
