-- What a segment stands for: the history that it keeps, and what is still to come at its tick.
use Rattle.std.specs.List.{AllByRecursion}
use Rattle.std.specs.Prelude.{◌≡◌, ℕ, ◌≤◌, Bool, List, [], ◌++◌, map, length, take, None}
use Rattle.sd_config.specs.declared.config.Config.{Config}
use Rattle.sd_config.specs.declared.events.Events.{Events}
use Rattle.sd_config.specs.Events.{Fates, fates_of, IsEvents}
use Rattle.sd_config.specs.Plan.{strays_of}
use Rattle.sd_segment.specs.Strays.{Strayed}
use Rattle.sd_segment.specs.Failing.{Failing}
use Rattle.sd_config.specs.Config.{IsConfig}
use Rattle.sd_link.specs.World.{World, start}
use Rattle.sd_services.specs.Part.{ServerPart}
use Rattle.sd_link.specs.Steps.{History, run, record_of, AllAllowed}
use Rattle.sd_link.specs.Lawful.{AllInTurn, served_at, got_at, due_to_server, due_to_client, due_sessions}
use Rattle.sd_link.specs.Link.{last_tick}
use Rattle.sd_link.specs.Printing.{record_text}
use Rattle.sd_segment.specs.declared.flown.Flown.{Flown}
use Rattle.sd_segment.specs.declared.flown.Kept.{Kept}
use Rattle.sd_segment.specs.Flight.{flying_of, AllFated}
use Rattle.sd_segment.specs.Kept.{steps_kept, last_kept, entries_kept, ids_end}

-- a segment as its callers see it
pub record SegmentView : Type 0 where
  pub config : Config
  pub events : Events
  pub server : ServerPart
  -- all packets that were sent, by their ids
  pub flight : List Flown
  -- all that happened
  pub kept : List Kept
  pub tick : ℕ
  -- the ids of what is still to come at this tick
  pub to_server : List ℕ
  pub to_client : List ℕ
  -- no call goes on
  pub broken : Bool
  -- how much of what happened was drained
  pub drained : ℕ
  pub faults : ℕ
  pub handed : ℕ
  -- how many receives were called
  pub calls : ℕ

-- the history that a segment tells
abbrev pub history_of : SegmentView → History
history_of s = record { config = s.config; events = s.events; steps = steps_kept s.flight s.kept s.tick }

-- the text that was drained
abbrev pub text_drained : SegmentView → List ℕ
text_drained s = record_text (entries_kept s.flight (take s.drained s.kept))

-- the world that a segment is in
abbrev pub world_at : ServerPart → List Flown → ℕ → World
world_at part flight tick = record { tick = tick; server = part; doubt = None; flight = map flying_of flight }

-- the server is done with the segment's tick
pub record Rests (s : SegmentView) : Type 0 where
  pub served : s.to_server ≡ []
  pub sessions : due_sessions s.config (world_at s.server s.flight s.tick) ≡ []

-- what a segment keeps is a history of its world, and its record
pub record Keeps (c : Config) (part : ServerPart) (flight : List Flown) (kept : List Kept) (tick : ℕ) : Type 0 where
  pub world : run c (start c) (steps_kept flight kept tick) ≡ world_at part flight tick
  pub allowed : AllAllowed c (start c) (steps_kept flight kept tick)
  pub entries : record_of c (start c) (steps_kept flight kept tick) ≡ entries_kept flight kept
  pub ids : AllByRecursion (λ k. ids_end k.what ≤ length flight) kept
  pub ticks : last_kept 0 kept ≤ tick

-- each step came in its turn, and what is due at this tick has come or is still to come
pub record Turns (c : Config) (fates : Fates) (part : ServerPart) (flight : List Flown) (kept : List Kept) (tick : ℕ) (to_server to_client : List ℕ) : Type 0 where
  pub in_turn : AllInTurn c fates (start c) [] (steps_kept flight kept tick)
  pub server : served_at tick (entries_kept flight kept) ++ to_server ≡ due_to_server c fates (world_at part flight tick)
  pub client : got_at tick (entries_kept flight kept) ++ to_client ≡ due_to_client c fates (world_at part flight tick)
  pub past : AllByRecursion (λ k. k.tick ≤ tick) kept

-- what holds of every segment
pub record IsSound (s : SegmentView) : Type 0 where
  pub keeps : Keeps s.config s.server s.flight s.kept s.tick
  pub turns : Turns s.config (fates_of s.events) s.server s.flight s.kept s.tick s.to_server s.to_client
  pub fated : AllFated s.events.fates 0 s.flight
  pub events : IsEvents s.config s.events
  pub config : IsConfig s.config
  pub tick : s.tick ≤ last_tick
  pub ids : length s.flight ≤ last_tick
  pub drained : s.drained ≤ length s.kept
  pub failing : Failing s.config s.events (steps_kept s.flight s.kept s.tick) s.calls s.faults
  pub strays : Strayed s.config (strays_of s.events) (steps_kept s.flight s.kept s.tick) (world_at s.server s.flight s.tick) []
