-- What strangers send, and that they sent it before anything else at its tick.
use Rattle.std.specs.Prelude.{◌≡◌, ℕ, ◌+◌, ◌==◌, List, [], ◌∷◌, ◌++◌, Option, Some, None, slice_get, if◌then◌else◌}
use Rattle.std.specs.Global.{Vec}
use Rattle.std.specs.Ordering.{nat_cmp}
use Rattle.std.specs.BTreeMap.{BTreeMap, get}
use Rattle.sd_outside.specs.declared.packet.Packet.{Packet}
use Rattle.sd_config.specs.declared.config.Config.{Config}
use Rattle.sd_config.specs.declared.events.Stranger.{Stranger}
use Rattle.sd_config.specs.Plan.{Strays, strays_packet}
use Rattle.sd_link.specs.World.{World, start}
use Rattle.sd_link.specs.Steps.{Step}
use Rattle.sd_link.specs.Lawful.{AllStrayAsNamed, strayed}

-- Strangers sent what they send, each at its tick and before anything else, but for these at the present tick.
pub record Strayed (c : Config) (strays : Strays) (steps : List Step) (here : World) (to_stray : List Packet) : Type 0 where
  pub named : AllStrayAsNamed strays c (start c) steps
  pub left : strayed here ++ to_stray ≡ strays here.tick

-- ---- as the code has it

-- the datagram of a line, where its tick is this
abbrev pub stray_at : ℕ → Stranger → List Packet
stray_at tick line = if line.tick == tick then strays_packet line ∷ [] else []

-- the places of the lines with this tick, where the first line has this place
abbrev pub places_at : ℕ → ℕ → List Stranger → List ℕ
places_at tick place [] = []
places_at tick place (line ∷ lines) = (if line.tick == tick then place ∷ [] else []) ++ places_at tick (place + 1) lines

abbrev pub items_or : Option (Vec ℕ) → List ℕ
items_or None = []
items_or (Some places) = places.items

-- for each tick the map has the places of its lines
abbrev pub ArePlaces : BTreeMap ℕ (Vec ℕ) → List Stranger → Type 0
ArePlaces map lines = (tick : ℕ) → items_or (get nat_cmp map tick) ≡ places_at tick 0 lines

abbrev pub packet_in : Option Stranger → List Packet
packet_in None = []
packet_in (Some line) = strays_packet line ∷ []

-- the datagram of the line at a place
abbrev pub packet_at : List Stranger → ℕ → List Packet
packet_at lines place = packet_in (slice_get lines place)
