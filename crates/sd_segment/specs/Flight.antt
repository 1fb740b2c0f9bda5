-- The packets that a segment keeps, each with its fate.
use Rattle.std.specs.Prelude.{◌≡◌, ℕ, ◌+◌, ◌==◌, Bool, List, [], ◌∷◌, ◌++◌, length, map, filter, Option, Some, None, slice_get, if◌then◌else◌}
use Rattle.std.specs.BTreeMap.{BTreeMap, get}
use Rattle.std.specs.Ordering.{nat_cmp}
use Rattle.sd_outside.specs.declared.packet.Packet.{Packet}
use Rattle.sd_outside.specs.declared.packet.Packet.TheVariants.{Frame}
use Rattle.sd_config.specs.declared.config.Config.{Config}
use Rattle.sd_config.specs.declared.events.Fate.{Fate}
use Rattle.sd_config.specs.Events.{fate_in}
use Rattle.sd_link.specs.World.{Flying, Sender, Client, Server, Stranger, flying}
use Rattle.sd_link.specs.Steps.{goes_to_server, goes_to_client}
use Rattle.sd_segment.specs.declared.flown.Origin.{Origin}
use Rattle.sd_segment.specs.declared.flown.Origin.TheVariants as origin
use Rattle.sd_segment.specs.declared.flown.Flown.{Flown}
use Rattle.sd_segment.specs.declared.ends.End.{End}
use Rattle.sd_segment.specs.declared.ends.End.TheVariants as ends

abbrev pub sender_of : Origin → Sender
sender_of origin.Client = Client
sender_of origin.Server = Server
sender_of origin.Stranger = Stranger

abbrev pub flying_of : Flown → Flying
flying_of flown = record { from = sender_of flown.from; tick = flown.tick; packet = flown.packet }

abbrev pub packet_or : Option Flown → Packet
packet_or None = Frame []
packet_or (Some flown) = flown.packet

-- a packet of the server, sent at this tick
abbrev pub reply_of : ℕ → Option ℕ → Packet → Flown
reply_of tick fate packet = record { from = origin.Server; tick = tick; packet = packet; fate = fate }

abbrev pub replied : ℕ → Option ℕ → List Packet → List Flown
replied tick fate packets = map (reply_of tick fate) packets

-- which packets go to this end
abbrev pub goes_to : End → Config → Sender → Packet → Bool
goes_to ends.Server = goes_to_server
goes_to ends.Client = goes_to_client

abbrev pub delays_or : Option Fate → List ℕ
delays_or None = []
delays_or (Some fate) = fate.delays

-- the delays of a fate by its place, and without one the delay of every other packet
abbrev pub delays_of : List Fate → Option ℕ → List ℕ
delays_of fates None = 1 ∷ []
delays_of fates (Some place) = delays_or (slice_get fates place)

-- for each id the map has the place of its fate
abbrev pub AreFates : BTreeMap ℕ ℕ → List Fate → Type 0
AreFates places fates = (id : ℕ) → delays_of fates (get nat_cmp places id) ≡ fate_in fates id

-- each packet is kept with the fate of its id, which counts from this one
abbrev pub AllFated : List Fate → ℕ → List Flown → Type 0
AllFated fates id [] = Unit {0}
AllFated fates id (flown ∷ more) = (delays_of fates flown.fate ≡ fate_in fates id) × AllFated fates (id + 1) more

-- packets went into flight at this tick, each with the fate of its id
pub record Flies (fates : List Fate) (from : Origin) (tick : ℕ) (old : List Flown) (packets : List Packet) (new : List Flown) : Type 0 where
  pub more : List Flown
  pub added : new ≡ old ++ more
  pub sent : map flying_of more ≡ map (flying (sender_of from) tick) packets
  pub fated : AllFated fates (length old) more

-- an id, once for each delay after which its packet comes at this tick
abbrev pub copies : ℕ → ℕ → ℕ → List ℕ → List ℕ
copies id sent tick delays = map (λ d. id) (filter (λ d. sent + d == tick) delays)

-- the same for a packet where it goes to an end
abbrev pub copies_to : (Sender → Packet → Bool) → ℕ → List ℕ → ℕ × Flying → List ℕ
copies_to goes tick delays e = if goes e.1.from e.1.packet then copies e.0 e.1.tick tick delays else []
