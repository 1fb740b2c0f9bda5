-- What the event lines of a script say of the network.
use Rattle.std.specs.Prelude.{◌≢◌, ℕ, ◌<◌, ◌≤◌, ◌-◌, ◌^◌, ◌==◌, List, [], ◌∷◌, length, if◌then◌else◌}
use Rattle.std.specs.List.{All}
use Rattle.sd_outside.specs.declared.packet.Addr.{Addr}
use Rattle.sd_portmap.specs.Layout.{pmap_port}
use Rattle.sd_config.specs.declared.config.Config.{Config}
use Rattle.sd_config.specs.declared.events.Fate.{Fate}
use Rattle.sd_config.specs.declared.events.Stranger.{Stranger}
use Rattle.sd_config.specs.declared.events.PlannedFault.{PlannedFault}
use Rattle.sd_config.specs.declared.events.PlannedFault.TheVariants as planned
use Rattle.sd_config.specs.declared.events.Events.{Events}
use Rattle.sd_config.specs.Config.{IsWithin}

-- the delays of each packet, by its id
abbrev pub Fates : Type 0
Fates = ℕ → List ℕ

-- without a fate line a packet has one delay of 1
abbrev pub plain_fates : Fates
plain_fates id = 1 ∷ []

-- the first of these fates that has this id
abbrev pub fate_in : List Fate → Fates
fate_in [] id = plain_fates id
fate_in (fate ∷ fates) id = if fate.id == id then fate.delays else fate_in fates id

-- what the events say of each packet
abbrev pub fates_of : Events → Fates
fates_of events = fate_in events.fates

-- a packet comes after it was sent, and not after its life
pub record IsFate (life : ℕ) (fate : Fate) : Type 0 where
  pub id : fate.id < 2 ^ 32
  pub few : length fate.delays ≤ 8
  pub delays : All (IsWithin 1 (life - 1)) fate.delays

-- no datagram of this network has more bytes
abbrev pub body_limit : ℕ
body_limit = 9216

-- Strangers have addresses of their own, which are neither end's, and send nothing from the port of the portmapper.
pub record IsElsewhere (client server : ℕ) (src : Addr) : Type 0 where
  pub not_client : src.ip ≢ client
  pub not_server : src.ip ≢ server
  pub not_portmapper : src.port ≢ pmap_port

pub record IsStranger (client server : ℕ) (line : Stranger) : Type 0 where
  pub tick : IsWithin 1 0xffff_ffff line.tick
  pub from : IsElsewhere client server line.src
  pub body : length line.body ≤ body_limit

abbrev pub IsPlanned : PlannedFault → Type 0
IsPlanned (planned.Send id) = id < 2 ^ 32
IsPlanned (planned.Recv call) = call < 2 ^ 32

pub record IsEvents (c : Config) (events : Events) : Type 0 where
  pub fates : All (IsFate c.life) events.fates
  pub strangers : All (IsStranger c.client.ip c.server.ip) events.strangers
  pub faults : All IsPlanned events.faults
