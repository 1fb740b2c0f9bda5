-- What events say of a run.
use Rattle.std.specs.Prelude.{ℕ, ◌==◌, List, [], length, map, filter, Bool, true, false}
use Rattle.std.specs.List.{list_any}
use Rattle.sd_outside.specs.declared.packet.Packet.{Packet}
use Rattle.sd_outside.specs.declared.packet.Packet.TheVariants.{Udp}
use Rattle.sd_config.specs.declared.events.Stranger.{Stranger}
use Rattle.sd_config.specs.declared.events.PlannedFault.{PlannedFault}
use Rattle.sd_config.specs.declared.events.PlannedFault.TheVariants as planned
use Rattle.sd_config.specs.declared.events.Events.{Events}
use Rattle.sd_config.specs.Events.{Fates, fates_of}

-- Which deliveries to the server a crash stops: by the packet's id, and the place, from 1, of the delivery's delay in its fate.
abbrev pub Crashes : Type 0
Crashes = ℕ → ℕ → Bool

-- what strangers send at a tick, in order
abbrev pub Strays : Type 0
Strays = ℕ → List Packet

-- whether the client's send of the packet with this id fails
abbrev pub FailingSends : Type 0
FailingSends = ℕ → Bool

-- The fates, which deliveries stop, what strangers send, which sends fail, and how many receives and how many accesses of the server's
-- disk may fail at most.
pub record Plan : Type 0 where
  pub fates : Fates
  pub crashes : Crashes
  pub strays : Strays
  pub sends : FailingSends
  pub receives : ℕ
  pub accesses : ℕ

abbrev pub strays_packet : Stranger → Packet
strays_packet line = Udp line.src line.dst line.body

-- in the order of the lines
abbrev pub strays_of : Events → Strays
strays_of events tick = map strays_packet (filter (λ line. line.tick == tick) events.strangers)

abbrev pub fails_send : ℕ → PlannedFault → Bool
fails_send id (planned.Send named) = named == id
fails_send id (planned.Recv call) = false

abbrev pub is_receive : PlannedFault → Bool
is_receive (planned.Send id) = false
is_receive (planned.Recv call) = true

-- Nothing crashes, and no access of the disk fails.
abbrev pub plan_of : Events → Plan
plan_of events = record {
  fates = fates_of events;
  crashes = λ id copy. false;
  strays = strays_of events;
  sends = λ id. list_any (fails_send id) events.faults;
  receives = length (filter is_receive events.faults);
  accesses = 0;
}
