-- What an answer needs over every link, also over one that tells nothing or that failed.
use Rattle.std.specs.Prelude.{◌≡◌, ℕ, ◌+◌, ◌≤◌}
use Rattle.sd_config.specs.declared.command.Command.{Command}
use Rattle.sd_config.specs.declared.command.Command.TheVariants.{Addr, Boot, Wait}
use Rattle.sd_config.specs.declared.told.Told.{Told}
use Rattle.sd_config.specs.declared.told.Told.TheVariants.{AddrOk, AddrTimeout, AddrFlood, AddrLinkFault, BootUnbuilt, BootTimeout, BootFlood, BootDenied, BootRefused, BootNoPort, BootTooLarge, BootLinkFault, WaitOk, WaitFlood, WaitLinkFault}
use Rattle.sd_config.specs.declared.stage.Stage.TheVariants.{Rarp}
use Rattle.sd_outside.specs.Causes.{Rose}
use Rattle.sd_link.specs.Tries.{flood_limit}
use Rattle.sd_rpc_retry.specs.Sending.{RoseBy}
use Rattle.sd_claims.specs.Causes.{faults_told}

-- how many packets the link hands out, and how many ticks pass, at least
pub record Need : Type 0 where
  pub packets : ℕ
  pub ticks : ℕ

abbrev pub nothing : Need
nothing = record { packets = 0; ticks = 0 }

abbrev pub a_packet : Need
a_packet = record { packets = 1; ticks = 0 }

abbrev pub a_flood : Need
a_flood = record { packets = flood_limit; ticks = 0 }

abbrev pub so_long : ℕ → Need
so_long ticks = record { packets = 0; ticks = ticks }

-- From the first to the second, the packets that a link had handed out rose so much, and its tick.
pub record IsMet (handed_before handed_now clock_before clock_now : ℕ) (need : Need) : Type 0 where
  pub handed : RoseBy need.packets handed_before handed_now
  pub waited : clock_before + need.ticks ≤ clock_now

-- ---- the table: each answer that a command may have, with what it needs

-- Below, `met` says of a need that it is met, and all tries of a request last `long` ticks together.

abbrev pub AddrNeeds : ℕ → (Need → Type 0) → Told → Type 0
AddrNeeds long met (AddrOk ip) = met a_packet
AddrNeeds long met AddrTimeout = met (so_long long)
AddrNeeds long met (AddrFlood step) = (step ≡ Rarp) × met a_flood
AddrNeeds long met AddrLinkFault = met nothing
AddrNeeds long met answer = ⊥

abbrev pub BootNeeds : ℕ → (Need → Type 0) → Told → Type 0
BootNeeds long met (BootUnbuilt step program) = met a_packet
BootNeeds long met (BootTimeout step) = met (so_long long)
BootNeeds long met (BootFlood step) = met a_flood
BootNeeds long met (BootDenied step code) = met a_packet
BootNeeds long met (BootRefused step code) = met a_packet
BootNeeds long met BootNoPort = met a_packet
BootNeeds long met (BootTooLarge size) = met a_packet
BootNeeds long met BootLinkFault = met nothing
BootNeeds long met answer = ⊥

-- a pause tells how long it was to be
abbrev pub WaitNeeds : ℕ → (Need → Type 0) → Told → Type 0
WaitNeeds ticks met (WaitOk shown) = (shown ≡ ticks) × met (so_long ticks)
WaitNeeds ticks met (WaitFlood shown) = (shown ≡ ticks) × met a_flood
WaitNeeds ticks met (WaitLinkFault shown) = (shown ≡ ticks) × met nothing
WaitNeeds ticks met answer = ⊥

abbrev pub Needs : ℕ → (Need → Type 0) → Command → Told → Type 0
Needs long met Addr answer = AddrNeeds long met answer
Needs long met Boot answer = BootNeeds long met answer
Needs long met (Wait ticks) answer = WaitNeeds ticks met answer

-- ---- faults

-- the answer of a command that a failure of the network ended comes only where the link's count of faults rose from the first to the second
abbrev pub FaultIsCounted : ℕ → ℕ → Told → Type 0
FaultIsCounted before now answer = faults_told answer ≡ 1 → Rose before now
