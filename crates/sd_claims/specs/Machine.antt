-- The boot machine: what a diskless client's commands may be answered. It has no packet, no tick and no retry.
use Rattle.std.specs.Prelude.{◌≡◌, ℕ, List, [], ◌∷◌, Some, Bool, false}
use Rattle.sd_config.specs.declared.config.Config.{Config}
use Rattle.sd_config.specs.declared.stage.Stage.TheVariants.{Rarp, Mnt}
use Rattle.sd_config.specs.Program.{program_of}
use Rattle.sd_config.specs.declared.command.Command.{Command}
use Rattle.sd_config.specs.declared.command.Command.TheVariants.{Addr, Boot, Wait}
use Rattle.sd_config.specs.declared.told.Told.{Told}
use Rattle.sd_config.specs.declared.told.Told.TheVariants.{AddrOk, AddrTimeout, AddrFlood, AddrLinkFault, BootUnbuilt, BootTimeout, BootFlood, BootDenied, BootRefused, BootNoPort, BootTooLarge, BootLinkFault, WaitOk, WaitFlood, WaitLinkFault}

-- the flag is up once a boot was ok, and then each page has at most one entry
pub record State : Type 0 where
  pub up : Bool
  pub pages : List (ℕ × List ℕ)

abbrev pub first_state : State
first_state = record { up = false; pages = [] }

-- what `addr` may be answered: the configured address, or a refusal of the network
abbrev pub IsAddrAnswer : Config → Told → Type 0
IsAddrAnswer c (AddrOk ip) = ip ≡ c.client.ip
IsAddrAnswer c AddrTimeout = Unit {0}
IsAddrAnswer c (AddrFlood step) = step ≡ Rarp
IsAddrAnswer c AddrLinkFault = Unit {0}
IsAddrAnswer c answer = ⊥

-- what `boot` may be answered: the configured program, where the step after it isn't built, or a refusal of the network
abbrev pub IsBootAnswer : Config → Told → Type 0
IsBootAnswer c (BootUnbuilt step program) = (step ≡ Mnt) × (program_of c ≡ Some program)
IsBootAnswer c (BootTimeout step) = Unit {0}
IsBootAnswer c (BootFlood step) = Unit {0}
IsBootAnswer c (BootDenied step code) = Unit {0}
IsBootAnswer c (BootRefused step code) = Unit {0}
IsBootAnswer c BootNoPort = Unit {0}
IsBootAnswer c (BootTooLarge size) = Unit {0}
IsBootAnswer c BootLinkFault = Unit {0}
IsBootAnswer c answer = ⊥

-- what `wait` may be answered
abbrev pub IsWaitAnswer : ℕ → Told → Type 0
IsWaitAnswer ticks (WaitOk shown) = shown ≡ ticks
IsWaitAnswer ticks (WaitFlood shown) = shown ≡ ticks
IsWaitAnswer ticks (WaitLinkFault shown) = shown ≡ ticks
IsWaitAnswer ticks answer = ⊥

-- From old, the machine may answer this and go on to new.
abbrev pub Answers : Config → State → Command → Told → State → Type 0
Answers c old Addr answer new = IsAddrAnswer c answer × (new ≡ old)
Answers c old Boot answer new = IsBootAnswer c answer × (new ≡ old)
Answers c old (Wait ticks) answer new = IsWaitAnswer ticks answer × (new ≡ old)

-- the machine may answer so, one command after another
abbrev pub IsRun : Config → State → List Command → List Told → Type 0
IsRun c old [] [] = Unit {0}
IsRun c old (command ∷ commands) (answer ∷ answers) = (mid : State) × Answers c old command answer mid × IsRun c mid commands answers
IsRun c old [] (answer ∷ answers) = ⊥
IsRun c old (command ∷ commands) [] = ⊥
