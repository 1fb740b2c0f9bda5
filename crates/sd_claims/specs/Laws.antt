-- What holds of the claims. The functions of src/laws.rt have these as their contracts.
use Rattle.std.specs.Prelude.{◌≡◌, ◌≢◌, ℕ, ◌+◌, ◌<◌, ◌⊎◌, List, [], ◌∷◌, ◌++◌, Some}
use Rattle.sd_outside.specs.declared.packet.Mac.{Mac}
use Rattle.sd_outside.specs.declared.packet.Packet.{Packet}
use Rattle.sd_config.specs.declared.config.Config.{Config}
use Rattle.sd_config.specs.declared.stage.Stage.{Stage}
use Rattle.sd_config.specs.Program.{program_name, program_of}
use Rattle.sd_link.specs.Steps.{Step, Fail, History}
use Rattle.sd_link.specs.Link.{IsSettledBy}
use Rattle.sd_link.specs.Tries.{beyond}
use Rattle.sd_link.specs.Parts.{sends_in, got_in, ticks_in, fails_in}
use Rattle.sd_config.specs.declared.command.Command.{Command}
use Rattle.sd_config.specs.declared.command.Command.TheVariants.{Addr, Boot, Wait}
use Rattle.sd_config.specs.declared.told.Told.{Told}
use Rattle.sd_config.specs.declared.told.Told.TheVariants.{AddrOk, AddrLinkFault, BootUnbuilt, BootLinkFault, WaitOk, WaitLinkFault}
use Rattle.sd_claims.specs.Machine.{State, Answers}
use Rattle.sd_claims.specs.Rarp.{learned_from, Learned}
use Rattle.sd_claims.specs.Fetching.{Fetch, Fetched, FetchTimedOut, FetchFlooded, FetchRefused, FetchTooLarge}
use Rattle.sd_claims.specs.Booting.{Counts, IsServerIp, fetch_port, OfFetch}
use Rattle.sd_claims.specs.Causes.{IsCaused, AddressTimedOut, AddressFlooded, faults_told}

-- ---- what is shown is what was configured

abbrev pub AddressIsConfigured : Type 0
AddressIsConfigured = (c : Config) (old new : State) (ip : ℕ) → Answers c old Addr (AddrOk ip) new → ip ≡ c.client.ip

abbrev pub ProgramIsConfigured : Type 0
ProgramIsConfigured = (c : Config) (old new : State) (step : Stage) (program : List ℕ) → Answers c old Boot (BootUnbuilt step program) new → program_of c ≡ Some program

-- ---- what is shown came through the network while the command was done

-- a packet was got in the part that told this address
pub record WasTold (mac : Mac) (ip : ℕ) (part : List Step) : Type 0 where
  pub earlier : List Packet
  pub packet : Packet
  pub later : List Packet
  pub learned : Learned
  pub got : got_in part ≡ earlier ++ (packet ∷ later)
  pub tells : learned_from mac packet ≡ Some learned
  pub address : learned.address ≡ ip

abbrev pub AddressWasTold : Type 0
AddressWasTold = (h : History) (n next : Counts) (ip : ℕ) (part : List Step) → IsCaused (IsSettledBy h) h.config n Addr (AddrOk ip) next part → WasTold h.config.client.mac ip part

-- a fetch of the client's boot program from the server, in the part, gave these bytes
pub record WasFetched (h : History) (n : Counts) (program : List ℕ) (part : List Step) : Type 0 where
  pub fetch : Fetch
  pub before : List Step
  pub within : List Step
  pub after : List Step
  pub cut : part ≡ before ++ (within ++ after)
  pub fetched : Fetched (beyond (IsSettledBy h) before) fetch program within
  pub name : fetch.name ≡ program_name h.config.arch fetch.me.ip
  pub port : fetch.me.port ≡ fetch_port n.boots
  pub server : IsServerIp h.config fetch.server

abbrev pub ProgramWasFetched : Type 0
ProgramWasFetched = (h : History) (n next : Counts) (step : Stage) (program : List ℕ) (part : List Step) → IsCaused (IsSettledBy h) h.config n Boot (BootUnbuilt step program) next part → WasFetched h n program part

-- the client was silent, and just so many ticks passed
abbrev pub WaitPassed : Type 0
WaitPassed = (h : History) (n next : Counts) (ticks shown : ℕ) (part : List Step) → IsCaused (IsSettledBy h) h.config n (Wait ticks) (WaitOk shown) next part → (sends_in part ≡ []) × (ticks_in part ≡ shown)

-- ---- one answer

-- What happened leaves no choice: two answers to one command that have their causes in one part are equal.
abbrev pub HasOneAnswer : Type 0
HasOneAnswer = (h : History) (n : Counts) (command : Command) (first second : Told) (next other : Counts) (part : List Step)
    → IsCaused (IsSettledBy h) h.config n command first next part → IsCaused (IsSettledBy h) h.config n command second other part → first ≡ second

-- And where the network doesn't fail, so are what the client counts after them.
abbrev pub HasOneCount : Type 0
HasOneCount = (h : History) (n : Counts) (command : Command) (first second : Told) (next other : Counts) (part : List Step) → fails_in part ≡ 0
    → IsCaused (IsSettledBy h) h.config n command first next part → IsCaused (IsSettledBy h) h.config n command second other part → next ≡ other

-- ---- faults

-- Where the network fails, a fault is answered.
abbrev pub FaultIsTold : Type 0
FaultIsTold = (h : History) (n next : Counts) (command : Command) (answer : Told) (part : List Step) → fails_in part ≢ 0 → IsCaused (IsSettledBy h) h.config n command answer next part → faults_told answer ≡ 1

-- a failure of the network ends the part, which has no other
pub record EndsWithFail (part : List Step) : Type 0 where
  pub before : List Step
  pub calm : fails_in before ≡ 0
  pub cut : part ≡ before ++ Fail ∷ []

-- And the failure ends the command.
abbrev pub FaultIsLast : Type 0
FaultIsLast = (h : History) (n next : Counts) (command : Command) (answer : Told) (part : List Step) → fails_in part ≢ 0 → IsCaused (IsSettledBy h) h.config n command answer next part → EndsWithFail part

-- No fault of the network has a cause where the network doesn't fail.
abbrev pub NoFaultIsCaused : Type 0
NoFaultIsCaused = (h : History) (n next : Counts) (command : Command) (ticks : ℕ) (part : List Step) → fails_in part ≡ 0
    → (IsCaused (IsSettledBy h) h.config n command AddrLinkFault next part → ⊥)
    × (IsCaused (IsSettledBy h) h.config n command BootLinkFault next part → ⊥)
    × (IsCaused (IsSettledBy h) h.config n command (WaitLinkFault ticks) next part → ⊥)

-- ---- what the client counts

-- no address came
abbrev pub NoAddress : (List Step → Type 0) → Config → List Step → Type 0
NoAddress settled c part = AddressTimedOut settled c part ⊎ AddressFlooded settled c part

-- Where it doesn't fail, a boot that isn't counted came no further than RARP.
abbrev pub UncountedBoot : Type 0
UncountedBoot = (h : History) (n next : Counts) (answer : Told) (part : List Step) → fails_in part ≡ 0 → IsCaused (IsSettledBy h) h.config n Boot answer next part → next.boots ≡ n.boots → NoAddress (IsSettledBy h) h.config part

-- no program came
abbrev pub NoProgram : (List Step → Type 0) → Fetch → List Step → Type 0
NoProgram settled f part = FetchTimedOut settled f part ⊎ FetchFlooded settled f part ⊎ ((code : ℕ) × FetchRefused code settled f part) ⊎ ((size : ℕ) × FetchTooLarge size settled f part)

-- And one after which the next call has the same number came no further than TFTP.
abbrev pub UncountedCalls : Type 0
UncountedCalls = (h : History) (n next : Counts) (answer : Told) (part : List Step) → fails_in part ≡ 0 → IsCaused (IsSettledBy h) h.config n Boot answer next part → next.next_xid ≡ n.next_xid
    → NoAddress (IsSettledBy h) h.config part ⊎ OfFetch (IsSettledBy h) h.config n NoProgram part

-- Of 32,768 boots in a row each fetches from a port of its own.
abbrev pub PortsDiffer : Type 0
PortsDiffer = (boots more : ℕ) → 0 < more → more < 32768 → fetch_port (boots + more) ≢ fetch_port boots
