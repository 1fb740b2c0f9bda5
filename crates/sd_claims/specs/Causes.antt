-- What an answer shows of the part of the run in which its command was done.
use Rattle.std.specs.Prelude.{◌≡◌, ℕ, ◌+◌, ◌^◌, ◌<◌, List}
use Rattle.sd_config.specs.declared.config.Config.{Config}
use Rattle.sd_config.specs.declared.stage.Stage.TheVariants as stage
use Rattle.sd_link.specs.Steps.{Step}
use Rattle.sd_link.specs.Parts.{ticks_in, fails_in}
use Rattle.sd_config.specs.declared.command.Command.{Command}
use Rattle.sd_config.specs.declared.command.Command.TheVariants.{Addr, Boot, Wait}
use Rattle.sd_config.specs.declared.told.Told.{Told}
use Rattle.sd_config.specs.declared.told.Told.TheVariants.{AddrOk, AddrTimeout, AddrFlood, BootTimeout, BootFlood, BootRefused, BootTooLarge, WaitOk, WaitFlood, AddrLinkFault, BootLinkFault, WaitLinkFault}
use Rattle.sd_link.specs.Tries.{Flooded, TimedOut, Failed}
use Rattle.sd_rpc_retry.specs.Chain.{RowEnd}
use Rattle.sd_claims.specs.Rarp.{Learned, rarp_request, rarp_hearing}
use Rattle.sd_claims.specs.Fetching.{FetchTimedOut, FetchFlooded, FetchFailed, FetchRefused, FetchTooLarge}
use Rattle.sd_claims.specs.Booting.{Counts, LearnsAddress, OfFetch, End, OfCalls, answer_of}
use Rattle.sd_claims.specs.Waiting.{Waited, WaitFlooded, WaitFailed}

-- all tries for an address waited in vain
abbrev pub AddressTimedOut : (List Step → Type 0) → Config → List Step → Type 0
AddressTimedOut settled c part = TimedOut settled (rarp_request c.client.mac) (rarp_hearing c.client.mac) c.tries c.wait part

-- the last of them got a flood
abbrev pub AddressFlooded : (List Step → Type 0) → Config → List Step → Type 0
AddressFlooded settled c part = Flooded settled (rarp_request c.client.mac) (rarp_hearing c.client.mac) c.tries c.wait part

-- the network failed in one of them
abbrev pub AddressFailed : (List Step → Type 0) → Config → List Step → Type 0
AddressFailed settled c part = Failed settled (rarp_request c.client.mac) (rarp_hearing c.client.mac) c.tries c.wait part

-- the count after a boot that ended with its fetch: it reached TFTP, and made no call
abbrev pub after_fetch : Counts → Counts
after_fetch n = record n { boots = n.boots + 1 }

-- The table: each answer that a command may have, with what its part shows. The client counted so much before, and counts so much
-- after. Each datagram that tells something came from the server's address. That a fault of the link is answered where it failed, and
-- only there, is said of all rows below.
pub data Cause (settled : List Step → Type 0) (c : Config) (n : Counts) : Command → Told → Counts → List Step → Type 0 where
  -- `addr`: a reply told the address; all tries waited in vain; the last got a flood; the network failed in one
  addr_ok : (learned : Learned) (part : List Step) → LearnsAddress settled c learned part → Cause settled c n Addr (AddrOk learned.address) n part
  addr_timeout : (part : List Step) → AddressTimedOut settled c part → Cause settled c n Addr AddrTimeout n part
  addr_flood : (part : List Step) → AddressFlooded settled c part → Cause settled c n Addr (AddrFlood stage.Rarp) n part
  addr_linkfault : (part : List Step) → AddressFailed settled c part → Cause settled c n Addr AddrLinkFault n part
  -- `boot`: the same of its address
  boot_timeout_rarp : (part : List Step) → AddressTimedOut settled c part → Cause settled c n Boot (BootTimeout stage.Rarp) n part
  boot_flood_rarp : (part : List Step) → AddressFlooded settled c part → Cause settled c n Boot (BootFlood stage.Rarp) n part
  boot_linkfault_rarp : (part : List Step) → AddressFailed settled c part → Cause settled c n Boot BootLinkFault n part
  -- the same of a request of the fetch; the server refused the program, by an ERROR with this code; the last block came, and the
  -- program goes on
  boot_timeout_tftp : (part : List Step) → OfFetch settled c n FetchTimedOut part → Cause settled c n Boot (BootTimeout stage.Tftp) (after_fetch n) part
  boot_flood_tftp : (part : List Step) → OfFetch settled c n FetchFlooded part → Cause settled c n Boot (BootFlood stage.Tftp) (after_fetch n) part
  boot_linkfault_tftp : (part : List Step) → OfFetch settled c n FetchFailed part → Cause settled c n Boot BootLinkFault (after_fetch n) part
  boot_refused : (code : ℕ) (part : List Step) → OfFetch settled c n (FetchRefused code) part → Cause settled c n Boot (BootRefused stage.Tftp code) (after_fetch n) part
  boot_too_large : (size : ℕ) (part : List Step) → OfFetch settled c n (FetchTooLarge size) part → Cause settled c n Boot (BootTooLarge size) (after_fetch n) part
  -- the program was fetched, and the calls that follow ended so
  boot_calls : (program : List ℕ) (end : RowEnd End) (answer : Told) (next : Counts) (part : List Step) → answer ≡ answer_of program end → OfCalls settled c n program end next part → Cause settled c n Boot answer next part
  -- `wait`: the asked number of ticks passed; a flood came before; the network failed
  wait_ok : (ticks : ℕ) (part : List Step) → Waited settled ticks part → Cause settled c n (Wait ticks) (WaitOk ticks) n part
  wait_flood : (ticks : ℕ) (part : List Step) → WaitFlooded ticks part → Cause settled c n (Wait ticks) (WaitFlood ticks) n part
  wait_linkfault : (ticks : ℕ) (part : List Step) → WaitFailed ticks part → Cause settled c n (Wait ticks) (WaitLinkFault ticks) n part

-- how often the link failed: once, where the answer says so
abbrev pub faults_told : Told → ℕ
faults_told AddrLinkFault = 1
faults_told BootLinkFault = 1
faults_told (WaitLinkFault ticks) = 1
faults_told answer = 0

-- The answer is earned or caused by the part, in which the link failed exactly where the answer says so. The part lasts so long at most
-- that no tick comes near the last.
pub record IsCaused (settled : List Step → Type 0) (c : Config) (n : Counts) (command : Command) (answer : Told) (next : Counts) (part : List Step) : Type 0 where
  pub cause : Cause settled c n command answer next part
  pub fails : fails_in part ≡ faults_told answer
  pub brief : ticks_in part < 2 ^ 34
