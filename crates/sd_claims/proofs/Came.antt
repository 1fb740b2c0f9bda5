-- What an answer shows was configured, and came in its part.
use Rattle.std.proofs.Common.{◌≡◌, ℕ, List, [], ◌∷◌, ◌++◌, ◌≢◌, refl, ◌∙◌, ap, subst, arith}
use Rattle.sd_config.specs.declared.config.Config.{Config}
use Rattle.sd_config.specs.declared.stage.Stage.{Stage}
use Rattle.sd_link.specs.Steps.{Step, Get, History}
use Rattle.sd_link.specs.Link.{IsSettledBy}
use Rattle.sd_link.specs.Parts.{sends_in, got_in, ticks_in, fails_in}
use Rattle.sd_link.proofs.Histories.{got-append}
use Rattle.sd_config.specs.declared.command.Command.{Command}
use Rattle.sd_config.specs.declared.command.Command.TheVariants as command
use Rattle.sd_config.specs.declared.told.Told.{Told}
use Rattle.sd_config.specs.declared.told.Told.TheVariants as told
use Rattle.sd_rpc_retry.specs.Chain.{RowEnd, came, timed_out, flooded, denied, failed}
use Rattle.sd_claims.specs.Booting.{Counts, End, no_mount, found_mount, OfCalls, answer_of, boot_fetch}
use Rattle.sd_claims.specs.Causes.{Cause, addr_ok, boot_calls, wait_ok, faults_told}
use Rattle.sd_config.specs.declared.told.Told.TheVariants.{AddrLinkFault, BootLinkFault, WaitLinkFault}
use Rattle.sd_claims.specs.Laws.{AddressIsConfigured, ProgramIsConfigured, WasTold, AddressWasTold, WasFetched, ProgramWasFetched, WaitPassed, NoFaultIsCaused, FaultIsTold}

pub address_is_configured : AddressIsConfigured
address_is_configured c old new ip h = h.0

pub program_is_configured : ProgramIsConfigured
program_is_configured c old new step program h = h.0.1

-- a program is shown where it was fetched
shown : (fetched program : List ℕ) (step : Stage) (end : RowEnd End) → told.BootUnbuilt step program ≡ answer_of fetched end → fetched ≡ program
shown fetched program step (came no_mount) e = absurd cc
shown fetched program step (came found_mount) e = cc
shown fetched program step (timed_out at) e = absurd cc
shown fetched program step (flooded at) e = absurd cc
shown fetched program step (denied at code) e = absurd cc
shown fetched program step (failed at) e = absurd cc

module _ (h : History) (n : Counts) where
  was_told : (next : Counts) (ip : ℕ) (part : List Step) → Cause (IsSettledBy h) h.config n command.Addr (told.AddrOk ip) next part → WasTold h.config.client.mac ip part
  was_told _ _ part (addr_ok learned _ answered) =
      let e = answered.ends in
      record {
        earlier = got_in e.before;
        packet = e.packet;
        later = [];
        learned = learned;
        got = ap got_in e.cut ∙ got-append e.before (Get e.id e.packet ∷ []);
        tells = e.matched;
        address = refl;
      }

  fetched_by : (program : List ℕ) (end : RowEnd End) (next : Counts) (part : List Step) → OfCalls (IsSettledBy h) h.config n program end next part → WasFetched h n program part
  fetched_by program end next part b = record {
    fetch = boot_fetch h.config n.boots b.learned;
    before = b.address;
    within = b.fetch;
    after = b.calls;
    cut = b.cut;
    fetched = b.fetched;
    name = refl;
    port = refl;
    server = b.named;
  }

  was_fetched : (next : Counts) (step : Stage) (program : List ℕ) (part : List Step) → Cause (IsSettledBy h) h.config n command.Boot (told.BootUnbuilt step program) next part → WasFetched h n program part
  was_fetched next step program part (boot_calls fetched end _ _ _ is b) = subst (λ (l : List ℕ). WasFetched h n l part) (shown fetched program step end is) (fetched_by fetched end next part b)

  passed : (next : Counts) (ticks shown : ℕ) (part : List Step) → Cause (IsSettledBy h) h.config n (command.Wait ticks) (told.WaitOk shown) next part → (sends_in part ≡ []) × (ticks_in part ≡ shown)
  passed _ _ _ part (wait_ok ticks _ waited) = (waited.silent, waited.passed)

pub address_was_told : AddressWasTold
address_was_told h n next ip part caused = was_told h n next ip part caused.cause

pub program_was_fetched : ProgramWasFetched
program_was_fetched h n next step program part caused = was_fetched h n next step program part caused.cause

pub wait_passed : WaitPassed
wait_passed h n next ticks shown part caused = passed h n next ticks shown part caused.cause

pub no_fault_is_caused : NoFaultIsCaused
no_fault_is_caused h n next k ticks part none = (λ caused. omega (arith, none, caused.fails), λ caused. omega (arith, none, caused.fails), λ caused. omega (arith, none, caused.fails))

one_fault : (a : Told) (count : ℕ) → count ≢ 0 → count ≡ faults_told a → faults_told a ≡ 1
one_fault AddrLinkFault count some e = refl
one_fault BootLinkFault count some e = refl
one_fault (WaitLinkFault ticks) count some e = refl
one_fault a count some e = absurd (some e)

pub fault_is_told : FaultIsTold
fault_is_told h n next k a part some caused = one_fault a (fails_in part) some caused.fails
