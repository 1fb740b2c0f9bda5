-- What one part of a command needs, the whole needs.
use Rattle.std.proofs.Common.{◌≡◌, ℕ, ◌+◌, ◌≤◌, Result, Ok, Err, arith}
use Rattle.std.specs.Prelude.{min, IfOk}
use Rattle.sd_outside.specs.declared.errors.NoMemory.{NoMemory}
use Rattle.sd_config.specs.declared.command.Command.{Command}
use Rattle.sd_config.specs.declared.command.Command.TheVariants.{Addr, Boot, Wait}
use Rattle.sd_config.specs.declared.told.Told.{Told}
use Rattle.sd_config.specs.declared.told.Told.TheVariants.{AddrOk, AddrTimeout, AddrFlood, AddrLinkFault, BootUnbuilt, BootTimeout, BootFlood, BootDenied, BootRefused, BootNoPort, BootTooLarge, BootLinkFault, WaitOk, WaitFlood, WaitLinkFault}
use Rattle.sd_rpc_retry.specs.declared.asking.Asked.{Asked}
use Rattle.sd_rpc_retry.specs.declared.asking.Asked.TheVariants as asked
use Rattle.sd_rpc_retry.specs.declared.calling.CallError.{CallError}
use Rattle.sd_rpc_retry.specs.declared.calling.CallError.TheVariants as error
use Rattle.sd_rpc_retry.specs.Calls.{asked_as}
use Rattle.sd_rpc_retry.specs.Sending.{RoseBy, HandedFor, WaitedFor}
use Rattle.sd_claims.specs.AnyLink.{Need, IsMet, BootNeeds}
use Rattle.sd_boot_chain.specs.declared.fetch.Fetched as outcomes
use Rattle.sd_boot_chain.specs.declared.fetch.Fetched.TheVariants as came
use Rattle.sd_boot_chain.specs.declared.root.Unanswered.{Unanswered}
use Rattle.sd_boot_chain.specs.Fetch.{IsFinished}
use Rattle.sd_boot_chain.specs.Needs.{AskedNeeds, FetchNeeds, ErrorNeeds, CallNeeds}

rose_later : (top times before mid now : ℕ) → before ≤ mid → min (mid + times) top ≤ now → min (before + times) top ≤ now
rose_later top times before mid now le rose = omega (arith, le, rose)

rose_before : (top times before mid now : ℕ) → mid ≤ now → min (before + times) top ≤ mid → min (before + times) top ≤ now
rose_before top times before mid now le rose = omega (arith, le, rose)

pub met_later : (h0 h1 h2 c0 c1 c2 : ℕ) → h0 ≤ h1 → c0 ≤ c1 → (need : Need) → IsMet h1 h2 c1 c2 need → IsMet h0 h2 c0 c2 need
met_later h0 h1 h2 c0 c1 c2 handed clock need m = record { handed = rose_later _ need.packets h0 h1 h2 handed m.handed; waited = omega (arith, clock, m.waited) }

pub met_before : (h0 h1 h2 c0 c1 c2 : ℕ) → h1 ≤ h2 → c1 ≤ c2 → (need : Need) → IsMet h0 h1 c0 c1 need → IsMet h0 h2 c0 c2 need
met_before h0 h1 h2 c0 c1 c2 handed clock need m = record { handed = rose_before _ need.packets h0 h1 h2 handed m.handed; waited = omega (arith, clock, m.waited) }

rose_none : (top before now : ℕ) → before ≤ now → min (before + 0) top ≤ now
rose_none top before now le = omega (arith, le)

-- ---- the tables

module _ (long : ℕ) (P Q : Need → Type 0) (so : (need : Need) → P need → Q need) where
  pub asked_so : {T : Type 0} (what : Asked T) → AskedNeeds long P what → AskedNeeds long Q what
  asked_so (asked.Answer x) m = so _ m
  asked_so asked.Timeout m = so _ m
  asked_so asked.Flood m = so _ m
  asked_so asked.Fault m = so _ m

  pub fetch_so : (what : outcomes.Fetched) → FetchNeeds long P what → FetchNeeds long Q what
  fetch_so (came.File bytes) m = so _ m
  fetch_so came.Timeout m = so _ m
  fetch_so came.Flood m = so _ m
  fetch_so (came.Refused code) m = so _ m
  fetch_so (came.TooLarge got) m = so _ m
  fetch_so came.Fault m = so _ m

  pub error_so : (what : CallError) → ErrorNeeds long P what → ErrorNeeds long Q what
  error_so error.Timeout m = so _ m
  error_so error.Flood m = so _ m
  error_so (error.Denied code) m = so _ m
  error_so error.LinkFault m = so _ m
  error_so error.NoMemory m = tt

  pub call_so : {X : Type 0} (what : Result X Unanswered) → CallNeeds long P what → CallNeeds long Q what
  call_so (Ok x) m = so _ m
  call_so (Err why) m = error_so why.error m

  pub boot_so : (answer : Told) → BootNeeds long P answer → BootNeeds long Q answer
  boot_so (BootUnbuilt step program) m = so _ m
  boot_so (BootTimeout step) m = so _ m
  boot_so (BootFlood step) m = so _ m
  boot_so (BootDenied step code) m = so _ m
  boot_so (BootRefused step code) m = so _ m
  boot_so BootNoPort m = so _ m
  boot_so (BootTooLarge size) m = so _ m
  boot_so BootLinkFault m = so _ m
  boot_so answer m = absurd m

-- what comes after other parts of a command
pub asked_later : {T : Type 0} (long h0 h1 h2 c0 c1 c2 : ℕ) (what : Asked T) → h0 ≤ h1 → c0 ≤ c1 → AskedNeeds long (IsMet h1 h2 c1 c2) what → AskedNeeds long (IsMet h0 h2 c0 c2) what
asked_later long h0 h1 h2 c0 c1 c2 what handed clock m = asked_so long (IsMet h1 h2 c1 c2) (IsMet h0 h2 c0 c2) (met_later h0 h1 h2 c0 c1 c2 handed clock) what m

pub call_later : {X : Type 0} (long h0 h1 h2 c0 c1 c2 : ℕ) (what : Result X Unanswered) → h0 ≤ h1 → c0 ≤ c1 → CallNeeds long (IsMet h1 h2 c1 c2) what → CallNeeds long (IsMet h0 h2 c0 c2) what
call_later long h0 h1 h2 c0 c1 c2 what handed clock m = call_so long (IsMet h1 h2 c1 c2) (IsMet h0 h2 c0 c2) (met_later h0 h1 h2 c0 c1 c2 handed clock) what m

pub boot_later : {E : Type 0} (long h0 h1 h2 c0 c1 c2 : ℕ) (r : Result Told E) → h0 ≤ h1 → c0 ≤ c1 → IfOk r (BootNeeds long (IsMet h1 h2 c1 c2)) → IfOk r (BootNeeds long (IsMet h0 h2 c0 c2))
boot_later long h0 h1 h2 c0 c1 c2 (Ok answer) handed clock m = boot_so long (IsMet h1 h2 c1 c2) (IsMet h0 h2 c0 c2) (met_later h0 h1 h2 c0 c1 c2 handed clock) answer m
boot_later long h0 h1 h2 c0 c1 c2 (Err e) handed clock m = tt

-- ---- from the counts of a request

pub asked_met : {T : Type 0} (long h0 h1 c0 c1 : ℕ) (what : Asked T) → HandedFor what h0 h1 → WaitedFor long what c0 c1 → h0 ≤ h1 → c0 ≤ c1 → AskedNeeds long (IsMet h0 h1 c0 c1) what
asked_met long h0 h1 c0 c1 (asked.Answer x) handed waited counts later = record { handed = handed; waited = omega (arith, later) }
asked_met long h0 h1 c0 c1 asked.Timeout handed waited counts later = record { handed = rose_none _ h0 h1 counts; waited = waited }
asked_met long h0 h1 c0 c1 asked.Flood handed waited counts later = record { handed = handed; waited = omega (arith, later) }
asked_met long h0 h1 c0 c1 asked.Fault handed waited counts later = record { handed = rose_none _ h0 h1 counts; waited = omega (arith, later) }

-- what came of a call
abbrev AnswerNeeds : {T : Type 0} → ℕ → (Need → Type 0) → Result T CallError → Type 0
AnswerNeeds long met (Ok answer) = met (record { packets = 1; ticks = 0 })
AnswerNeeds long met (Err why) = ErrorNeeds long met why

pub answer_met : {T : Type 0} (long h0 h1 c0 c1 : ℕ) (r : Result T CallError) → IfOk (asked_as r) (λ what. HandedFor what h0 h1) → IfOk (asked_as r) (λ what. WaitedFor long what c0 c1) → h0 ≤ h1 → c0 ≤ c1 → AnswerNeeds long (IsMet h0 h1 c0 c1) r
answer_met long h0 h1 c0 c1 (Ok answer) handed waited counts later = record { handed = handed; waited = omega (arith, later) }
answer_met long h0 h1 c0 c1 (Err (error.Denied code)) handed waited counts later = record { handed = handed; waited = omega (arith, later) }
answer_met long h0 h1 c0 c1 (Err error.Timeout) handed waited counts later = record { handed = rose_none _ h0 h1 counts; waited = waited }
answer_met long h0 h1 c0 c1 (Err error.Flood) handed waited counts later = record { handed = handed; waited = omega (arith, later) }
answer_met long h0 h1 c0 c1 (Err error.LinkFault) handed waited counts later = record { handed = rose_none _ h0 h1 counts; waited = omega (arith, later) }
answer_met long h0 h1 c0 c1 (Err error.NoMemory) handed waited counts later = tt

-- ---- the last ACK of a fetch

rose_less : (top h0 h1 h2 : ℕ) → min (h0 + 1) top ≤ h1 → h1 ≤ h2 → min (h0 + 0) top ≤ h2
rose_less top h0 h1 h2 rose le = omega (arith, rose, le)

pub finish_needs : (long h0 h1 h2 c0 c1 c2 : ℕ) (r : Result outcomes.Fetched NoMemory) → h1 ≤ h2 → c1 ≤ c2 → IsMet h0 h1 c0 c1 (record { packets = 1; ticks = 0 }) → IfOk r IsFinished → IfOk r (FetchNeeds long (IsMet h0 h2 c0 c2))
finish_needs long h0 h1 h2 c0 c1 c2 (Ok (came.File bytes)) counts later got ended = met_before h0 h1 h2 c0 c1 c2 counts later _ got
finish_needs long h0 h1 h2 c0 c1 c2 (Ok came.Fault) counts later got ended = record { handed = rose_less _ h0 h1 h2 got.handed counts; waited = omega (arith, got.waited, later) }
finish_needs long h0 h1 h2 c0 c1 c2 (Ok came.Timeout) counts later got ended = absurd ended
finish_needs long h0 h1 h2 c0 c1 c2 (Ok came.Flood) counts later got ended = absurd ended
finish_needs long h0 h1 h2 c0 c1 c2 (Ok (came.Refused code)) counts later got ended = absurd ended
finish_needs long h0 h1 h2 c0 c1 c2 (Ok (came.TooLarge size)) counts later got ended = absurd ended
finish_needs long h0 h1 h2 c0 c1 c2 (Err none) counts later got ended = tt
