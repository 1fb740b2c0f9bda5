-- What the outcomes of requests need over every link.
use Rattle.std.specs.Prelude.{ℕ, Result, Ok, Err}
use Rattle.sd_rpc_retry.specs.declared.asking.Asked.{Asked}
use Rattle.sd_rpc_retry.specs.declared.asking.Asked.TheVariants as asked
use Rattle.sd_rpc_retry.specs.declared.calling.CallError.{CallError}
use Rattle.sd_rpc_retry.specs.declared.calling.CallError.TheVariants as error
use Rattle.sd_claims.specs.AnyLink.{Need, nothing, a_packet, a_flood, so_long}
use Rattle.sd_boot_chain.specs.declared.fetch.Fetched as outcomes
use Rattle.sd_boot_chain.specs.declared.fetch.Fetched.TheVariants as came
use Rattle.sd_boot_chain.specs.declared.pause.Pause.{Pause}
use Rattle.sd_boot_chain.specs.declared.pause.Pause.TheVariants as pause
use Rattle.sd_boot_chain.specs.declared.root.Unanswered.{Unanswered}

-- Below, `met` says of a need that it is met, and all tries of a request last `long` ticks together.

abbrev pub AskedNeeds : {T : Type 0} → ℕ → (Need → Type 0) → Asked T → Type 0
AskedNeeds long met (asked.Answer x) = met a_packet
AskedNeeds long met asked.Timeout = met (so_long long)
AskedNeeds long met asked.Flood = met a_flood
AskedNeeds long met asked.Fault = met nothing

abbrev pub FetchNeeds : ℕ → (Need → Type 0) → outcomes.Fetched → Type 0
FetchNeeds long met (came.File bytes) = met a_packet
FetchNeeds long met came.Timeout = met (so_long long)
FetchNeeds long met came.Flood = met a_flood
FetchNeeds long met (came.Refused code) = met a_packet
FetchNeeds long met (came.TooLarge got) = met a_packet
FetchNeeds long met came.Fault = met nothing

-- nothing is said of running out of memory
abbrev pub ErrorNeeds : ℕ → (Need → Type 0) → CallError → Type 0
ErrorNeeds long met error.Timeout = met (so_long long)
ErrorNeeds long met error.Flood = met a_flood
ErrorNeeds long met (error.Denied code) = met a_packet
ErrorNeeds long met error.LinkFault = met nothing
ErrorNeeds long met error.NoMemory = Unit {0}

abbrev pub CallNeeds : {X : Type 0} → ℕ → (Need → Type 0) → Result X Unanswered → Type 0
CallNeeds long met (Ok x) = met a_packet
CallNeeds long met (Err why) = ErrorNeeds long met why.error

abbrev pub PauseNeeds : ℕ → (Need → Type 0) → Pause → Type 0
PauseNeeds ticks met pause.Over = met (so_long ticks)
PauseNeeds ticks met pause.Flood = met a_flood
PauseNeeds ticks met pause.Fault = met nothing
