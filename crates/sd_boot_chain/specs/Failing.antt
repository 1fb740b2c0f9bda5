-- How often the link failed: once, where an outcome says so.
use Rattle.std.specs.Prelude.{◌≡◌, ℕ, Result, Ok, Err}
use Rattle.sd_outside.specs.declared.errors.NoMemory.{NoMemory}
use Rattle.sd_config.specs.declared.told.Told.{Told}
use Rattle.sd_rpc_retry.specs.declared.calling.CallError.{CallError}
use Rattle.sd_rpc_retry.specs.declared.calling.CallError.TheVariants as error
use Rattle.sd_claims.specs.Causes.{faults_told}
use Rattle.sd_boot_chain.specs.declared.fetch.Fetched as outcomes
use Rattle.sd_boot_chain.specs.declared.fetch.Fetched.TheVariants as came
use Rattle.sd_boot_chain.specs.declared.pause.Pause.{Pause}
use Rattle.sd_boot_chain.specs.declared.pause.Pause.TheVariants as pause
use Rattle.sd_boot_chain.specs.declared.root.Unanswered.{Unanswered}

abbrev pub told_fails : Result Told NoMemory → ℕ
told_fails (Ok answer) = faults_told answer
told_fails (Err none) = 0

abbrev pub fetch_fails : Result outcomes.Fetched NoMemory → ℕ
fetch_fails (Ok (came.File bytes)) = 0
fetch_fails (Ok came.Timeout) = 0
fetch_fails (Ok came.Flood) = 0
fetch_fails (Ok (came.Refused code)) = 0
fetch_fails (Ok (came.TooLarge got)) = 0
fetch_fails (Ok came.Fault) = 1
fetch_fails (Err none) = 0

abbrev pub IsFetchFault : outcomes.Fetched → Type 0
IsFetchFault came = fetch_fails (Ok came) ≡ 1

abbrev pub error_fails : CallError → ℕ
error_fails error.LinkFault = 1
error_fails error.Timeout = 0
error_fails error.Flood = 0
error_fails (error.Denied code) = 0
error_fails error.NoMemory = 0

abbrev pub call_fails : {X : Type 0} → Result X Unanswered → ℕ
call_fails (Ok x) = 0
call_fails (Err why) = error_fails why.error

abbrev pub pause_fails : Result Pause NoMemory → ℕ
pause_fails (Ok pause.Over) = 0
pause_fails (Ok pause.Flood) = 0
pause_fails (Ok pause.Fault) = 1
pause_fails (Err none) = 0
