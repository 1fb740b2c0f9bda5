-- What came of a call, in the words of asking.
use Rattle.std.specs.Prelude.{◌≡◌, ℕ, ◌≤◌, List, length, Result, Ok, Err}
use Rattle.sd_outside.specs.declared.errors.NoMemory.{NoMemory}
use Rattle.sd_outside.specs.declared.packet.Addr.{Addr}
use Rattle.sd_bootparams.specs.Layout.{name_limit, path_limit}
use Rattle.sd_nfs_msg.specs.Layout as nfs
use Rattle.sd_link.specs.Steps.{Step, History}
use Rattle.sd_rpc_retry.specs.declared.asking.Asked.{Asked}
use Rattle.sd_rpc_retry.specs.declared.asking.Asked.TheVariants as asked
use Rattle.sd_rpc_retry.specs.declared.asking.Tally.{Tally}
use Rattle.sd_rpc_retry.specs.declared.calling.Answer.{Answer}
use Rattle.sd_rpc_retry.specs.declared.calling.Answer.TheVariants as answer
use Rattle.sd_rpc_retry.specs.declared.calling.CallError.{CallError}
use Rattle.sd_rpc_retry.specs.declared.calling.CallError.TheVariants as error
use Rattle.sd_rpc_retry.specs.declared.calling.Ask.{Ask}
use Rattle.sd_rpc_retry.specs.declared.calling.Ask.TheVariants as ask
use Rattle.sd_rpc_retry.specs.declared.calling.Caller.{Caller}
use Rattle.sd_rpc_retry.specs.Asking.{IsAsked, IsAnswer}
use Rattle.sd_rpc_retry.specs.Sending.{IsTallied}
use Rattle.sd_rpc_retry.specs.Calling.{shown_as, request, hearing_of}

-- an answer and a refusal are what the first match tells; out of memory is free
abbrev pub asked_as : {T : Type 0} → Result T CallError → Result (Asked (Result T ℕ)) NoMemory
asked_as (Ok told) = Ok (asked.Answer (Ok told))
asked_as (Err (error.Denied code)) = Ok (asked.Answer (Err code))
asked_as (Err error.Timeout) = Ok asked.Timeout
asked_as (Err error.Flood) = Ok asked.Flood
asked_as (Err error.LinkFault) = Ok asked.Fault
asked_as (Err error.NoMemory) = Err record {}

-- what came of the call that this caller makes next: the request and what is heard of it are those of the call, and what is told shows an answer
abbrev pub CameOf : {T : Type 0} → Caller → Addr → Ask → (T → Answer) → Asked (Result T ℕ) → History → List Step → Type 0
CameOf caller dst asked shown came = IsAsked (request caller dst asked) (hearing_of caller dst asked) (shown_as shown) caller.tries caller.wait came

-- how often it was sent, and when, whatever came of it
abbrev pub WasSent : {T : Type 0} → Caller → Addr → Ask → Tally → Result (Asked T) NoMemory → History → List Step → Type 0
WasSent caller dst asked tally came = IsTallied (request caller dst asked) (hearing_of caller dst asked) caller.wait tally came

-- an answer or a refusal is what some packet tells
abbrev pub IsTold : {T : Type 0} → Caller → Addr → Ask → (T → Answer) → Asked (Result T ℕ) → Type 0
IsTold caller dst asked shown came = IsAnswer (hearing_of caller dst asked) (shown_as shown) came

-- an answer is of the kind that was asked for, its texts are within the limits of bootparams, and a status that refuses isn't 0
abbrev pub IsAnswerTo : Ask → Answer → Type 0
IsAnswerTo (ask.Getport prog vers) (answer.Port port) = Unit {0}
IsAnswerTo (ask.Getport prog vers) other = ⊥
IsAnswerTo (ask.Whoami address) (answer.Whoami from client domain router) = (length client ≤ name_limit) × (length domain ≤ name_limit)
IsAnswerTo (ask.Whoami address) other = ⊥
IsAnswerTo (ask.Getfile client key) (answer.Getfile from server ip path) = (length server ≤ name_limit) × (length path ≤ path_limit)
IsAnswerTo (ask.Getfile client key) other = ⊥
IsAnswerTo (ask.Mnt path) (answer.Given file) = Unit {0}
IsAnswerTo (ask.Mnt path) (answer.Refused status) = status ≡ 0 → ⊥
IsAnswerTo (ask.Mnt path) other = ⊥
IsAnswerTo (ask.Nfs args) (answer.Nfs done) = nfs.IsResultOf (nfs.proc_of args) done
IsAnswerTo (ask.Nfs args) (answer.Refused status) = status ≡ 0 → ⊥
IsAnswerTo (ask.Nfs args) other = ⊥
