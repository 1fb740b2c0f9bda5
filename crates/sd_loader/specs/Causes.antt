-- What came of one call of the loader, and why it has no answer.
use Rattle.std.specs.Prelude.{◌≡◌, ℕ, ◌+◌, List, Result, Ok, Err}
use Rattle.sd_outside.specs.declared.packet.Addr.{Addr}
use Rattle.sd_config.specs.declared.stage.Stage.{Stage}
use Rattle.sd_link.specs.Steps.{Step, History}
use Rattle.sd_link.specs.Link.{IsSettledBy}
use Rattle.sd_rpc_retry.specs.declared.calling.Ask.{Ask}
use Rattle.sd_rpc_retry.specs.declared.calling.Answer.{Answer}
use Rattle.sd_rpc_retry.specs.declared.calling.Caller.{Caller}
use Rattle.sd_rpc_retry.specs.declared.calling.CallError.{CallError}
use Rattle.sd_rpc_retry.specs.declared.calling.CallError.TheVariants as error
use Rattle.sd_rpc_retry.specs.Calling.{Verdict}
use Rattle.sd_rpc_retry.specs.Chain.{Call}
use Rattle.sd_rpc_retry.specs.Chain as chain
use Rattle.sd_loader.specs.declared.errors.LoadError.{LoadError}
use Rattle.sd_loader.specs.declared.errors.LoadError.TheVariants as errors
use Rattle.sd_loader.specs.declared.errors.LoadError.TheVariants.{Refused}

-- Below, `settled` tells of the first steps of a part whether nothing that is due still waits for the client after them.

-- a call of this procedure there
abbrev pub call_to : Addr → Ask → Call
call_to dst what = record { dst = dst; ask = what }

-- the first reply to the call that this caller makes next told this
abbrev pub CallTold : Verdict → (List Step → Type 0) → Caller → Addr → Ask → List Step → Type 0
CallTold verdict settled caller dst what = chain.CallTold verdict settled caller (call_to dst what)

-- Why that call has no answer: all tries waited in vain, the last got a flood, the first reply refused it by this number, or the network
-- failed in a try. Nothing is said of running out of memory.
abbrev pub CallEnded : CallError → (List Step → Type 0) → Caller → Addr → Ask → List Step → Type 0
CallEnded error.Timeout settled caller dst what = chain.CallTimedOut settled caller (call_to dst what)
CallEnded error.Flood settled caller dst what = chain.CallFlooded settled caller (call_to dst what)
CallEnded (error.Denied code) settled caller dst what = chain.CallTold (Err code) settled caller (call_to dst what)
CallEnded error.LinkFault settled caller dst what = chain.CallFailed settled caller (call_to dst what)
CallEnded error.NoMemory settled caller dst what = λ part. Unit {0}

-- what came of the call of a step
abbrev pub CallCame : {T : Type 0} → Stage → Caller → Addr → Ask → (T → Answer) → Result T LoadError → History → List Step → Type 0
CallCame step caller dst what shown (Ok told) old part = CallTold (Ok (shown told)) (IsSettledBy old) caller dst what part
CallCame step caller dst what shown (Err (errors.Call at why)) old part = (at ≡ step) × CallEnded why (IsSettledBy old) caller dst what part
CallCame step caller dst what shown (Err other) old part = ⊥

-- the same where the answer is a status: a refusal shows it
abbrev pub StatusCame : {T : Type 0} → Stage → Caller → Addr → Ask → (Result T ℕ → Answer) → Result T LoadError → History → List Step → Type 0
StatusCame step caller dst what shown (Ok told) old part = CallTold (Ok (shown (Ok told))) (IsSettledBy old) caller dst what part
StatusCame step caller dst what shown (Err (Refused at status)) old part = (at ≡ step) × CallTold (Ok (shown (Err status))) (IsSettledBy old) caller dst what part
StatusCame step caller dst what shown (Err (errors.Call at why)) old part = (at ≡ step) × CallEnded why (IsSettledBy old) caller dst what part
StatusCame step caller dst what shown (Err other) old part = ⊥

-- why a call with a status has no result: a status that refuses isn't 0
abbrev pub IsStatusError : LoadError → Type 0
IsStatusError (errors.Call step why) = Unit {0}
IsStatusError (Refused step status) = status ≡ 0 → ⊥
IsStatusError other = ⊥

-- a fault of the link
abbrev pub IsFault : LoadError → Type 0
IsFault (errors.Call step why) = why ≡ error.LinkFault
IsFault other = ⊥
