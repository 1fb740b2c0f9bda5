-- What came of the calls that follow the boot program, in the code's words and in the standard's.
use Rattle.std.specs.Prelude.{◌≡◌, ℕ, ◌==◌, if◌then◌else◌, List, Option, Some, None, Result, Ok, Err, IfSome}
use Rattle.sd_outside.specs.declared.errors.NoMemory.{NoMemory}
use Rattle.sd_config.specs.declared.stage.Stage.{Stage}
use Rattle.sd_config.specs.declared.stage.Stage.TheVariants as stage
use Rattle.sd_link.specs.Steps.{Step, History}
use Rattle.sd_link.specs.Link.{IsSettledBy}
use Rattle.sd_rpc_retry.specs.declared.calling.Answer.TheVariants as answers
use Rattle.sd_rpc_retry.specs.declared.calling.CallError.{CallError}
use Rattle.sd_rpc_retry.specs.declared.calling.CallError.TheVariants as error
use Rattle.sd_rpc_retry.specs.declared.calling.Caller.{Caller}
use Rattle.sd_rpc_retry.specs.Chain.{Call, CallTold, CallTimedOut, CallFlooded, CallFailed, RowEnd, came, timed_out, flooded, denied, failed, Row}
use Rattle.sd_config.specs.declared.told.Told.{Told}
use Rattle.sd_config.specs.declared.told.Told.TheVariants.{BootUnbuilt, BootTimeout, BootFlood, BootDenied, BootNoPort, BootLinkFault}
use Rattle.sd_claims.specs.Booting.{Place, asks_name, End, no_mount, found_mount, boot_way, answer_of}
use Rattle.sd_boot_chain.specs.declared.root.Unanswered.{Unanswered}

-- ---- one call

-- the machine at this address says what the client is called
abbrev pub Names : ℕ → List ℕ → (List Step → Type 0) → Caller → Call → List Step → Type 0
Names from client settled caller call part = (domain : List ℕ) × (router : ℕ) × CallTold (Ok (answers.Whoami from client domain router)) settled caller call part

-- the file is at the server with this address
abbrev pub Places : ℕ → (List Step → Type 0) → Caller → Call → List Step → Type 0
Places ip settled caller call part = (from : ℕ) × (server : List ℕ) × (path : List ℕ) × CallTold (Ok (answers.Getfile from server ip path)) settled caller call part

-- why a call has no answer; nothing is said of running out of memory
abbrev pub HasNoAnswer : CallError → (List Step → Type 0) → Caller → Call → List Step → Type 0
HasNoAnswer error.Timeout settled caller call part = CallTimedOut settled caller call part
HasNoAnswer error.Flood settled caller call part = CallFlooded settled caller call part
HasNoAnswer (error.Denied code) settled caller call part = CallTold (Err code) settled caller call part
HasNoAnswer error.LinkFault settled caller call part = CallFailed settled caller call part
HasNoAnswer error.NoMemory settled caller call part = Unit {0}

-- what came of a call: an answer that shows this, or none
abbrev pub CallCame : {X : Type 0} → (X → (List Step → Type 0) → Caller → Call → List Step → Type 0) → Caller → Call → Result X Unanswered → History → List Step → Type 0
CallCame shows caller call (Ok x) old part = shows x (IsSettledBy old) caller call part
CallCame shows caller call (Err why) old part = HasNoAnswer why.error (IsSettledBy old) caller call part

-- ---- all calls

-- how the row of calls ended at this step; nothing is said of running out of memory
abbrev pub end_without : Stage → CallError → Option (RowEnd End)
end_without step error.Timeout = Some (timed_out step)
end_without step error.Flood = Some (flooded step)
end_without step (error.Denied code) = Some (denied step code)
end_without step error.LinkFault = Some (failed step)
end_without step error.NoMemory = None

-- with the port that GETPORT told, or at a call that has no answer
abbrev pub end_of : Result ℕ Unanswered → Option (RowEnd End)
end_of (Ok port) = Some (came (if port == 0 then no_mount else found_mount))
end_of (Err why) = end_without why.step why.error

-- From this place and caller on this came of the calls, and who would call next is this.
abbrev pub CallsFrom : Place → Caller → Result ℕ Unanswered → Caller → History → List Step → Type 0
CallsFrom at caller found next old part = IfSome (end_of found) (λ end. Row boot_way CallTold (IsSettledBy old) at caller end next part)

-- from WHOAMI on
abbrev pub CallsCame : Caller → Result ℕ Unanswered → Caller → History → List Step → Type 0
CallsCame caller found next old part = CallsFrom (asks_name caller.ip) caller found next old part

-- ---- the answer

abbrev pub answer_without : Stage → CallError → Result Told NoMemory
answer_without step error.Timeout = Ok (BootTimeout step)
answer_without step error.Flood = Ok (BootFlood step)
answer_without step (error.Denied code) = Ok (BootDenied step code)
answer_without step error.LinkFault = Ok BootLinkFault
answer_without step error.NoMemory = Err record {}

-- the answer to a boot whose program was fetched
abbrev pub answer_to : List ℕ → Result ℕ Unanswered → Result Told NoMemory
answer_to program (Ok port) = if port == 0 then Ok BootNoPort else Ok (BootUnbuilt stage.Mnt program)
answer_to program (Err why) = answer_without why.step why.error

-- The boot was answered so, by what came of its calls, and this is the number of the next call.
pub record IsCallsAnswer (caller : Caller) (program : List ℕ) (answer : Told) (next_xid : ℕ) (old : History) (part : List Step) : Type 0 where
  pub end : RowEnd End
  pub next : Caller
  pub row : Row boot_way CallTold (IsSettledBy old) (asks_name caller.ip) caller end next part
  pub answered : answer ≡ answer_of program end
  pub counted : next_xid ≡ next.next_xid
