-- A row of calls, each of which asks what the answers before it lead to.
use Rattle.std.specs.Prelude.{◌≡◌, ℕ, ◌+◌, List, [], ◌++◌, Ok, Err}
use Rattle.sd_outside.specs.declared.packet.Addr.{Addr}
use Rattle.sd_config.specs.declared.stage.Stage.{Stage}
use Rattle.sd_link.specs.Steps.{Step}
use Rattle.sd_link.specs.Tries.{beyond, Answered, Flooded, TimedOut, Failed}
use Rattle.sd_rpc_retry.specs.declared.calling.Ask.{Ask}
use Rattle.sd_rpc_retry.specs.declared.calling.Answer.{Answer}
use Rattle.sd_rpc_retry.specs.declared.calling.Caller.{Caller}
use Rattle.sd_rpc_retry.specs.Calling.{Verdict, request, hearing_of}

-- ---- one call

-- what is asked, and of whom
pub record Call : Type 0 where
  pub dst : Addr
  pub ask : Ask

-- each call takes one number
abbrev pub after_call : Caller → Caller
after_call caller = record caller { next_xid = caller.next_xid + 1 }

-- what may be said of a part in which this caller made this call
abbrev pub OfCall : Type 1
OfCall = (List Step → Type 0) → Caller → Call → List Step → Type 0

-- The first reply to the call that this caller makes next told this. It has the number of the call, goes to the caller, and
-- comes from the address and port that were called, or after a broadcast from the portmapper of the address that it names.
abbrev pub CallTold : Verdict → OfCall
CallTold verdict settled caller call = Answered settled (request caller call.dst call.ask) (hearing_of caller call.dst call.ask) caller.tries caller.wait verdict

-- all tries waited in vain
abbrev pub CallTimedOut : OfCall
CallTimedOut settled caller call = TimedOut settled (request caller call.dst call.ask) (hearing_of caller call.dst call.ask) caller.tries caller.wait

-- the last try got a flood
abbrev pub CallFlooded : OfCall
CallFlooded settled caller call = Flooded settled (request caller call.dst call.ask) (hearing_of caller call.dst call.ask) caller.tries caller.wait

-- the network failed in one of the tries
abbrev pub CallFailed : OfCall
CallFailed settled caller call = Failed settled (request caller call.dst call.ask) (hearing_of caller call.dst call.ask) caller.tries caller.wait

-- ---- a way

-- Where an answer leads: to a next place, to an end, or nowhere, where it isn't an answer to what was asked.
pub data Lead (P E : Type 0) : Type 0 where
  on : P → Lead P E
  out : E → Lead P E
  nowhere : Lead P E

-- A way from place to place: at each the step that it belongs to, the call that is made, and where its answers lead.
pub record Way (P E : Type 0) : Type 0 where
  pub step : P → Stage
  pub call : P → Call
  pub leads : P → Answer → Lead P E

-- Answered calls lead from one place and caller to another in this part. `told` says what it is that a call was told something.
pub data Leads {P E : Type 0} (way : Way P E) (told : Verdict → OfCall) (settled : List Step → Type 0) (from : P) (first : Caller) : P → Caller → List Step → Type 0 where
  here : Leads way told settled from first from first []
  further : (at next : P) (caller : Caller) (answer : Answer) (before last : List Step) → Leads way told settled from first at caller before
      → told (Ok answer) (beyond settled before) caller (way.call at) last → way.leads at answer ≡ on next → Leads way told settled from first next (after_call caller) (before ++ last)

-- How a row of calls ends: at an end of the way, or at the call of a step that has no answer.
pub data RowEnd (E : Type 0) : Type 0 where
  came : E → RowEnd E
  timed_out : Stage → RowEnd E
  flooded : Stage → RowEnd E
  denied : Stage → ℕ → RowEnd E
  failed : Stage → RowEnd E

-- the call of this place, by this caller, ends the row so
abbrev pub EndsAt : {P E : Type 0} → Way P E → (Verdict → OfCall) → P → RowEnd E → (List Step → Type 0) → Caller → List Step → Type 0
EndsAt way told at (came end) settled caller part = (answer : Answer) × (way.leads at answer ≡ out end) × told (Ok answer) settled caller (way.call at) part
EndsAt way told at (timed_out step) settled caller part = (step ≡ way.step at) × CallTimedOut settled caller (way.call at) part
EndsAt way told at (flooded step) settled caller part = (step ≡ way.step at) × CallFlooded settled caller (way.call at) part
EndsAt way told at (denied step code) settled caller part = (step ≡ way.step at) × told (Err code) settled caller (way.call at) part
EndsAt way told at (failed step) settled caller part = (step ≡ way.step at) × CallFailed settled caller (way.call at) part

-- From this place and caller on the row of calls ended so, and who would call next is this.
pub record Row {P E : Type 0} (way : Way P E) (told : Verdict → OfCall) (settled : List Step → Type 0) (from : P) (first : Caller) (end : RowEnd E) (next : Caller) (part : List Step) : Type 0 where
  pub at : P
  pub caller : Caller
  pub before : List Step
  pub last : List Step
  pub leads : Leads way told settled from first at caller before
  pub ends : EndsAt way told at end (beyond settled before) caller last
  pub next_is : next ≡ after_call caller
  pub cut : part ≡ before ++ last
