-- What came of the calls that follow the boot program.
use Rattle.std.proofs.Common.{◌≡◌, ℕ, ◌==◌, Bool, true, false, cond, List, ◌++◌, Option, Some, None, Result, Ok, Err, refl, sym, ◌∙◌, ap, subst}
use Rattle.std.specs.Prelude.{IfOk, IfSome}
use Rattle.sd_outside.specs.declared.packet.Addr.{Addr}
use Rattle.sd_config.specs.declared.stage.Stage.{Stage}
use Rattle.sd_config.specs.declared.stage.Stage.TheVariants as stage
use Rattle.sd_config.specs.declared.told.Told.{Told}
use Rattle.sd_config.specs.declared.told.Told.TheVariants.{BootUnbuilt, BootTimeout, BootFlood, BootDenied, BootNoPort, BootLinkFault}
use Rattle.sd_outside.specs.declared.errors.NoMemory.{NoMemory}
use Rattle.sd_link.specs.Steps.{Step, History}
use Rattle.sd_link.specs.Link.{Moves, GoesOn, IsSettledBy}
use Rattle.sd_link.proofs.Histories.{moves_weaker, moves_then}
use Rattle.sd_rpc_retry.specs.declared.calling.Ask.{Ask}
use Rattle.sd_rpc_retry.specs.declared.calling.Answer.{Answer}
use Rattle.sd_rpc_retry.specs.declared.calling.Answer.TheVariants as answers
use Rattle.sd_rpc_retry.specs.declared.calling.CallError.{CallError}
use Rattle.sd_rpc_retry.specs.declared.calling.CallError.TheVariants as error
use Rattle.sd_rpc_retry.specs.declared.calling.Caller.{Caller}
use Rattle.sd_rpc_retry.specs.Lasting.{Lasts, most_asking_ticks}
use Rattle.sd_rpc_retry.specs.declared.question.Named.{Named}
use Rattle.sd_rpc_retry.specs.declared.question.Located.{Located}
use Rattle.sd_rpc_retry.specs.Calling.{named, located}
use Rattle.sd_rpc_retry.specs.Calls.{asked_as, CameOf}
use Rattle.sd_rpc_retry.specs.Chain.{Call, CallTold, after_call, on, RowEnd, came, timed_out, flooded, denied, failed, Row}
use Rattle.sd_rpc_retry.proofs.Settling.{settled-beyond}
use Rattle.sd_rpc_retry.proofs.Rows.{row_then, row_here}
use Rattle.sd_claims.specs.Booting.{Place, asks_name, asks_mount, End, no_mount, found_mount, step_at, call_at, leads_at, boot_way, getport_call, answer_of}
use Rattle.sd_boot_chain.specs.declared.root.Unanswered.{Unanswered}
use Rattle.sd_boot_chain.specs.Root.{Names, Places, HasNoAnswer, end_without, end_of, CallsFrom, CallsCame, answer_without, answer_to, IsCallsAnswer}

abbrev asks : Addr → Ask → Call
asks dst what = record { dst = dst; ask = what }

-- a call has no answer
pub no_answer : {T : Type 0} (shown : T → Answer) (old new : Option History) (caller : Caller) (dst : Addr) (what : Ask) (why : CallError) → IfOk (asked_as {T = T} (Err why)) (λ told. Moves old new (CameOf caller dst what shown told))
    → Lasts most_asking_ticks old new → Moves old new (λ h part. HasNoAnswer why (IsSettledBy h) caller (asks dst what) part)
no_answer shown old new caller dst what error.Timeout m lasts = moves_weaker old new _ _ (λ h part k. k.came) m
no_answer shown old new caller dst what error.Flood m lasts = moves_weaker old new _ _ (λ h part k. k.came) m
no_answer shown old new caller dst what (error.Denied code) m lasts = moves_weaker old new _ _ (λ h part k. k.came) m
no_answer shown old new caller dst what error.LinkFault m lasts = moves_weaker old new _ _ (λ h part k. k.came) m
no_answer shown old new caller dst what error.NoMemory m lasts = moves_weaker old new _ _ (λ h part k. tt) lasts

-- an answer to a call, in the words of the definitions
told_at : (old new : Option History) (caller : Caller) (from dst : Addr) (what : Ask) (told : Answer) → from ≡ dst
    → Moves old new (λ h part. CallTold (Ok told) (IsSettledBy h) caller (asks from what) part) → Moves old new (λ h part. CallTold (Ok told) (IsSettledBy h) caller (asks dst what) part)
told_at old new caller from dst what told there m = subst (λ (a : Addr). Moves old new (λ h part. CallTold (Ok told) (IsSettledBy h) caller (asks a what) part)) there m

pub named_by : (old new : Option History) (caller : Caller) (at dst : Addr) (what : Ask) (told : Named) → at ≡ dst
    → Moves old new (λ h part. CallTold (Ok (named told)) (IsSettledBy h) caller (asks at what) part) → Moves old new (λ h part. Names told.from told.client (IsSettledBy h) caller (asks dst what) part)
named_by old new caller at dst what told there m = moves_weaker old new _ _ (λ h part k. (told.domain, told.router, k)) (told_at old new caller at dst what (named told) there m)

pub placed_by : (old new : Option History) (caller : Caller) (at dst : Addr) (what : Ask) (told : Located) → at ≡ dst
    → Moves old new (λ h part. CallTold (Ok (located told)) (IsSettledBy h) caller (asks at what) part) → Moves old new (λ h part. Places told.ip (IsSettledBy h) caller (asks dst what) part)
placed_by old new caller at dst what told there m = moves_weaker old new _ _ (λ h part k. (told.from, told.server, told.path, k)) (told_at old new caller at dst what (located told) there m)

-- ---- the calls of a boot

-- a call without an answer ends the row
ends_without : (why : CallError) (step : Stage) (at : Place) (caller : Caller) (settled : List Step → Type 0) (part : List Step) → step ≡ step_at at → HasNoAnswer why settled caller (call_at at) part
    → IfSome (end_without step why) (λ end. Row boot_way CallTold settled at caller end (after_call caller) part)
ends_without error.Timeout step at caller settled part is k = row_here boot_way CallTold settled at caller (timed_out step) part (is, k)
ends_without error.Flood step at caller settled part is k = row_here boot_way CallTold settled at caller (flooded step) part (is, k)
ends_without (error.Denied code) step at caller settled part is k = row_here boot_way CallTold settled at caller (denied step code) part (is, k)
ends_without error.LinkFault step at caller settled part is k = row_here boot_way CallTold settled at caller (failed step) part (is, k)
ends_without error.NoMemory step at caller settled part is k = tt

pub stops_at : (old new : Option History) (at : Place) (caller next : Caller) (found : Result ℕ Unanswered) (why : Unanswered) → found ≡ Err why → why.step ≡ step_at at → next ≡ after_call caller
    → Moves old new (λ h part. HasNoAnswer why.error (IsSettledBy h) caller (call_at at) part) → Moves old new (CallsFrom at caller found next)
stops_at old new at caller next found why is step counted m =
    subst (λ (r : Result ℕ Unanswered). Moves old new (CallsFrom at caller r next)) (sym is)
    (subst (λ (c : Caller). Moves old new (CallsFrom at caller (Err why) c)) (sym counted)
    (moves_weaker old new (λ h part. HasNoAnswer why.error (IsSettledBy h) caller (call_at at) part) (CallsFrom at caller (Err why) (after_call caller))
    (λ h part k. ends_without why.error why.step at caller (IsSettledBy h) part step k) m))

-- GETPORT was answered
pub ends_with_port : (old new : Option History) (server : ℕ) (caller next : Caller) (port : ℕ) → next ≡ after_call caller → Moves old new (λ h part. CallTold (Ok (answers.Port port)) (IsSettledBy h) caller (getport_call server) part)
    → Moves old new (CallsFrom (asks_mount server) caller (Ok port) next)
ends_with_port old new server caller next port counted m =
    subst (λ (c : Caller). Moves old new (CallsFrom (asks_mount server) caller (Ok port) c)) (sym counted)
    (moves_weaker old new (λ h part. CallTold (Ok (answers.Port port)) (IsSettledBy h) caller (getport_call server) part) (CallsFrom (asks_mount server) caller (Ok port) (after_call caller))
    (λ h part k. row_here boot_way CallTold (IsSettledBy h) (asks_mount server) caller _ part (answers.Port port, refl, k)) m)

-- what the call of a place was told, and where it leads
abbrev pub LeadsTo : Place → Place → Caller → History → List Step → Type 0
LeadsTo at next caller h part = (answer : Answer) × (leads_at at answer ≡ on next) × CallTold (Ok answer) (IsSettledBy h) caller (call_at at) part

row_more : (a b : History) (xs ys : List Step) (at to : Place) (caller last : Caller) (o : Option (RowEnd End)) → GoesOn a b xs → LeadsTo at to caller a xs → IfSome o (λ end. Row boot_way CallTold (IsSettledBy b) to (after_call caller) end last ys)
    → IfSome o (λ end. Row boot_way CallTold (IsSettledBy a) at caller end last (xs ++ ys))
row_more a b xs ys at to caller last None goes k m = tt
row_more a b xs ys at to caller last (Some end) goes k m =
    row_then boot_way CallTold (IsSettledBy a) at to caller last k.0 end xs ys k.2 k.1
    (subst (λ (still : List Step → Type 0). Row boot_way CallTold still to (after_call caller) end last ys) (settled-beyond a b xs goes) m)

-- the call of a place was answered, and then this came of those that follow
pub after_answer : (old mid new : Option History) (at to : Place) (caller next last : Caller) (found : Result ℕ Unanswered) (P : History → List Step → Type 0) → next ≡ after_call caller → ((h : History) (part : List Step) → P h part → LeadsTo at to caller h part)
    → Moves old mid P → Moves mid new (CallsFrom to next found last) → Moves old new (CallsFrom at caller found last)
after_answer old mid new at to caller next last found P counted so first second =
    moves_then old mid new P (CallsFrom to (after_call caller) found last) (CallsFrom at caller found last)
    (λ a b xs ys goes k m. row_more a b xs ys at to caller last (end_of found) goes (so a xs k) m)
    first (subst (λ (c : Caller). Moves mid new (CallsFrom to c found last)) counted second)

-- ---- the answer

ended_by : (old new : Option History) (caller next : Caller) (program : List ℕ) (answer : Told) (end : RowEnd End) → answer ≡ answer_of program end → Moves old new (λ h part. Row boot_way CallTold (IsSettledBy h) (asks_name caller.ip) caller end next part)
    → Moves old new (IsCallsAnswer caller program answer next.next_xid)
ended_by old new caller next program answer end is m =
    moves_weaker old new (λ h part. Row boot_way CallTold (IsSettledBy h) (asks_name caller.ip) caller end next part) (IsCallsAnswer caller program answer next.next_xid)
    (λ h part r. record { end = end; next = next; row = r; answered = is; counted = refl }) m

abbrev Answers : Option History → Option History → Caller → Caller → List ℕ → Result Told NoMemory → Type 0
Answers old new caller next program r = IfOk r (λ answer. Moves old new (IsCallsAnswer caller program answer next.next_xid))

by_port : (old new : Option History) (caller next : Caller) (program : List ℕ) (b : Bool) → Moves old new (λ h part. Row boot_way CallTold (IsSettledBy h) (asks_name caller.ip) caller (came (cond b no_mount found_mount)) next part)
    → Answers old new caller next program (cond b (Ok BootNoPort) (Ok (BootUnbuilt stage.Mnt program)))
by_port old new caller next program true m = ended_by old new caller next program BootNoPort (came no_mount) refl m
by_port old new caller next program false m = ended_by old new caller next program (BootUnbuilt stage.Mnt program) (came found_mount) refl m

by_error : (old new : Option History) (caller next : Caller) (program : List ℕ) (step : Stage) (why : CallError) → Moves old new (λ h part. IfSome (end_without step why) (λ end. Row boot_way CallTold (IsSettledBy h) (asks_name caller.ip) caller end next part))
    → Answers old new caller next program (answer_without step why)
by_error old new caller next program step error.Timeout m = ended_by old new caller next program (BootTimeout step) (timed_out step) refl m
by_error old new caller next program step error.Flood m = ended_by old new caller next program (BootFlood step) (flooded step) refl m
by_error old new caller next program step (error.Denied code) m = ended_by old new caller next program (BootDenied step code) (denied step code) refl m
by_error old new caller next program step error.LinkFault m = ended_by old new caller next program BootLinkFault (failed step) refl m
by_error old new caller next program step error.NoMemory m = tt

-- what came of the calls gives the answer
pub calls_answer : (old new : Option History) (caller next : Caller) (program : List ℕ) (found : Result ℕ Unanswered) → Moves old new (CallsCame caller found next) → Answers old new caller next program (answer_to program found)
calls_answer old new caller next program (Ok port) m = by_port old new caller next program (port == 0) m
calls_answer old new caller next program (Err why) m = by_error old new caller next program why.step why.error m
