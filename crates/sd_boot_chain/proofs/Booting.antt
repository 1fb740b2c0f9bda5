-- What a boot was answered, and what came before.
use Rattle.std.proofs.Common.{◌≡◌, ℕ, ◌+◌, ◌%◌, ◌<◌, ◌==◌, Bool, true, false, cond, List, [], ◌++◌, Option, Some, None, Result, Ok, Err, refl, sym, ◌∙◌, ap, subst, arith, add-zero, append_assoc}
use Rattle.std.specs.Prelude.{◌≤◌, ◌^◌, IfOk, IfSome}
use Rattle.std.proofs.lemmas.List.{append_cancel_left}
use Rattle.sd_outside.specs.declared.errors.NoMemory.{NoMemory}
use Rattle.sd_outside.specs.declared.packet.Addr.{Addr}
use Rattle.sd_config.specs.declared.config.Config.{Config}
use Rattle.sd_config.specs.declared.stage.Stage.TheVariants as stage
use Rattle.sd_config.specs.Config.{IsFor}
use Rattle.sd_config.specs.Program.{program_name}
use Rattle.sd_link.specs.Parts.{ticks_in, fails_in}
use Rattle.sd_link.specs.Steps.{Step, History, IsLawfulSoFar}
use Rattle.sd_link.specs.Link.{GoesOn, Moves, IsSettledBy}
use Rattle.sd_link.specs.Tries.{beyond}
use Rattle.sd_link.proofs.Histories.{moves_then, moves_weaker, goes_then}
use Rattle.sd_config.specs.declared.command.Command.{Command}
use Rattle.sd_config.specs.declared.command.Command.TheVariants as commands
use Rattle.sd_config.specs.declared.told.Told.{Told}
use Rattle.sd_config.specs.declared.told.Told.TheVariants.{BootUnbuilt, BootTimeout, BootFlood, BootDenied, BootRefused, BootNoPort, BootTooLarge, BootLinkFault}
use Rattle.sd_claims.specs.Rarp.{Learned}
use Rattle.sd_claims.specs.Fetching.{Fetch, Fetched, FetchTimedOut, FetchFlooded, FetchFailed, FetchRefused, FetchTooLarge}
use Rattle.sd_rpc_retry.specs.Chain.{RowEnd, came as arrived, timed_out, flooded, denied, failed, Row}
use Rattle.sd_claims.specs.Booting.{Counts, LearnsAddress, OfFetch, End, no_mount, found_mount, ServerTold, asks_name, boot_way, answer_of, boot_fetch, caller_after}
use Rattle.sd_claims.specs.Causes.{Cause, boot_timeout_rarp, boot_flood_rarp, boot_linkfault_rarp, boot_timeout_tftp, boot_flood_tftp, boot_linkfault_tftp, boot_refused, boot_too_large, boot_calls, after_fetch, faults_told}
use Rattle.sd_claims.specs.Ending.{EndsAfter}
use Rattle.sd_rpc_retry.specs.declared.asking.Asked.TheVariants.{Answer}
use Rattle.sd_rpc_retry.specs.declared.calling.Caller.{Caller}
use Rattle.sd_rpc_retry.specs.Lasting.{Lasts, Fails}
use Rattle.sd_rpc_retry.proofs.Settling.{settled-beyond}
use Rattle.sd_boot_chain.specs.Address.{shows_learned, IsAddrAnswer}
use Rattle.sd_boot_chain.specs.Pause.{IsWaitAnswer}
use Rattle.sd_boot_chain.specs.declared.address.Learned as code
use Rattle.sd_boot_chain.specs.Replies.{AllComeRight}
use Rattle.sd_boot_chain.proofs.Replying.{moves_right, first_right, second_right, names_server, row_right}
use Rattle.sd_boot_chain.proofs.Addressing.{AsksAddress, told_address}
use Rattle.sd_boot_chain.specs.Failing.{told_fails}
use Rattle.sd_boot_chain.specs.Boot.{task_of, caller_of, IsBootAnswer}
use Rattle.sd_boot_chain.specs.Fetch.{CameOf}
use Rattle.sd_boot_chain.specs.declared.fetch.Fetched.TheVariants as came
use Rattle.sd_boot_chain.specs.Root.{IsCallsAnswer}
use Rattle.sd_boot_chain.specs.Step.{ClientView, HasCounted, IsDone}

-- ---- the fetch of a boot

abbrev made : Addr → ℕ → List ℕ → ℕ → ℕ → Fetch
made me server name tries wait = record { me = me; server = server; name = name; tries = tries; wait = wait }

abbrev at_port : ℕ → ℕ → Addr
at_port ip port = record { ip = ip; port = port }

-- what the client asks for is what the configuration says
pub task_is : (c : Config) (client : ClientView) (boots : ℕ) (learned : Learned) → IsFor c client.config → client.boots ≡ boots % 32768 → task_of client learned ≡ boot_fetch c boots learned
task_is c client boots learned is counted =
    ap (λ (n : ℕ). made (at_port learned.address (2048 + n)) learned.responder (program_name client.config.arch learned.address) client.config.tries client.config.wait) counted
    ∙ ap (λ (a : List ℕ). made (at_port learned.address (2048 + boots % 32768)) learned.responder (program_name a learned.address) client.config.tries client.config.wait) is.arch
    ∙ ap (λ (t : ℕ). made (at_port learned.address (2048 + boots % 32768)) learned.responder (program_name c.arch learned.address) t client.config.wait) is.tries
    ∙ ap (λ (w : ℕ). made (at_port learned.address (2048 + boots % 32768)) learned.responder (program_name c.arch learned.address) c.tries w) is.wait

-- who calls next is the caller of the definitions
caller_is : (c : Config) (client : ClientView) (n : Counts) (learned : Learned) → IsFor c client.config → client.next_xid ≡ n.next_xid → caller_of client learned.address ≡ caller_after (boot_fetch c n.boots learned) n.next_xid
caller_is c client n learned is counted = λ i. calls_at_port learned.address (counted i) (is.tries i) (is.wait i)
  where
    calls_at_port : ℕ → ℕ → ℕ → ℕ → Caller
    calls_at_port ip xid tries wait = record { ip = ip; port = 1021; machine = []; next_xid = xid; tries = tries; wait = wait }

-- two facts of one part
moves_both : (old new : Option History) (P Q : History → List Step → Type 0) → Moves old new P → Moves old new Q → Moves old new (λ h part. P h part × Q h part)
moves_both None None P Q p q = tt
moves_both None (Some new) P Q p q = absurd p
moves_both (Some old) None P Q p q = absurd p
moves_both (Some old) (Some new) P Q p q = (p.0, p.1, (p.2, subst (λ (l : List Step). Q old l) (append_cancel_left old.steps q.0 p.0 (sym q.1.steps ∙ p.1.steps)) q.2))

-- ---- how a command is done

-- an answer has its cause, but that the part is brief and how often the link failed isn't said yet
abbrev pub IsDoneSo : ClientView → Command → Told → ClientView → History → List Step → Type 0
IsDoneSo client command answer next old part =
    IsFor old.config client.config → (n : Counts) → HasCounted client n → (counts : Counts) × Cause (IsSettledBy old) old.config n command answer counts part × EndsAfter old answer part × HasCounted next counts

pub done_briefly : (old new : Option History) (client : ClientView) (command : Command) (answer : Told) (next : ClientView) (most : ℕ) → most < 2 ^ 34 → Lasts most old new → Fails (faults_told answer) old new
    → Moves old new (IsDoneSo client command answer next) → Moves old new (IsDone client command answer next)
done_briefly old new client command answer next most few lasts fails m =
    moves_weaker old new (λ h part. (IsDoneSo client command answer next h part × (ticks_in part ≤ most)) × (fails_in part ≡ faults_told answer)) (IsDone client command answer next)
    (λ h part k is_for n counted. let d = k.0.0 is_for n counted in (d.0, record { caused = record { cause = d.1; fails = k.1; brief = omega (arith, k.0.1, few) }; ended = d.2 }, d.3))
    (moves_both old new (λ h part. IsDoneSo client command answer next h part × (ticks_in part ≤ most)) (λ h part. fails_in part ≡ faults_told answer)
    (moves_both old new (IsDoneSo client command answer next) (λ h part. ticks_in part ≤ most) m lasts) fails)

-- the same of a result
pub fails_ok : (old new : Option History) (r : Result Told NoMemory) → Fails (told_fails r) old new → IfOk r (λ answer. Fails (faults_told answer) old new)
fails_ok old new (Ok answer) fails = fails
fails_ok old new (Err none) fails = tt

pub all_done : (old new : Option History) (client : ClientView) (command : Command) (next : ClientView) (r : Result Told NoMemory) (most : ℕ) → most < 2 ^ 34 → Lasts most old new → Fails (told_fails r) old new
    → IfOk r (λ answer. Moves old new (IsDoneSo client command answer next)) → IfOk r (λ answer. Moves old new (IsDone client command answer next))
all_done old new client command next (Ok answer) most few lasts fails m = done_briefly old new client command answer next most few lasts fails m
all_done old new client command next (Err none) most few lasts fails m = tt

-- nothing is said of how a boot ends
calls_end : (program : List ℕ) (end : RowEnd End) (answer : Told) (h : History) (part : List Step) → answer ≡ answer_of program end → EndsAfter h answer part
calls_end program end answer h part is = subst (λ (a : Told). EndsAfter h a part) (sym is) (by_end program end h part)
  where
    by_end : (program : List ℕ) (end : RowEnd End) (h : History) (part : List Step) → EndsAfter h (answer_of program end) part
    by_end program (arrived no_mount) h part = tt
    by_end program (arrived found_mount) h part = tt
    by_end program (timed_out step) h part = tt
    by_end program (flooded step) h part = tt
    by_end program (denied step code) h part = tt
    by_end program (failed step) h part = tt

boot_ends : (n next : Counts) (answer : Told) (h : History) (part : List Step) → Cause (IsSettledBy h) h.config n commands.Boot answer next part → EndsAfter h answer part
boot_ends n _ _ h part (boot_timeout_rarp _ k) = tt
boot_ends n _ _ h part (boot_flood_rarp _ k) = tt
boot_ends n _ _ h part (boot_linkfault_rarp _ k) = tt
boot_ends n _ _ h part (boot_timeout_tftp _ k) = tt
boot_ends n _ _ h part (boot_flood_tftp _ k) = tt
boot_ends n _ _ h part (boot_linkfault_tftp _ k) = tt
boot_ends n _ _ h part (boot_refused code _ k) = tt
boot_ends n _ _ h part (boot_too_large size _ k) = tt
boot_ends n _ answer h part (boot_calls program end _ _ _ is k) = calls_end program end answer h part is

-- ---- a boot, done

counted_on : (n boots : ℕ) → n ≡ boots % 32768 → (n + 1) % 32768 ≡ (boots + 1) % 32768
counted_on n boots is = omega (arith, is)

-- the program was fetched, and the calls ended the boot
pub calls_ended : (client mid next : ClientView) (learned : Learned) (program : List ℕ) (answer : Told) → mid.config ≡ client.config → mid.boots ≡ (client.boots + 1) % 32768 → mid.next_xid ≡ client.next_xid → next.boots ≡ mid.boots
    → (a b : History) (fs cs : List Step) → GoesOn a b fs → Fetched (IsSettledBy a) (task_of client learned) program fs → IsCallsAnswer (caller_of mid learned.address) program answer next.next_xid b cs
    → IsBootAnswer client learned answer next a (fs ++ cs)
calls_ended client mid next learned program answer config boots xid same a b fs cs goes k calls first address going is_for n counted told right =
    let c = first.config in
    let f = boot_fetch c n.boots learned in
    let fetched =
    subst (λ (still : List Step → Type 0). Fetched still f program fs) (settled-beyond first a address going)
    (subst (λ (f : Fetch). Fetched (IsSettledBy a) f program fs) (task_is c client n.boots learned is_for counted.0) k) in
    let is_caller = caller_is c mid n learned (subst (IsFor c) (sym config) is_for) (xid ∙ counted.1) in
    let row = row_right c (IsSettledBy b) (asks_name learned.address) (caller_of mid learned.address) calls.next calls.end cs (second_right c fs cs (second_right c address (fs ++ cs) right)) calls.row in
    let on_from = settled-beyond first b (address ++ fs) (goes_then first a b address fs going goes) in
    let counts : Counts = record { boots = n.boots + 1; next_xid = calls.next.next_xid } in (
      counts,
      boot_calls program calls.end answer counts (address ++ (fs ++ cs)) calls.answered
          (record {
            learned = learned;
            address = address;
            fetch = fs;
            calls = cs;
            last = calls.next;
            told = told;
            named = names_server c learned address told (first_right c address (fs ++ cs) right);
            fetched = fetched;
            row =
                subst (λ (u : Caller). Row boot_way (ServerTold c) (beyond (IsSettledBy first) (address ++ fs)) (asks_name learned.address) u calls.end calls.next cs) is_caller
                (subst (λ (still : List Step → Type 0). Row boot_way (ServerTold c) still (asks_name learned.address) (caller_of mid learned.address) calls.end calls.next cs) on_from row);
            next_is = refl;
            cut = refl;
          }),
      (same ∙ boots ∙ counted_on client.boots n.boots counted.0, calls.counted),
    )

-- over a link
pub program_answer : {E : Type 0} (client mid next : ClientView) (learned : Learned) (program : List ℕ) (old middle new : Option History) (r : Result Told E) → mid.config ≡ client.config → mid.boots ≡ (client.boots + 1) % 32768 → mid.next_xid ≡ client.next_xid
    → next.boots ≡ mid.boots → Moves old middle (CameOf (task_of client learned) (came.File program))
    → IfOk r (λ answer. Moves middle new (IsCallsAnswer (caller_of mid learned.address) program answer next.next_xid)) → IfOk r (λ answer. Moves old new (IsBootAnswer client learned answer next))
program_answer client mid next learned program old middle new (Err e) config boots xid same first second = tt
program_answer client mid next learned program old middle new (Ok answer) config boots xid same first second =
    let f = task_of client learned in
    moves_then old middle new (CameOf f (came.File program)) (IsCallsAnswer (caller_of mid learned.address) program answer next.next_xid) (IsBootAnswer client learned answer next)
    (λ a b xs ys goes k m. calls_ended client mid next learned program answer config boots xid same a b xs ys goes k m) first second

-- the boot is done so where what comes in the part is right
abbrev IsDoneWhereRight : ClientView → Told → ClientView → History → List Step → Type 0
IsDoneWhereRight client answer next h part = AllComeRight h.config part → IsDoneSo client commands.Boot answer next h part

-- the address was told first
pub boot_answer : {E : Type 0} (client next : ClientView) (learned : code.Learned) (old mid new : Option History) (r : Result Told E) (most : ℕ) → most < 2 ^ 34 → Lasts most old new → IfOk r (λ answer. Fails (faults_told answer) old new) → IfSome old IsLawfulSoFar
    → Moves old mid (AsksAddress client.config (Answer learned))
    → IfOk r (λ answer. Moves mid new (IsBootAnswer client (shows_learned learned) answer next))
    → IfOk r (λ answer. Moves old new (IsDone client commands.Boot answer next))
boot_answer client next learned old mid new (Err e) most few lasts fails lawful first second = tt
boot_answer client next learned old mid new (Ok answer) most few lasts fails lawful first second =
    done_briefly old new client commands.Boot answer next most few lasts fails
    (moves_weaker old new (λ h part. AllComeRight h.config part × IsDoneWhereRight client answer next h part) (IsDoneSo client commands.Boot answer next)
    (λ h part k is_for n counted. k.1 k.0 is_for n counted)
    (moves_right old new (IsDoneWhereRight client answer next) lawful
    (moves_then old mid new (AsksAddress client.config (Answer learned)) (IsBootAnswer client (shows_learned learned) answer next) (IsDoneWhereRight client answer next)
    (λ a b xs ys goes k f right is_for n counted.
    let r = f a xs goes is_for n counted (told_address client.config a xs is_for learned k) right in
    (r.0, r.1, boot_ends n r.0 answer a (xs ++ ys) r.1, r.2))
    first second)))

-- the address wasn't learned
pub boot_unheard : (client : ClientView) (answer : Told) (a : History) (part : List Step) → (IsFor a.config client.config → (n : Counts) → Cause (IsSettledBy a) a.config n commands.Boot answer n part)
    → IsDoneSo client commands.Boot answer client a part
boot_unheard client answer a part caused is_for n counted =
    let c = caused is_for n in
    (n, c, boot_ends n n answer a part c, counted)

-- a fetch without a program
unfetched : (client next : ClientView) (learned : Learned) (answer : Told) (old new : Option History) (what : (List Step → Type 0) → Fetch → List Step → Type 0) → next.boots ≡ (client.boots + 1) % 32768 → next.next_xid ≡ client.next_xid
    → ((settled : List Step → Type 0) (c : Config) (n : Counts) (part : List Step) → OfFetch settled c n what part → Cause settled c n commands.Boot answer (after_fetch n) part)
    → Moves old new (λ h part. what (IsSettledBy h) (task_of client learned) part) → Moves old new (IsBootAnswer client learned answer next)
unfetched client next learned answer old new what boots xid row m =
    moves_weaker old new (λ h part. what (IsSettledBy h) (task_of client learned) part) (IsBootAnswer client learned answer next)
    (λ h part p first address going is_for n counted told right.
    let of : OfFetch (IsSettledBy first) first.config n what (address ++ part) = record {
      learned = learned;
      address = address;
      last = part;
      told = told;
      named = names_server first.config learned address told (first_right first.config address part right);
      came_of =
          subst (λ (still : List Step → Type 0). what still (boot_fetch first.config n.boots learned) part) (settled-beyond first h address going)
          (subst (λ (f : Fetch). what (IsSettledBy h) f part) (task_is first.config client n.boots learned is_for counted.0) p);
      cut = refl;
    } in
    (after_fetch n, row (IsSettledBy first) first.config n (address ++ part) of, (boots ∙ counted_on client.boots n.boots counted.0, xid ∙ counted.1)))
    m

module _ (client next : ClientView) (learned : Learned) (old new : Option History) (boots : next.boots ≡ (client.boots + 1) % 32768) (xid : next.next_xid ≡ client.next_xid) where
  pub fetch_timeout : Moves old new (CameOf (task_of client learned) came.Timeout) → Moves old new (IsBootAnswer client learned (BootTimeout stage.Tftp) next)
  fetch_timeout m = unfetched client next learned (BootTimeout stage.Tftp) old new FetchTimedOut boots xid (λ settled c n part h. boot_timeout_tftp part h) m

  pub fetch_flood : Moves old new (CameOf (task_of client learned) came.Flood) → Moves old new (IsBootAnswer client learned (BootFlood stage.Tftp) next)
  fetch_flood m = unfetched client next learned (BootFlood stage.Tftp) old new FetchFlooded boots xid (λ settled c n part h. boot_flood_tftp part h) m

  pub fetch_refused : (code : ℕ) → Moves old new (CameOf (task_of client learned) (came.Refused code)) → Moves old new (IsBootAnswer client learned (BootRefused stage.Tftp code) next)
  fetch_refused code m = unfetched client next learned (BootRefused stage.Tftp code) old new (FetchRefused code) boots xid (λ settled c n part h. boot_refused code part h) m

  pub fetch_large : (size : ℕ) → Moves old new (CameOf (task_of client learned) (came.TooLarge size)) → Moves old new (IsBootAnswer client learned (BootTooLarge size) next)
  fetch_large size m = unfetched client next learned (BootTooLarge size) old new (FetchTooLarge size) boots xid (λ settled c n part h. boot_too_large size part h) m

  pub fetch_failed : Moves old new (CameOf (task_of client learned) came.Fault) → Moves old new (IsBootAnswer client learned BootLinkFault next)
  fetch_failed m = unfetched client next learned BootLinkFault old new FetchFailed boots xid (λ settled c n part h. boot_linkfault_tftp part h) m

-- ---- an address, and a pause, done

pub addr_done : (client : ClientView) (answer : Told) (h : History) (part : List Step) → IsAddrAnswer client.config answer h part → IsDoneSo client commands.Addr answer client h part
addr_done client answer h part caused is_for n counted =
    let c = caused is_for in
    (n, c.0 n, c.1, counted)

pub wait_done : (client : ClientView) (ticks : ℕ) (answer : Told) (h : History) (part : List Step) → IsWaitAnswer ticks answer h part → IsDoneSo client (commands.Wait ticks) answer client h part
wait_done client ticks answer h part c is_for n counted = (n, c.0 n, c.1, counted)
