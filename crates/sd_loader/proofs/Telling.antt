-- What is told over a link, call after call.
use Rattle.std.proofs.Common.{◌≡◌, ℕ, ◌+◌, ◌-◌, ◌<◌, ◌≤◌, ◌^◌, List, length, Option, Some, None, Result, Ok, Err, refl, sym, ◌∙◌, ap, subst, arith}
use Rattle.std.specs.Prelude.{IfOk}
use Rattle.sd_outside.specs.declared.packet.Addr.{Addr}
use Rattle.sd_config.specs.declared.config.Config.{Config}
use Rattle.sd_config.specs.declared.stage.Stage.{Stage}
use Rattle.sd_config.specs.Config.{IsConfig}
use Rattle.sd_link.specs.World.{World, start}
use Rattle.sd_link.specs.Steps.{Step, History, AllAllowed, IsLawfulSoFar, world_of, run}
use Rattle.sd_link.specs.Link.{GoesOn, Moves, IsSettledBy}
use Rattle.sd_link.proofs.Histories.{run-append, allowed-append, world-goes, moves_not, moves_weaker, moves_then}
use Rattle.sd_rpc_retry.specs.declared.asking.Asked.TheVariants as asked
use Rattle.sd_rpc_retry.specs.declared.calling.Ask.{Ask}
use Rattle.sd_rpc_retry.specs.declared.calling.Answer.{Answer}
use Rattle.sd_rpc_retry.specs.declared.calling.Caller.{Caller}
use Rattle.sd_rpc_retry.specs.declared.calling.CallError.{CallError}
use Rattle.sd_rpc_retry.specs.declared.calling.CallError.TheVariants as error
use Rattle.sd_link.specs.Parts.{ticks_in}
use Rattle.sd_rpc_retry.specs.Sending.{asked_fails}
use Rattle.sd_rpc_retry.specs.Lasting.{Lasts, Fails, most_asking_ticks}
use Rattle.sd_rpc_retry.specs.Calling.{home}
use Rattle.sd_rpc_retry.specs.Calls.{asked_as, CameOf}
use Rattle.sd_loader.specs.declared.errors.LoadError.{LoadError}
use Rattle.sd_loader.specs.declared.errors.LoadError.TheVariants.{Call}
use Rattle.sd_loader.specs.Fresh.{XidsBelow}
use Rattle.sd_loader.specs.Trust.{MayTrust, Trusted}
use Rattle.sd_loader.specs.Served.{IsServers}
use Rattle.sd_loader.specs.Causes.{CallCame}
use Rattle.sd_loader.specs.Went.{Went, load_fails}
use Rattle.sd_loader.proofs.Composing.{moves_both}
use Rattle.sd_loader.proofs.Told.{told}

-- with what is known of the histories
moves_knowing : (old new : Option History) (P Q : History → List Step → Type 0) → ((a b : History) (part : List Step) → GoesOn a b part → P a part → Q a part) → Moves old new P → Moves old new Q
moves_knowing None None P Q f m = tt
moves_knowing (Some a) (Some b) P Q f (part, goes, p) = (part, goes, f a b part goes p)
moves_knowing None (Some b) P Q f m = absurd m
moves_knowing (Some a) None P Q f m = absurd m

-- ---- one call

-- what came of a call, as what came of a step
abbrev pub of_step : {T : Type 0} → Stage → Result T CallError → Result T LoadError
of_step step (Ok told) = Ok told
of_step step (Err why) = Err (Call step why)

-- a call takes as long as its tries at most
abbrev Brief : History → List Step → Type 0
Brief h part = ticks_in part ≤ most_asking_ticks

-- what came of a call, and how often the network failed in it
pub call_went : {T : Type 0} (old new : Option History) (step : Stage) (caller : Caller) (dst : Addr) (what : Ask) (shown : T → Answer) (r : Result T CallError) (next : ℕ) → next ≡ caller.next_xid + 1
    → IfOk (asked_as r) (λ came. Moves old new (CameOf caller dst what shown came)) → Lasts most_asking_ticks old new → Fails (asked_fails (asked_as r)) old new
    → Moves old new (Went (CallCame step caller dst what shown (of_step step r)) (load_fails (of_step step r)) caller.next_xid next)
call_went {T} old new step caller dst what shown r next counted m lasts fails = of r m fails
  where
    of : (r : Result T CallError) → IfOk (asked_as r) (λ came. Moves old new (CameOf caller dst what shown came)) → Fails (asked_fails (asked_as r)) old new
        → Moves old new (Went (CallCame step caller dst what shown (of_step step r)) (load_fails (of_step step r)) caller.next_xid next)
    of (Ok told) came fails =
        moves_weaker old new _ _ (λ h part k. record { came = k.0.0.came; fails = k.1; brief = omega (arith, counted, k.0.1) }) (moves_both old new _ _ (moves_both old new _ _ came lasts) fails)
    of (Err error.Timeout) came fails =
        moves_weaker old new _ _ (λ h part k. record { came = (refl, k.0.0.came); fails = k.1; brief = omega (arith, counted, k.0.1) }) (moves_both old new _ _ (moves_both old new _ _ came lasts) fails)
    of (Err error.Flood) came fails =
        moves_weaker old new _ _ (λ h part k. record { came = (refl, k.0.0.came); fails = k.1; brief = omega (arith, counted, k.0.1) }) (moves_both old new _ _ (moves_both old new _ _ came lasts) fails)
    of (Err (error.Denied code)) came fails =
        moves_weaker old new _ _ (λ h part k. record { came = (refl, k.0.0.came); fails = k.1; brief = omega (arith, counted, k.0.1) }) (moves_both old new _ _ (moves_both old new _ _ came lasts) fails)
    of (Err error.LinkFault) came fails =
        moves_weaker old new _ _ (λ h part k. record { came = (refl, k.0.0.came); fails = k.1; brief = omega (arith, counted, k.0.1) }) (moves_both old new _ _ (moves_both old new _ _ came lasts) fails)
    of (Err error.NoMemory) came fails =
        moves_weaker old new _ _ (λ h part k. record { came = (refl, tt); fails = k.1; brief = omega (arith, counted, k.0) }) (moves_both old new _ _ lasts fails)

-- an answer is what the server says
pub answer_trusted : {T : Type 0} (old new : Option History) (caller : Caller) (dst : Addr) (what : Ask) (shown : T → Answer) (x : T) (next : ℕ) → length caller.machine ≤ 255 → caller.next_xid < 2 ^ 32 - 1 → next ≡ caller.next_xid + 1
    → Moves old new (CameOf caller dst what shown (asked.Answer (Ok x)))
    → Moves old new (Trusted caller dst next (λ c. IsServers c caller dst what (Ok (shown x))))
answer_trusted old new caller dst what shown x next small few counted m =
    subst (λ (n : ℕ). Moves old new (Trusted caller dst n (λ c. IsServers c caller dst what (Ok (shown x))))) (sym counted)
    (moves_knowing old new (CameOf caller dst what shown (asked.Answer (Ok x))) (Trusted caller dst (caller.next_xid + 1) (λ c. IsServers c caller dst what (Ok (shown x))))
    (λ a b part goes k trust. told caller dst what a trust small few (IsSettledBy a) caller.tries caller.wait (Ok (shown x)) part goes.allowed k.came) m)

-- ---- one call after another

-- a lawful history goes on lawfully
lawful_goes : (a b : History) (xs : List Step) → GoesOn a b xs → IsLawfulSoFar a → IsLawfulSoFar b
lawful_goes a b xs goes lawful =
    subst (λ (k : Config). AllAllowed k (start k) b.steps) (sym goes.config)
    (subst (λ (l : List Step). AllAllowed a.config (start a.config) l) (sym goes.steps) (allowed-append a.config (start a.config) a.steps xs lawful goes.allowed))

-- the caller may trust what comes next
trust_goes : (a b : History) (xs : List Step) (caller next : Caller) (dst : Addr) → GoesOn a b xs → home next ≡ home caller → MayTrust caller dst a
    → XidsBelow a.config (home caller) next.next_xid (run a.config (world_of a) xs) → MayTrust next dst b
trust_goes a b xs caller next dst goes same trust below =
    let c = goes.config in record {
      rules = subst IsConfig (sym c) trust.rules;
      lawful = lawful_goes a b xs goes trust.lawful;
      server = trust.server ∙ ap (λ (k : Config). k.server.ip) (sym c);
      port = trust.port;
      below =
          subst (λ (k : Config). XidsBelow k (home next) next.next_xid (world_of b)) (sym c)
          (subst (λ (w : World). XidsBelow a.config (home next) next.next_xid w) (sym (world-goes a b xs goes))
          (subst (λ (me : Addr). XidsBelow a.config me next.next_xid (run a.config (world_of a) xs)) (sym same) below));
    }

pub trusted_then : (old mid new : Option History) (caller between : Caller) (dst : Addr) (last : ℕ) (F G H : Config → Type 0) → home between ≡ home caller → ((c : Config) → F c → G c → H c)
    → Moves old mid (Trusted caller dst between.next_xid F) → Moves mid new (Trusted between dst last G) → Moves old new (Trusted caller dst last H)
trusted_then old mid new caller between dst last F G H same f first second =
    moves_then old mid new (Trusted caller dst between.next_xid F) (Trusted between dst last G) (Trusted caller dst last H)
    (λ a b xs ys goes q r trust.
    let one = q trust in
    let two = r (trust_goes a b xs caller between dst goes same trust one.1) in
    let g : G a.config = subst G goes.config two.0 in
    let w : World = run a.config (run a.config (world_of a) xs) ys in (
      f a.config one.0 g,
      subst (λ (v : World). XidsBelow a.config (home caller) last v) (sym (run-append a.config (world_of a) xs ys))
          (subst (λ (me : Addr). XidsBelow a.config me last (run a.config (run a.config (world_of a) xs) ys)) same
          (subst (λ (v : World). XidsBelow a.config (home between) last (run a.config v ys)) (world-goes a b xs goes)
          (subst (λ (k : Config). XidsBelow k (home between) last (run k (world_of b) ys)) goes.config two.1))),
    )) first second

pub trusted_weaker : (old new : Option History) (caller : Caller) (dst : Addr) (next : ℕ) (F G : Config → Type 0) → ((c : Config) → IsConfig c → F c → G c) → Moves old new (Trusted caller dst next F) → Moves old new (Trusted caller dst next G)
trusted_weaker old new caller dst next F G f m =
    moves_weaker old new (Trusted caller dst next F) (Trusted caller dst next G) (λ h part k trust. let t = k trust in (f h.config trust.rules t.0, t.1)) m

-- nothing is asked
pub trusted_not : (now : Option History) (caller : Caller) (dst : Addr) (F : Config → Type 0) → ((c : Config) → F c) → Moves now now (Trusted caller dst caller.next_xid F)
trusted_not now caller dst F f = moves_not now (Trusted caller dst caller.next_xid F) (λ h trust. (f h.config, trust.below))
