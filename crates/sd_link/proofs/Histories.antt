-- Steps one after another, and histories that go on.
use Rattle.std.proofs.Common.{◌≡◌, ℕ, ◌+◌, ◌≤◌, Bool, List, [], ◌∷◌, ◌++◌, Option, Some, None, slice_get, refl, sym, ◌∙◌, ap, subst, arith, append_assoc}
use Rattle.std.proofs.lemmas.List.{append-nil}
use Rattle.sd_outside.specs.declared.packet.Packet.{Packet}
use Rattle.sd_config.specs.declared.config.Config.{Config}
use Rattle.sd_link.specs.World.{World, Flying, start}
use Rattle.sd_services.specs.Part.{Session}
use Rattle.sd_link.specs.Steps.{Step, Tick, Send, Serve, Crash, Fault, Data, Get, Fail, Entry, after, entries_of, run, AllAllowed, record_of, served, crashed, faulted, resent, History, world_of, whole_record, IsLawfulSoFar}
use Rattle.sd_services.specs.Sessions.{session_in}
use Rattle.sd_link.specs.Parts.{sends_in, got_in, ticks_in, fails_in, faults_in}
use Rattle.sd_link.specs.Link.{GoesOn, Moves, TicksBefore, NothingWaits, IsSettledBy, IsAtRest, IsAtRestBy}
use Rattle.sd_config.specs.declared.events.Events.{Events}
use Rattle.sd_config.specs.Events.{Fates, fates_of}
use Rattle.sd_config.specs.Plan.{plan_of}
use Rattle.sd_link.specs.Lawful.{AllInTurn, AllGot, Rests}

-- ---- lists of steps

pub run-append : (c : Config) (w : World) (xs ys : List Step) → run c w (xs ++ ys) ≡ run c (run c w xs) ys
run-append c w [] ys = refl
run-append c w (x ∷ xs) ys = run-append c (after c w x) xs ys

pub allowed-append : (c : Config) (w : World) (xs ys : List Step) → AllAllowed c w xs → AllAllowed c (run c w xs) ys → AllAllowed c w (xs ++ ys)
allowed-append c w [] ys first second = second
allowed-append c w (x ∷ xs) ys first second = (first.0, allowed-append c (after c w x) xs ys first.1 second)

pub allowed-split : (c : Config) (w : World) (xs ys : List Step) → AllAllowed c w (xs ++ ys) → AllAllowed c w xs × AllAllowed c (run c w xs) ys
allowed-split c w [] ys all = (tt, all)
allowed-split c w (x ∷ xs) ys all = let s = allowed-split c (after c w x) xs ys all.1 in ((all.0, s.0), s.1)

pub record-append : (c : Config) (w : World) (xs ys : List Step) → record_of c w (xs ++ ys) ≡ record_of c w xs ++ record_of c (run c w xs) ys
record-append c w [] ys = refl
record-append c w (x ∷ xs) ys =
    ap (λ (l : List Entry). entries_of c w x ++ l) (record-append c (after c w x) xs ys)
    ∙ sym (append_assoc (entries_of c w x) (record_of c (after c w x) xs) (record_of c (run c (after c w x) xs) ys))

pub sends-append : (xs ys : List Step) → sends_in (xs ++ ys) ≡ sends_in xs ++ sends_in ys
sends-append [] ys = refl
sends-append (Send packet ∷ xs) ys = ap (λ (l : List Packet). packet ∷ l) (sends-append xs ys)
sends-append (x ∷ xs) ys = sends-append xs ys

pub got-append : (xs ys : List Step) → got_in (xs ++ ys) ≡ got_in xs ++ got_in ys
got-append [] ys = refl
got-append (Get id packet ∷ xs) ys = ap (λ (l : List Packet). packet ∷ l) (got-append xs ys)
got-append (x ∷ xs) ys = got-append xs ys

pub ticks-append : (xs ys : List Step) → ticks_in (xs ++ ys) ≡ ticks_in xs + ticks_in ys
ticks-append [] ys = omega arith
ticks-append (Tick ∷ xs) ys = omega (arith, ticks-append xs ys)
ticks-append (x ∷ xs) ys = ticks-append xs ys

pub fails-append : (xs ys : List Step) → fails_in (xs ++ ys) ≡ fails_in xs + fails_in ys
fails-append [] ys = omega arith
fails-append (Fail ∷ xs) ys = omega (arith, fails-append xs ys)
fails-append (x ∷ xs) ys = fails-append xs ys

pub faults-append : (xs ys : List Step) → faults_in (xs ++ ys) ≡ faults_in xs + faults_in ys
faults-append [] ys = omega arith
faults-append (Fault id doubts ∷ xs) ys = omega (arith, faults-append xs ys)
faults-append (x ∷ xs) ys = faults-append xs ys

tick-served : (c : Config) (w : World) (f : Option Flying) → (served c w f).tick ≡ w.tick
tick-served c w None = refl
tick-served c w (Some f) = refl

tick-crashed : (c : Config) (done : Bool) (w : World) (f : Option Flying) → (crashed c done w f).tick ≡ w.tick
tick-crashed c done w None = refl
tick-crashed c done w (Some f) = refl

tick-faulted : (c : Config) (doubts : Bool) (w : World) (f : Option Flying) → (faulted c doubts w f).tick ≡ w.tick
tick-faulted c doubts w None = refl
tick-faulted c doubts w (Some f) = refl

tick-resent : (c : Config) (w : World) (s : Option Session) → (resent c w s).tick ≡ w.tick
tick-resent c w None = refl
tick-resent c w (Some s) = refl

-- The tick grows by one with a Tick, and by nothing else. What is proved of ticks stands on this.
pub tick-after : (c : Config) (w : World) (step : Step) → (after c w step).tick ≡ w.tick + ticks_in (step ∷ [])
tick-after c w (Serve id) = omega (arith, tick-served c w (slice_get w.flight id))
tick-after c w (Crash id done) = omega (arith, tick-crashed c done w (slice_get w.flight id))
tick-after c w (Fault id doubts) = omega (arith, tick-faulted c doubts w (slice_get w.flight id))
tick-after c w (Data number) = omega (arith, tick-resent c w (session_in number w.server.sessions))
tick-after c w step = omega arith

-- the tick grows by one with each Tick, and by nothing else
pub tick-run : (c : Config) (w : World) (xs : List Step) → (run c w xs).tick ≡ w.tick + ticks_in xs
tick-run c w [] = omega arith
tick-run c w (x ∷ xs) = omega (arith, tick-run c (after c w x) xs, tick-after c w x, ticks-append (x ∷ []) xs)

pub before-append : (until : ℕ) (c : Config) (w : World) (xs ys : List Step) → TicksBefore until c w xs → TicksBefore until c (run c w xs) ys → TicksBefore until c w (xs ++ ys)
before-append until c w [] ys first second = second
before-append until c w (Tick ∷ xs) ys first second = (first.0, before-append until c (after c w Tick) xs ys first.1 second)
before-append until c w (x ∷ xs) ys first second = before-append until c (after c w x) xs ys first second

-- ticks that all begin before a moment don't pass it
pub before-bound : (until : ℕ) (c : Config) (w : World) (xs : List Step) → w.tick ≤ until → TicksBefore until c w xs → (run c w xs).tick ≤ until
before-bound until c w [] le h = le
before-bound until c w (Tick ∷ xs) le h = before-bound until c (after c w Tick) xs (omega (arith, h.0)) h.1
before-bound until c w (x ∷ xs) le h = before-bound until c (after c w x) xs (omega (arith, le, tick-after c w x)) h

-- ---- histories

-- the world moves by the part
world_by : (a b : History) (xs : List Step) → b.config ≡ a.config → b.steps ≡ a.steps ++ xs → world_of b ≡ run a.config (world_of a) xs
world_by a b xs config steps =
    ap (λ (c : Config). run c (start c) b.steps) config
    ∙ ap (λ (l : List Step). run a.config (start a.config) l) steps
    ∙ run-append a.config (start a.config) a.steps xs

pub world-goes : (a b : History) (xs : List Step) → GoesOn a b xs → world_of b ≡ run a.config (world_of a) xs
world-goes a b xs goes = world_by a b xs goes.config goes.steps

pub goes_nowhere : (h : History) → GoesOn h h []
goes_nowhere h = record { config = refl; events = refl; steps = sym (append-nil h.steps); allowed = tt }

pub goes_then : (a b c : History) (xs ys : List Step) → GoesOn a b xs → GoesOn b c ys → GoesOn a c (xs ++ ys)
goes_then a b c xs ys first second = record {
  config = second.config ∙ first.config;
  events = second.events ∙ first.events;
  steps = second.steps ∙ ap (λ (l : List Step). l ++ ys) first.steps ∙ append_assoc a.steps xs ys;
  allowed =
      allowed-append a.config (world_of a) xs ys first.allowed
      (subst (λ (w : World). AllAllowed a.config w ys) (world-goes a b xs first)
      (subst (λ (k : Config). AllAllowed k (world_of b) ys) first.config second.allowed));
}

-- where all of a history may happen, its last part may
pub goes_lawful : (a b : History) (xs : List Step) → b.config ≡ a.config → b.events ≡ a.events → b.steps ≡ a.steps ++ xs → IsLawfulSoFar b → GoesOn a b xs
goes_lawful a b xs config events steps lawful =
    let whole = subst (λ (c : Config). AllAllowed c (start c) b.steps) config lawful in
    record {
      config = config;
      events = events;
      steps = steps;
      allowed = (allowed-split a.config (start a.config) a.steps xs (subst (λ (l : List Step). AllAllowed a.config (start a.config) l) steps whole)).1;
    }

-- the record goes on with the history
pub record-goes : (a b : History) (xs : List Step) → GoesOn a b xs → whole_record b ≡ whole_record a ++ record_of a.config (world_of a) xs
record-goes a b xs goes =
    ap (λ (c : Config). record_of c (start c) b.steps) goes.config
    ∙ ap (λ (l : List Step). record_of a.config (start a.config) l) goes.steps
    ∙ record-append a.config (start a.config) a.steps xs

-- where the history that a part leads to is settled, the part settles it
pub settled-goes : (a b : History) (xs : List Step) → GoesOn a b xs → NothingWaits b → IsSettledBy a xs
settled-goes a b xs goes settled =
    subst (λ (l : List Entry). AllGot a.config (fates_of a.events) (run a.config (world_of a) xs) l) (record-goes a b xs goes)
    (subst (λ (w : World). AllGot a.config (fates_of a.events) w (whole_record b)) (world-goes a b xs goes)
    (subst (λ (e : Events). AllGot a.config (fates_of e) (world_of b) (whole_record b)) goes.events
    (subst (λ (c : Config). AllGot c (fates_of b.events) (world_of b) (whole_record b)) goes.config settled)))

-- and the other way round
pub settled-there : (a b : History) (xs : List Step) → GoesOn a b xs → IsSettledBy a xs → NothingWaits b
settled-there a b xs goes settled =
    subst (λ (c : Config). AllGot c (fates_of b.events) (world_of b) (whole_record b)) (sym goes.config)
    (subst (λ (e : Events). AllGot a.config (fates_of e) (world_of b) (whole_record b)) (sym goes.events)
    (subst (λ (w : World). AllGot a.config (fates_of a.events) w (whole_record b)) (sym (world-goes a b xs goes))
    (subst (λ (l : List Entry). AllGot a.config (fates_of a.events) (run a.config (world_of a) xs) l) (sym (record-goes a b xs goes)) settled)))

-- the same of the server's rest
pub rests-goes : (a b : History) (xs : List Step) → GoesOn a b xs → IsAtRest b → IsAtRestBy a xs
rests-goes a b xs goes rests =
    subst (λ (l : List Entry). Rests a.config (plan_of a.events) (run a.config (world_of a) xs) l) (record-goes a b xs goes)
    (subst (λ (w : World). Rests a.config (plan_of a.events) w (whole_record b)) (world-goes a b xs goes)
    (subst (λ (e : Events). Rests a.config (plan_of e) (world_of b) (whole_record b)) goes.events
    (subst (λ (c : Config). Rests c (plan_of b.events) (world_of b) (whole_record b)) goes.config rests)))

-- where the server rests after a part, it rests after that part behind another
pub rests-then : (a b : History) (xs ys : List Step) → GoesOn a b xs → IsAtRestBy b ys → IsAtRestBy a (xs ++ ys)
rests-then a b xs ys goes rests =
    let there = run a.config (world_of a) xs in
    let lines : (whole_record a ++ record_of a.config (world_of a) xs) ++ record_of a.config there ys ≡ whole_record a ++ record_of a.config (world_of a) (xs ++ ys) =
    append_assoc (whole_record a) (record_of a.config (world_of a) xs) (record_of a.config there ys) ∙ ap (λ (l : List Entry). whole_record a ++ l) (sym (record-append a.config (world_of a) xs ys)) in
    subst (λ (l : List Entry). Rests a.config (plan_of a.events) (run a.config (world_of a) (xs ++ ys)) l) lines
    (subst (λ (w : World). Rests a.config (plan_of a.events) w ((whole_record a ++ record_of a.config (world_of a) xs) ++ record_of a.config there ys)) (sym (run-append a.config (world_of a) xs ys))
    (subst (λ (l : List Entry). Rests a.config (plan_of a.events) (run a.config there ys) (l ++ record_of a.config there ys)) (record-goes a b xs goes)
    (subst (λ (w : World). Rests a.config (plan_of a.events) (run a.config w ys) (whole_record b ++ record_of a.config w ys)) (world-goes a b xs goes)
    (subst (λ (e : Events). Rests a.config (plan_of e) (run a.config (world_of b) ys) (whole_record b ++ record_of a.config (world_of b) ys)) goes.events
    (subst (λ (c : Config). Rests c (plan_of b.events) (run c (world_of b) ys) (whole_record b ++ record_of c (world_of b) ys)) goes.config rests)))))

-- ---- what links tell

pub moves_not : (told : Option History) (P : History → List Step → Type 0) → ((h : History) → P h []) → Moves told told P
moves_not None P here = tt
moves_not (Some h) P here = ([], goes_nowhere h, here h)

pub moves_weaker : (old new : Option History) (P Q : History → List Step → Type 0) → ((h : History) (part : List Step) → P h part → Q h part) → Moves old new P → Moves old new Q
moves_weaker None None P Q so m = tt
moves_weaker None (Some new) P Q so m = absurd m
moves_weaker (Some old) None P Q so m = absurd m
moves_weaker (Some old) (Some new) P Q so m = (m.0, m.1, so old m.0 m.2)

-- one part after another
pub moves_then : (old mid new : Option History) (P Q R : History → List Step → Type 0)
    → ((a b : History) (xs ys : List Step) → GoesOn a b xs → P a xs → Q b ys → R a (xs ++ ys))
    → Moves old mid P → Moves mid new Q → Moves old new R
moves_then None None None P Q R so first second = tt
moves_then None None (Some new) P Q R so first second = absurd second
moves_then None (Some mid) new P Q R so first second = absurd first
moves_then (Some old) None new P Q R so first second = absurd first
moves_then (Some old) (Some mid) None P Q R so first second = absurd second
moves_then (Some old) (Some mid) (Some new) P Q R so first second =
    (first.0 ++ second.0, goes_then old mid new first.0 second.0 first.1 second.1, so old mid first.0 second.0 first.1 first.2 second.2)

-- ---- turns

-- steps in their turn, after steps in theirs
pub in_turn-append : (c : Config) (fates : Fates) (w : World) (entries : List Entry) (xs ys : List Step) → AllInTurn c fates w entries xs → AllInTurn c fates (run c w xs) (entries ++ record_of c w xs) ys → AllInTurn c fates w entries (xs ++ ys)
in_turn-append c fates w entries [] ys first second = subst (λ l. AllInTurn c fates w l ys) (append-nil entries) second
in_turn-append c fates w entries (x ∷ xs) ys first second =
    (first.0, in_turn-append c fates (after c w x) (entries ++ entries_of c w x) xs ys first.1 (subst (λ l. AllInTurn c fates (run c (after c w x) xs) l ys) (sym (append_assoc entries (entries_of c w x) (record_of c (after c w x) xs))) second))
