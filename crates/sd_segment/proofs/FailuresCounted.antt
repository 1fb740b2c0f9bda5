-- Sends and receives fail as planned, and each failure is counted.
use Rattle.std.proofs.Common.{◌≡◌, ℕ, suc, ◌+◌, ◌-◌, ◌^◌, ◌<◌, ◌≤◌, Bool, true, false, cond, List, [], ◌∷◌, ◌++◌, length, refl, sym, ap, ◌∙◌, subst, arith}
use Rattle.std.specs.Prelude.{◌==◌, ◌||◌, nat_lt, min}
use Rattle.std.specs.List.{AllByRecursion, filter, list_any}
use Rattle.std.proofs.lemmas.Bool.{false≢true}
use Rattle.sd_outside.specs.declared.packet.Packet.{Packet}
use Rattle.sd_config.specs.declared.config.Config.{Config}
use Rattle.sd_config.specs.declared.events.Events.{Events}
use Rattle.sd_config.specs.declared.events.PlannedFault.{PlannedFault}
use Rattle.sd_config.specs.declared.events.PlannedFault.TheVariants as planned
use Rattle.sd_config.specs.Events.{IsPlanned, IsEvents}
use Rattle.sd_config.specs.Plan.{FailingSends, is_receive, plan_of}
use Rattle.sd_config.proofs.Lists.{all_recursive}
use Rattle.sd_link.specs.World.{World, start}
use Rattle.sd_link.specs.Steps.{Step, Send, Fail, after, run}
use Rattle.sd_link.specs.Parts.{sends_in, fails_in}
use Rattle.sd_link.specs.Lawful.{AllFailAsNamed, named_sends, FailsAsPlanned}
use Rattle.sd_link.specs.Link.{last_tick}
use Rattle.sd_link.proofs.Histories.{fails-append, tick-run}
use Rattle.sd_segment.specs.Failing.{names_call, is_called, early_fails, Failing}
use Rattle.sd_segment.proofs.Joining.{sends_fail-append, named-append, early-append}

-- ---- failures before the last tick

-- no more than there are
early_few : (c : Config) (w : World) (steps : List Step) → early_fails c w steps ≤ fails_in steps
early_few c w [] = omega arith
early_few c w (Fail ∷ steps) = of (nat_lt w.tick last_tick) (early_few c w steps)
  where
    of : (b : Bool) → early_fails c w steps ≤ fails_in steps → cond b (early_fails c w steps + 1) (early_fails c w steps) ≤ fails_in steps + 1
    of true le = omega (arith, le)
    of false le = omega (arith, le)
early_few c w (step ∷ steps) = early_few c (after c w step) steps

-- all of them, where the last tick isn't reached
early_all : (c : Config) (w : World) (steps : List Step) → (run c w steps).tick < last_tick → early_fails c w steps ≡ fails_in steps
early_all c w [] early = refl
early_all c w (Fail ∷ steps) early =
    let here : nat_lt w.tick last_tick ≡ true = grind (arith, early, tick-run c w steps) in
    ap (λ (b : Bool). cond b (early_fails c w steps + 1) (early_fails c w steps)) here ∙ ap (λ (n : ℕ). n + 1) (early_all c w steps early)
early_all c w (step ∷ steps) early = early_all c (after c w step) steps early

-- none at the last tick
early_late : (c : Config) (w : World) → w.tick ≡ last_tick → early_fails c w (Fail ∷ []) ≡ 0
early_late c w late = let here : nat_lt w.tick last_tick ≡ false = grind (arith, late) in ap (λ (b : Bool). cond b (0 + 1) 0) here

-- ---- parts in which the client sends nothing

silent_so : (sends : FailingSends) (c : Config) (w : World) (steps : List Step) → sends_in steps ≡ [] → AllFailAsNamed sends c w steps
silent_so sends c w [] e = tt
silent_so sends c w (Send packet ∷ steps) e = absurd (cc e)
silent_so sends c w (step ∷ steps) e = silent_so sends c (after c w step) steps e

module _ (c : Config) (events : Events) (steps new more : List Step) (calls faults : ℕ) (is : new ≡ steps ++ more) (f : Failing c events steps calls faults) where
  more_named : named_sends (plan_of events).sends c (start c) steps + named_sends (plan_of events).sends c (run c (start c) steps) more ≡ named_sends (plan_of events).sends c (start c) new
  more_named = sym (ap (λ (l : List Step). named_sends (plan_of events).sends c (start c) l) is ∙ named-append (plan_of events).sends c (start c) steps more)

  more_fails : fails_in new ≡ fails_in steps + fails_in more
  more_fails = ap fails_in is ∙ fails-append steps more

  more_early : early_fails c (start c) new ≡ early_fails c (start c) steps + early_fails c (run c (start c) steps) more
  more_early = ap (λ (l : List Step). early_fails c (start c) l) is ∙ early-append c (start c) steps more

  sends_joined : AllFailAsNamed (plan_of events).sends c (run c (start c) steps) more → AllFailAsNamed (plan_of events).sends c (start c) new
  sends_joined second = subst (λ (l : List Step). AllFailAsNamed (plan_of events).sends c (start c) l) (sym is) (sends_fail-append (plan_of events).sends c (start c) steps more f.sends second)

  same_count : fails_in more ≡ 0 → faults ≡ min (fails_in new) (2 ^ 64 - 1)
  same_count none =
      let same : fails_in steps ≡ fails_in new = omega (arith, more_fails, none) in
      f.counted ∙ ap (λ (n : ℕ). min n (2 ^ 64 - 1)) same

  one_counted : fails_in more ≡ 1 → min (faults + 1) (2 ^ 64 - 1) ≡ min (fails_in new) (2 ^ 64 - 1)
  one_counted one =
      let same : fails_in steps + 1 ≡ fails_in new = omega (arith, more_fails, one) in
      count (fails_in steps) faults f.counted ∙ ap (λ (n : ℕ). min n (2 ^ 64 - 1)) same
    where
      count : (n faults : ℕ) → faults ≡ min n (2 ^ 64 - 1) → min (faults + 1) (2 ^ 64 - 1) ≡ min (n + 1) (2 ^ 64 - 1)
      count n faults so = grind (arith, so)

  -- nothing failed
  pub fails_on : AllFailAsNamed (plan_of events).sends c (run c (start c) steps) more → fails_in more ≡ 0 → Failing c events new calls faults
  fails_on second none = record {
    sends = sends_joined second;
    receives = omega (arith, f.receives, more_early, early_few c (run c (start c) steps) more, none, more_named);
    counted = same_count none;
    few = f.few;
  }

  pub fails_silent : sends_in more ≡ [] → fails_in more ≡ 0 → Failing c events new calls faults
  fails_silent silent none = fails_on (silent_so (plan_of events).sends c (run c (start c) steps) more silent) none

-- ---- a failure

-- a send that a line names
pub fails_send : (c : Config) (events : Events) (steps new : List Step) (here : World) (packet : Packet) (calls faults : ℕ) → new ≡ steps ++ (Send packet ∷ Fail ∷ []) → run c (start c) steps ≡ here → (plan_of events).sends (length here.flight) ≡ true
    → Failing c events steps calls faults → Failing c events new calls (min (faults + 1) (2 ^ 64 - 1))
fails_send c events steps new here packet calls faults is at named f =
    let sends = (plan_of events).sends in
    let more : List Step = Send packet ∷ Fail ∷ [] in
    let one : named_sends sends c (run c (start c) steps) more ≡ 1 = ap (λ (w : World). named_sends sends c w more) at ∙ ap (λ (b : Bool). cond b (0 + 1) 0) named in
    record {
      sends = sends_joined c events steps new more calls faults is f ((λ n. ([], refl)), tt);
      receives = omega (arith, f.receives, more_early c events steps new more calls faults is f, early_few c (run c (start c) steps) more, one, more_named c events steps new more calls faults is f);
      counted = one_counted c events steps new more calls faults is f refl;
      few = f.few;
    }

-- ---- receives that lines name

-- a later receive has as many lines before it, and one more where a line names one between
called_more : (calls later : ℕ) (faults : List PlannedFault) → calls ≤ later → length (filter (is_called calls) faults) ≤ length (filter (is_called later) faults)
called_more calls later [] le = omega arith
called_more calls later (planned.Send id ∷ fs) le = called_more calls later fs le
called_more calls later (planned.Recv named ∷ fs) le = of (nat_lt named calls) (nat_lt named later) refl refl (called_more calls later fs le)
  where
    of : (a b : Bool) → nat_lt named calls ≡ a → nat_lt named later ≡ b → length (filter (is_called calls) fs) ≤ length (filter (is_called later) fs)
        → length (cond a (planned.Recv named ∷ filter (is_called calls) fs) (filter (is_called calls) fs)) ≤ length (cond b (planned.Recv named ∷ filter (is_called later) fs) (filter (is_called later) fs))
    of true true e d rest = omega (arith, rest)
    of true false e d rest = absurd (grind (arith, e, d, le))
    of false true e d rest = omega (arith, rest)
    of false false e d rest = rest

called_one : (calls : ℕ) (faults : List PlannedFault) → list_any (names_call calls) faults ≡ true → length (filter (is_called calls) faults) + 1 ≤ length (filter (is_called (calls + 1)) faults)
called_one calls [] e = absurd (false≢true e)
called_one calls (planned.Send id ∷ fs) e = called_one calls fs e
called_one calls (planned.Recv named ∷ fs) e = of (named == calls) refl e (λ h. called_one calls fs h) (called_more calls (calls + 1) fs (omega arith))
  where
    here : (a b : Bool) → nat_lt named calls ≡ a → nat_lt named (calls + 1) ≡ b → named ≡ calls → length (filter (is_called calls) fs) ≤ length (filter (is_called (calls + 1)) fs)
        → length (cond a (planned.Recv named ∷ filter (is_called calls) fs) (filter (is_called calls) fs)) + 1 ≤ length (cond b (planned.Recv named ∷ filter (is_called (calls + 1)) fs) (filter (is_called (calls + 1)) fs))
    here true b e d same rest = absurd (grind (arith, e, same))
    here false true e d same rest = omega (arith, rest)
    here false false e d same rest = absurd (grind (arith, d, same))

    there : (a b : Bool) → nat_lt named calls ≡ a → nat_lt named (calls + 1) ≡ b → length (filter (is_called calls) fs) + 1 ≤ length (filter (is_called (calls + 1)) fs)
        → length (cond a (planned.Recv named ∷ filter (is_called calls) fs) (filter (is_called calls) fs)) + 1 ≤ length (cond b (planned.Recv named ∷ filter (is_called (calls + 1)) fs) (filter (is_called (calls + 1)) fs))
    there true true e d rest = omega (arith, rest)
    there true false e d rest = absurd (grind (arith, e, d))
    there false true e d rest = omega (arith, rest)
    there false false e d rest = rest

    of : (b : Bool) → (named == calls) ≡ b → (b || list_any (names_call calls) fs) ≡ true → (list_any (names_call calls) fs ≡ true → length (filter (is_called calls) fs) + 1 ≤ length (filter (is_called (calls + 1)) fs))
        → length (filter (is_called calls) fs) ≤ length (filter (is_called (calls + 1)) fs)
        → length (filter (is_called calls) (planned.Recv named ∷ fs)) + 1 ≤ length (filter (is_called (calls + 1)) (planned.Recv named ∷ fs))
    of true same any more rest = here (nat_lt named calls) (nat_lt named (calls + 1)) refl refl (grind (arith, same)) rest
    of false same any more rest = there (nat_lt named calls) (nat_lt named (calls + 1)) refl refl (more any)

called_most : (calls : ℕ) (faults : List PlannedFault) → length (filter (is_called calls) faults) ≤ length (filter is_receive faults)
called_most calls [] = omega arith
called_most calls (planned.Send id ∷ fs) = called_most calls fs
called_most calls (planned.Recv named ∷ fs) = of (nat_lt named calls) (called_most calls fs)
  where
    of : (a : Bool) → length (filter (is_called calls) fs) ≤ length (filter is_receive fs) → length (cond a (planned.Recv named ∷ filter (is_called calls) fs) (filter (is_called calls) fs)) ≤ suc (length (filter is_receive fs))
    of true rest = omega (arith, rest)
    of false rest = omega (arith, rest)

-- a named receive comes before the count stands
called_few : (calls : ℕ) (faults : List PlannedFault) → AllByRecursion IsPlanned faults → list_any (names_call calls) faults ≡ true → calls < 2 ^ 32
called_few calls [] all e = absurd (false≢true e)
called_few calls (planned.Send id ∷ fs) all e = called_few calls fs all.1 e
called_few calls (planned.Recv named ∷ fs) all e = of (named == calls) refl e (λ h. called_few calls fs all.1 h)
  where
    of : (b : Bool) → (named == calls) ≡ b → (b || list_any (names_call calls) fs) ≡ true → (list_any (names_call calls) fs ≡ true → calls < 2 ^ 32) → calls < 2 ^ 32
    of true same any more = let is : named ≡ calls = grind (arith, same) in omega (arith, is, all.0)
    of false same any more = more any

-- a receive that no line names
pub fails_counted : (c : Config) (events : Events) (steps : List Step) (calls faults : ℕ) → Failing c events steps calls faults → Failing c events steps (min (calls + 1) (2 ^ 64 - 1)) faults
fails_counted c events steps calls faults f =
    let later : calls ≤ min (calls + 1) (2 ^ 64 - 1) = grind (arith, f.few) in
    record { sends = f.sends; receives = omega (arith, f.receives, called_more calls (min (calls + 1) (2 ^ 64 - 1)) events.faults later); counted = f.counted; few = grind arith }

-- a receive that a line names
pub fails_call : (c : Config) (events : Events) (steps new : List Step) (calls faults : ℕ) → IsEvents c events → new ≡ steps ++ Fail ∷ [] → list_any (names_call calls) events.faults ≡ true
    → Failing c events steps calls faults → Failing c events new (min (calls + 1) (2 ^ 64 - 1)) (min (faults + 1) (2 ^ 64 - 1))
fails_call c events steps new calls faults rules is named f =
    let more : List Step = Fail ∷ [] in
    let few : calls < 2 ^ 32 = called_few calls events.faults (all_recursive IsPlanned events.faults rules.faults) named in
    let one : min (calls + 1) (2 ^ 64 - 1) ≡ calls + 1 = grind (arith, few) in
    subst (λ (n : ℕ). Failing c events new n (min (faults + 1) (2 ^ 64 - 1))) (sym one)
    (record {
      sends = sends_joined c events steps new more calls faults is f tt;
      receives = omega (arith, f.receives, more_early c events steps new more calls faults is f, early_few c (run c (start c) steps) more, called_one calls events.faults named, more_named c events steps new more calls faults is f);
      counted = one_counted c events steps new more calls faults is f refl;
      few = omega (arith, few);
    })

-- a receive past the last tick
pub fails_last : (c : Config) (events : Events) (steps new : List Step) (here : World) (calls faults : ℕ) → new ≡ steps ++ Fail ∷ [] → run c (start c) steps ≡ here → here.tick ≡ last_tick
    → Failing c events steps calls faults → Failing c events new calls (min (faults + 1) (2 ^ 64 - 1))
fails_last c events steps new here calls faults is at late f =
    let more : List Step = Fail ∷ [] in
    let none : early_fails c (run c (start c) steps) more ≡ 0 = early_late c (run c (start c) steps) (ap (λ (w : World). w.tick) at ∙ late) in
    record {
      sends = sends_joined c events steps new more calls faults is f tt;
      receives = omega (arith, f.receives, more_early c events steps new more calls faults is f, none, more_named c events steps new more calls faults is f);
      counted = one_counted c events steps new more calls faults is f refl;
      few = f.few;
    }

-- ---- in all

pub fails_early : (c : Config) (events : Events) (steps : List Step) (calls faults : ℕ) → Failing c events steps calls faults
    → early_fails c (start c) steps ≤ named_sends (plan_of events).sends c (start c) steps + (plan_of events).receives
fails_early c events steps calls faults f = omega (arith, f.receives, called_most calls events.faults)

pub fails_planned : (c : Config) (events : Events) (steps : List Step) (calls faults : ℕ) → (run c (start c) steps).tick < last_tick → Failing c events steps calls faults → FailsAsPlanned c (plan_of events) steps
fails_planned c events steps calls faults early f = omega (arith, f.receives, called_most calls events.faults, early_all c (start c) steps early)

-- a send that no line names
pub send_so : (sends : FailingSends) (c : Config) (w here : World) (packet : Packet) → w ≡ here → sends (length here.flight) ≡ false → AllFailAsNamed sends c w (Send packet ∷ [])
send_so sends c w here packet at calm = (λ named. absurd (false≢true (sym calm ∙ sym (ap (λ (v : World). sends (length v.flight)) at) ∙ named)), tt)

pub fails_none : (c : Config) (events : Events) → Failing c events [] 0 0
fails_none c events = record { sends = tt; receives = omega arith; counted = refl; few = omega arith }
