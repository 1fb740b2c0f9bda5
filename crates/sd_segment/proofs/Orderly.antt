-- A segment's steps are those of a plan of fates and strangers.
use Rattle.std.proofs.Common.{◌≡◌, ◌⊎◌, inl, inr, ℕ, zero, suc, ◌-◌, ◌≤◌, Bool, true, false, List, [], ◌∷◌, ◌++◌, replicate, Option, Some, None, refl, sym, ap, subst, arith}
use Rattle.std.specs.Prelude.{◌+◌, ◌<◌, nat_lt}
use Rattle.sd_config.specs.declared.config.Config.{Config}
use Rattle.sd_config.specs.Events.{Fates, fates_of}
use Rattle.sd_config.specs.Plan.{plan_of}
use Rattle.sd_link.specs.World.{World, start}
use Rattle.sd_link.specs.Steps.{Step, Tick, Send, Stray, Serve, Data, End, Get, Fail, Entry, after, entries_of}
use Rattle.sd_link.specs.Parts.{faults_in}
use Rattle.sd_link.specs.Lawful.{is_stopped, next_copy, AllStopAsNamed, named_sends, IsOrderly, FailsAsPlanned}
use Rattle.sd_link.specs.Link.{last_tick}
use Rattle.sd_segment.specs.declared.flown.Flown.{Flown}
use Rattle.sd_segment.specs.declared.flown.Kept.{Kept}
use Rattle.sd_segment.specs.declared.flown.What.{What}
use Rattle.sd_segment.specs.declared.flown.What.TheVariants as what
use Rattle.sd_segment.specs.Kept.{step_of, steps_from, steps_kept, last_kept}
use Rattle.sd_segment.specs.Failing.{early_fails}
use Rattle.sd_segment.specs.Segment.{SegmentView, IsSound, history_of}
use Rattle.sd_segment.proofs.FailuresCounted.{fails_early, fails_planned}

-- ---- the steps of a segment

AllPlain : List Step → Type 0
AllPlain [] = Unit {0}
AllPlain (Tick ∷ steps) = AllPlain steps
AllPlain (Send packet ∷ steps) = AllPlain steps
AllPlain (Stray packet ∷ steps) = AllPlain steps
AllPlain (Serve id ∷ steps) = AllPlain steps
AllPlain (Data number ∷ steps) = AllPlain steps
AllPlain (End number ∷ steps) = AllPlain steps
AllPlain (Get id packet ∷ steps) = AllPlain steps
AllPlain (Fail ∷ steps) = AllPlain steps
AllPlain (others ∷ steps) = ⊥

plain_ticks : (n : ℕ) (steps : List Step) → AllPlain steps → AllPlain (replicate n Tick ++ steps)
unfolding AllPlain
plain_ticks zero steps all = all
plain_ticks (suc n) steps all = plain_ticks n steps all

plain_step : (flight : List Flown) (w : What) (steps : List Step) → AllPlain steps → AllPlain (step_of flight w ∷ steps)
unfolding AllPlain
plain_step flight (what.Sent id) steps all = all
plain_step flight (what.Strayed id) steps all = all
plain_step flight (what.Served id first count) steps all = all
plain_step flight (what.Again number id) steps all = all
plain_step flight (what.Ended number) steps all = all
plain_step flight (what.Got id) steps all = all
plain_step flight what.Failed steps all = all

plain_from : (flight : List Flown) (tick : ℕ) (kept : List Kept) (steps : List Step) → AllPlain steps → AllPlain (steps_from flight tick kept ++ steps)
plain_from flight tick [] steps all = all
plain_from flight tick (k ∷ ks) steps all =
    let rest = plain_step flight k.what (steps_from flight k.tick ks ++ steps) (plain_from flight k.tick ks steps all) in
    subst AllPlain (sym (append_so (replicate (k.tick - tick) Tick) (step_of flight k.what ∷ steps_from flight k.tick ks) steps)) (plain_ticks (k.tick - tick) (step_of flight k.what ∷ (steps_from flight k.tick ks ++ steps)) rest)
  where
    append_so : (xs ys zs : List Step) → (xs ++ ys) ++ zs ≡ xs ++ (ys ++ zs)
    append_so [] ys zs = refl
    append_so (x ∷ xs) ys zs = ap (λ (l : List Step). x ∷ l) (append_so xs ys zs)

only_ticks : (n : ℕ) → AllPlain (replicate n Tick)
unfolding AllPlain
only_ticks zero = tt
only_ticks (suc n) = only_ticks n

plain_kept : (flight : List Flown) (kept : List Kept) (tick : ℕ) → AllPlain (steps_kept flight kept tick)
plain_kept flight kept tick = plain_from flight 0 kept (replicate (tick - last_kept 0 kept) Tick) (only_ticks (tick - last_kept 0 kept))

-- ---- nothing stops, and no disk fails

none_stopped : (copy : Option (ℕ × ℕ)) → is_stopped (λ id place. false) copy ≡ false
none_stopped None = refl
none_stopped (Some copy) = refl

AsNothing : Config → Fates → World → List Entry → List Step → Type 0
AsNothing c fates w entries steps = AllStopAsNamed c fates (λ id place. false) w entries steps × (faults_in steps ≡ 0)

as_nothing : (c : Config) (fates : Fates) (w : World) (entries : List Entry) (steps : List Step) → AllPlain steps → AsNothing c fates w entries steps
unfolding AllPlain AsNothing
as_nothing c fates w entries [] plain = (tt, refl)
as_nothing c fates w entries (Tick ∷ steps) plain = let r = as_nothing c fates (after c w Tick) (entries ++ entries_of c w Tick) steps plain in ((tt, r.0), r.1)
as_nothing c fates w entries (Send packet ∷ steps) plain =
    let r = as_nothing c fates (after c w (Send packet)) (entries ++ entries_of c w (Send packet)) steps plain in
    ((tt, r.0), r.1)
as_nothing c fates w entries (Stray packet ∷ steps) plain = let r = as_nothing c fates (after c w (Stray packet)) (entries ++ entries_of c w (Stray packet)) steps plain in ((tt, r.0), r.1)
as_nothing c fates w entries (Serve id ∷ steps) plain =
    let r = as_nothing c fates (after c w (Serve id)) (entries ++ entries_of c w (Serve id)) steps plain in
    ((none_stopped (next_copy c fates w entries), r.0), r.1)
as_nothing c fates w entries (Data number ∷ steps) plain = let r = as_nothing c fates (after c w (Data number)) (entries ++ entries_of c w (Data number)) steps plain in ((tt, r.0), r.1)
as_nothing c fates w entries (End number ∷ steps) plain = let r = as_nothing c fates (after c w (End number)) (entries ++ entries_of c w (End number)) steps plain in ((tt, r.0), r.1)
as_nothing c fates w entries (Get id packet ∷ steps) plain = let r = as_nothing c fates (after c w (Get id packet)) (entries ++ entries_of c w (Get id packet)) steps plain in ((tt, r.0), r.1)
as_nothing c fates w entries (Fail ∷ steps) plain = let r = as_nothing c fates (after c w Fail) (entries ++ entries_of c w Fail) steps plain in ((tt, r.0), r.1)
as_nothing c fates w entries (others ∷ steps) plain = absurd plain

-- ---- whole runs

pub orderly_of : (s : SegmentView) → IsSound s → IsOrderly s.config (plan_of s.events) (history_of s).steps
unfolding AsNothing
orderly_of s i =
    let r = as_nothing s.config (fates_of s.events) (start s.config) [] (history_of s).steps (plain_kept s.flight s.kept s.tick) in
    record {
      allowed = i.keeps.allowed;
      in_turn = i.turns.in_turn;
      stops = r.0;
      strays = i.strays.named;
      sends = i.failing.sends;
      faults = omega (arith, r.1);
    }

-- before the last tick, no more receives fail than are planned
pub early_of : (s : SegmentView) → IsSound s
    → early_fails s.config (start s.config) (history_of s).steps ≤ named_sends (plan_of s.events).sends s.config (start s.config) (history_of s).steps + (plan_of s.events).receives
early_of s i = fails_early s.config s.events (history_of s).steps s.calls s.faults i.failing

pub receives_of : (s : SegmentView) → IsSound s → FailsAsPlanned s.config (plan_of s.events) (history_of s).steps ⊎ (s.tick ≡ last_tick)
receives_of s i = of (nat_lt s.tick last_tick) refl
  where
    of : (b : Bool) → nat_lt s.tick last_tick ≡ b → FailsAsPlanned s.config (plan_of s.events) (history_of s).steps ⊎ (s.tick ≡ last_tick)
    of true early =
        let lt : s.tick < last_tick = grind (arith, early) in
        inl (fails_planned s.config s.events (history_of s).steps s.calls s.faults (omega (arith, lt, ap (λ (w : World). w.tick) i.keeps.world)) i.failing)
    of false late = let ge : last_tick ≤ s.tick = grind (arith, late) in inr (omega (arith, ge, i.tick))
