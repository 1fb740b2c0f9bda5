-- Where there are no event lines, no stranger sends, and nothing crashes or fails.
use Rattle.std.proofs.Common.{◌≡◌, ℕ, ◌+◌, ◌≤◌, Bool, true, false, List, [], ◌∷◌, ◌++◌, length, Option, Some, None, refl, sym, ap, subst, arith, length-append}
use Rattle.std.specs.List.{AllByRecursion}
use Rattle.sd_outside.specs.declared.packet.Packet.{Packet}
use Rattle.sd_config.specs.declared.config.Config.{Config}
use Rattle.sd_config.specs.declared.events.Events.{Events}
use Rattle.sd_config.specs.Events.{Fates}
use Rattle.sd_config.specs.Plan.{plan_of}
use Rattle.sd_claims.specs.Headline.{HasNoEvents}
use Rattle.sd_link.specs.World.{World, start}
use Rattle.sd_link.specs.Steps.{Step, Send, Stray, Crash, Fault, Fail, Entry, after, entries_of}
use Rattle.sd_link.specs.Parts.{fails_in, faults_in}
use Rattle.sd_outside.specs.Streams.{IsPrefixOf}
use Rattle.sd_link.specs.Lawful.{IsLawful, AllStopAsNamed, AllStrayAsNamed, is_stopped, next_copy, strayed, named_sends}

-- a step that is neither a stranger's nor a crash or a failure
abbrev pub IsCalmStep : Step → Type 0
IsCalmStep (Stray packet) = ⊥
IsCalmStep (Crash id done) = ⊥
IsCalmStep (Fault id doubts) = ⊥
IsCalmStep Fail = ⊥
IsCalmStep step = Unit {0}

not_stopped : (copy : Option (ℕ × ℕ)) → is_stopped (λ id place. false) copy ≡ true → ⊥
not_stopped None stopped = absurd cc
not_stopped (Some place) stopped = absurd cc

no_front : (sent : List Packet) (packet : Packet) → IsPrefixOf (sent ++ packet ∷ []) [] → ⊥
no_front sent packet front = omega (arith, ap length front.1, length-append (sent ++ packet ∷ []) front.0, length-append sent (packet ∷ []))

pub calm_steps : (c : Config) (fates : Fates) (w : World) (entries : List Entry) (steps : List Step) → AllStopAsNamed c fates (λ id copy. false) w entries steps → AllStrayAsNamed (λ tick. []) c w steps
    → faults_in steps ≡ 0 → fails_in steps ≡ 0 → AllByRecursion IsCalmStep steps
calm_steps c fates w entries [] stops strays faults fails = tt
calm_steps c fates w entries (Stray packet ∷ steps) stops strays faults fails = absurd (no_front (strayed w) packet strays.0)
calm_steps c fates w entries (Crash id done ∷ steps) stops strays faults fails = absurd (not_stopped (next_copy c fates w entries) stops.0)
calm_steps c fates w entries (Fault id doubts ∷ steps) stops strays faults fails = absurd (omega (arith, faults))
calm_steps c fates w entries (Fail ∷ steps) stops strays faults fails = absurd (omega (arith, fails))
calm_steps c fates w entries (step ∷ steps) stops strays faults fails = (tt, calm_steps c fates (after c w step) (entries ++ entries_of c w step) steps stops.1 strays.1 faults fails)

no_named : (c : Config) (w : World) (steps : List Step) → named_sends (λ id. false) c w steps ≡ 0
no_named c w [] = refl
no_named c w (Send packet ∷ steps) = no_named c (after c w (Send packet)) steps
no_named c w (step ∷ steps) = no_named c (after c w step) steps

abbrev no_events : Events
no_events = record { fates = []; strangers = []; faults = [] }

quiet_run : (c : Config) (steps : List Step) → IsLawful c (plan_of no_events) steps → AllByRecursion IsCalmStep steps
quiet_run c steps law =
    calm_steps c (plan_of no_events).fates (start c) [] steps law.orderly.stops law.orderly.strays (omega (arith, law.orderly.faults)) (omega (arith, law.receives, no_named c (start c) steps))

-- without event lines each step of a lawful run is calm
pub calm_run : (c : Config) (events : Events) (steps : List Step) → HasNoEvents events → IsLawful c (plan_of events) steps → AllByRecursion IsCalmStep steps
calm_run c events steps none law =
    let same : events ≡ no_events = λ i. record { fates = none.fates i; strangers = none.strangers i; faults = none.faults i } in
    quiet_run c steps (subst (λ (e : Events). IsLawful c (plan_of e) steps) same law)

-- in such steps nothing fails
pub calm_fails : (steps : List Step) → AllByRecursion IsCalmStep steps → fails_in steps ≡ 0
calm_fails [] calm = refl
calm_fails (Fail ∷ steps) calm = absurd calm.0
calm_fails (step ∷ steps) calm = calm_fails steps calm.1
