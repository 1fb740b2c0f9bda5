-- Which calls of the client's network fail, and that each failure is counted.
use Rattle.std.specs.Prelude.{◌≡◌, ℕ, ◌+◌, ◌-◌, ◌^◌, ◌≤◌, ◌==◌, nat_lt, min, Bool, false, List, [], ◌∷◌, filter, length, if◌then◌else◌}
use Rattle.std.specs.BTreeSet.{BTreeSet, contains}
use Rattle.std.specs.List.{list_any}
use Rattle.std.specs.Ordering.{nat_cmp}
use Rattle.sd_config.specs.declared.config.Config.{Config}
use Rattle.sd_config.specs.declared.events.Events.{Events}
use Rattle.sd_config.specs.declared.events.PlannedFault.{PlannedFault}
use Rattle.sd_config.specs.declared.events.PlannedFault.TheVariants as planned
use Rattle.sd_config.specs.Plan.{fails_send, plan_of}
use Rattle.sd_link.specs.World.{World, start}
use Rattle.sd_link.specs.Steps.{Step, Fail, after}
use Rattle.sd_link.specs.Parts.{fails_in}
use Rattle.sd_link.specs.Lawful.{AllFailAsNamed, named_sends}
use Rattle.sd_link.specs.Link.{last_tick}

-- a line names this receive, counted from 0
abbrev pub names_call : ℕ → PlannedFault → Bool
names_call call (planned.Send id) = false
names_call call (planned.Recv named) = named == call

-- a line names a receive among the first so many
abbrev pub is_called : ℕ → PlannedFault → Bool
is_called calls (planned.Send id) = false
is_called calls (planned.Recv named) = nat_lt named calls

-- the failures at ticks before the last
abbrev pub early_fails : Config → World → List Step → ℕ
early_fails c w [] = 0
early_fails c w (Fail ∷ steps) = if nat_lt w.tick last_tick then early_fails c w steps + 1 else early_fails c w steps
early_fails c w (step ∷ steps) = early_fails c (after c w step) steps

-- Sends fail as planned. Before the last tick, each other failure is that of a receive that a line names. All are counted.
pub record Failing (c : Config) (events : Events) (steps : List Step) (calls faults : ℕ) : Type 0 where
  pub sends : AllFailAsNamed (plan_of events).sends c (start c) steps
  pub receives : early_fails c (start c) steps ≤ named_sends (plan_of events).sends c (start c) steps + length (filter (is_called calls) events.faults)
  pub counted : faults ≡ min (fails_in steps) (2 ^ 64 - 1)
  pub few : calls ≤ 2 ^ 64 - 1

-- ---- as the code has it

-- the sets have exactly the ids of packets and the numbers of receives that lines name
pub record AreNamed (sends receives : BTreeSet ℕ) (faults : List PlannedFault) : Type 0 where
  pub packets : (id : ℕ) → contains nat_cmp sends id ≡ list_any (fails_send id) faults
  pub calls : (call : ℕ) → contains nat_cmp receives call ≡ list_any (names_call call) faults
