-- What a session writes over every link, also over one that tells nothing: for each command the lines that the link gave and an
-- answer line.
use Rattle.std.specs.Prelude.{◌≡◌, ℕ, ◌≤◌, List, [], ◌∷◌, ◌++◌, take, Option}
use Rattle.std.specs.List.{flat_map}
use Rattle.sd_outside.specs.Streams.{Gains, IsPrefixOf}
use Rattle.sd_streams.specs.Writing.{GainsPrefix}
use Rattle.sd_config.specs.declared.command.Command.{Command}
use Rattle.sd_config.specs.declared.told.Told.{Told}
use Rattle.sd_script.specs.Answers.{answer_line}
use Rattle.sd_claims.specs.AnyLink.{IsMet, Needs, FaultIsCounted}

-- what a link counts: the packets that it handed out, its tick, and how often it failed
pub record Counted : Type 0 where
  pub handed : ℕ
  pub clock : ℕ
  pub faults : ℕ

-- a command that was answered: the lines that the link gave after it, the answer, and what the link counted then
pub record Said : Type 0 where
  pub lines : List ℕ
  pub answer : Told
  pub counted : Counted

-- one answer for each command, in order, each with what it needs since the one before it; a fault of the network is one that was counted since then
abbrev pub AllNeeded : ℕ → Counted → List Command → List Said → Type 0
AllNeeded long before [] [] = Unit {0}
AllNeeded long before (command ∷ commands) (said ∷ others) =
    Needs long (IsMet before.handed said.counted.handed before.clock said.counted.clock) command said.answer × FaultIsCounted before.faults said.counted.faults said.answer × AllNeeded long said.counted commands others
AllNeeded long before commands said = ⊥

-- all that the link gave
abbrev pub lines_of : List Said → List ℕ
lines_of said = flat_map (λ s. s.lines) said

-- for each command what the link gave, and the answer line
abbrev pub text_of : List Said → List ℕ
text_of said = flat_map (λ s. s.lines ++ answer_line s.answer) said

-- what the link counts after all of them
abbrev pub counted_after : Counted → List Said → Counted
counted_after before [] = before
counted_after before (said ∷ others) = counted_after said.counted others

-- Each command was answered, and the sink gained what the link gave and the answer lines.
pub record Wrote (long : ℕ) (commands : List Command) (before now : Counted) (drained_before drained_now : List ℕ) (sink_before sink_now : Option (List ℕ)) : Type 0 where
  pub said : List Said
  pub needed : AllNeeded long before commands said
  pub counts : counted_after before said ≡ now
  pub drained : drained_now ≡ drained_before ++ lines_of said
  pub text : Gains sink_before sink_now (text_of said)

-- The first so many commands were answered, and the sink gained a prefix of that.
pub record WrotePrefix (long : ℕ) (commands : List Command) (before now : Counted) (drained_before drained_now : List ℕ) (sink_before sink_now : Option (List ℕ)) : Type 0 where
  pub count : ℕ
  pub said : List Said
  pub needed : AllNeeded long before (take count commands) said
  pub handed : (counted_after before said).handed ≤ now.handed
  pub clock : (counted_after before said).clock ≤ now.clock
  pub faults : (counted_after before said).faults ≤ now.faults
  pub drained : IsPrefixOf (drained_before ++ lines_of said) drained_now
  pub text : GainsPrefix sink_before sink_now (text_of said)
