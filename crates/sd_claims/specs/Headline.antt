-- What `replay` writes.
use Rattle.std.specs.Prelude.{◌≡◌, ◌≢◌, ◌⊎◌, ◌≤◌, ◌*◌, ℕ, List, [], ◌∷◌, ◌++◌, map, take, codes}
use Rattle.std.specs.List.{AllByRecursion}
use Rattle.std.specs.Fmt.{decimal}
use Rattle.sd_link.specs.World.{start}
use Rattle.sd_link.specs.Steps.{Step}
use Rattle.sd_config.specs.declared.events.Events.{Events}
use Rattle.sd_config.specs.Events.{fates_of}
use Rattle.sd_config.specs.Plan.{plan_of}
use Rattle.sd_outside.specs.Streams.{IsPrefixOf}
use Rattle.sd_link.specs.Lawful.{IsLawful, EndsAtRest, Settles}
use Rattle.sd_config.specs.declared.command.Command.{Command}
use Rattle.sd_config.specs.declared.command.Command.TheVariants.{Boot}
use Rattle.sd_script.specs.declared.script.Script.{Script}
use Rattle.sd_config.specs.declared.told.Told.{Told}
use Rattle.sd_config.specs.declared.told.Told.TheVariants.{AddrOk, WaitOk}
use Rattle.sd_script.specs.Grammar.{IsScript, IsFirstOutside}
use Rattle.sd_claims.specs.Booting.{first_counts}
use Rattle.sd_claims.specs.Machine.{first_state, IsRun}
use Rattle.sd_claims.specs.Transcript.{Done, transcript, AllCaused}
use Rattle.sd_claims.specs.Session.{parts_of}

-- no event line: the network loses, delays and repeats nothing, no stranger sends, and nothing fails
pub record HasNoEvents (events : Events) : Type 0 where
  pub fates : events.fates ≡ []
  pub strangers : events.strangers ≡ []
  pub faults : events.faults ≡ []

-- there is no event line, the client waits at least two ticks for its address, and it doesn't boot
pub record IsCalm (s : Script) : Type 0 where
  pub quiet : HasNoEvents s.events
  pub no_boot : AllByRecursion (λ command. command ≢ Boot) s.commands
  pub patient : 2 ≤ s.config.tries * s.config.wait

-- the command had its effect
abbrev pub IsOk : Told → Type 0
IsOk (AddrOk ip) = Unit {0}
IsOk (WaitOk shown) = Unit {0}
IsOk answer = ⊥

-- These commands of the script were done so: their steps, and more steps where it was cut short, are a run that the network owes the
-- script, from the start on. After theirs the server has done all that was due to it, and strangers have sent all that they send. The
-- answers are those of the boot machine; each is earned or caused by its part; and in a calm script all are ok.
pub record AreDone (s : Script) (commands : List Command) (done : List Done) (more : List Step) : Type 0 where
  pub lawful : IsLawful s.config (plan_of s.events) (parts_of done ++ more)
  pub rests : EndsAtRest s.config (plan_of s.events) (parts_of done)
  pub machine : IsRun s.config first_state commands (map (λ d. d.answer) done)
  pub caused : AllCaused (Settles s.config (fates_of s.events) (start s.config) []) s.config first_counts commands done
  pub complete : IsCalm s → AllByRecursion (λ d. IsOk d.answer) done

abbrev pub written : Script → List Done → List ℕ
written s done = transcript s.config (start s.config) done

-- the whole transcript of a script
pub record Plays (s : Script) (out : List ℕ) : Type 0 where
  pub done : List Done
  pub all : AreDone s s.commands done []
  pub whole : out ≡ written s done

-- a prefix of a transcript of its first so many commands
pub record PlaysPrefix (s : Script) (out : List ℕ) : Type 0 where
  pub count : ℕ
  pub done : List Done
  pub more : List Step
  pub some : AreDone s (take count s.commands) done more
  pub prefix : IsPrefixOf out (written s done)

-- the whole transcript of the script that the text spells
pub record IsTranscript (text out : List ℕ) : Type 0 where
  pub script : Script
  pub spelled : IsScript text script
  pub plays : Plays script out

abbrev pub refusal_line : ℕ → List ℕ
refusal_line n = codes "refused line " ++ decimal n ++ 10 ∷ []

-- the refusal of a text that spells no script: it names the first line outside the grammar
pub record IsRefusal (text out : List ℕ) : Type 0 where
  pub line : ℕ
  pub first : IsFirstOutside text line
  pub whole : out ≡ refusal_line line

-- a prefix of a transcript, for the first so many commands
pub record IsCutShort (text out : List ℕ) : Type 0 where
  pub script : Script
  pub spelled : IsScript text script
  pub plays : PlaysPrefix script out

-- a prefix of a refusal
pub record IsCutRefusal (text out : List ℕ) : Type 0 where
  pub full : List ℕ
  pub refusal : IsRefusal text full
  pub prefix : IsPrefixOf out full

-- a prefix of what would have been written: nothing yet, of the transcript, or of the refusal
abbrev pub IsOutputPrefix : List ℕ → List ℕ → Type 0
IsOutputPrefix text out = (out ≡ []) ⊎ IsCutShort text out ⊎ IsCutRefusal text out
