-- What one command of a session does.
use Rattle.std.specs.Prelude.{◌≡◌, ℕ, ◌%◌, List, ◌++◌}
use Rattle.sd_config.specs.declared.config.ClientConfig.{ClientConfig}
use Rattle.sd_config.specs.Config.{IsFor}
use Rattle.sd_link.specs.Steps.{Step, History, world_of, whole_record, record_of}
use Rattle.sd_link.specs.Link.{IsAtRestBy}
use Rattle.sd_link.specs.Printing.{record_text}
use Rattle.sd_link.specs.Link.{IsSettledBy}
use Rattle.sd_config.specs.declared.command.Command.{Command}
use Rattle.sd_config.specs.declared.told.Told.{Told}
use Rattle.sd_script.specs.Answers.{answer_line}
use Rattle.sd_claims.specs.AnyLink.{IsMet, Needs, FaultIsCounted}
use Rattle.sd_claims.specs.Booting.{Counts}
use Rattle.sd_claims.specs.Causes.{IsCaused}
use Rattle.sd_claims.specs.Ending.{EndsAfter}
use Rattle.sd_claims.specs.Wrote.{Counted}

-- a client as its callers see it: what it was given, how many boots reached TFTP, modulo 32,768, and the number of its next call
pub record ClientView : Type 0 where
  pub config : ClientConfig
  pub boots : ℕ
  pub next_xid : ℕ

-- it counted so much
abbrev pub HasCounted : ClientView → Counts → Type 0
HasCounted client n = (client.boots ≡ n.boots % 32768) × (client.next_xid ≡ n.next_xid)

-- the answer has its cause, where the client counted so much before and after, and the command ends so
pub record IsAnswered (n : Counts) (command : Command) (answer : Told) (counts : Counts) (old : History) (part : List Step) : Type 0 where
  pub caused : IsCaused (IsSettledBy old) old.config n command answer counts part
  pub ended : EndsAfter old answer part

-- A client of this configuration did the command: whatever it had counted, the answer has its cause, and it counts on from there.
abbrev pub IsDone : ClientView → Command → Told → ClientView → History → List Step → Type 0
IsDone client command answer next old part =
    IsFor old.config client.config → (n : Counts) → HasCounted client n → (counts : Counts) × IsAnswered n command answer counts old part × HasCounted next counts

-- Where the record was drained before, the text is the new lines and the answer line. The server is done with the tick at which the
-- command ended.
pub record IsStep (client : ClientView) (command : Command) (drained text : List ℕ) (next : ClientView) (old : History) (part : List Step) : Type 0 where
  pub answer : Told
  pub answered : IsDone client command answer next old part
  pub shown : drained ≡ record_text (whole_record old) → text ≡ record_text (record_of old.config (world_of old) part) ++ answer_line answer
  pub rests : IsAtRestBy old part

-- Over every link: the text is what the link gave and the answer line, of an answer that has what it needs.
pub record IsSaid (long : ℕ) (command : Command) (before now : Counted) (drained_before drained_now text : List ℕ) : Type 0 where
  pub lines : List ℕ
  pub answer : Told
  pub needed : Needs long (IsMet before.handed now.handed before.clock now.clock) command answer
  pub counted : FaultIsCounted before.faults now.faults answer
  pub drained : drained_now ≡ drained_before ++ lines
  pub is : text ≡ lines ++ answer_line answer
