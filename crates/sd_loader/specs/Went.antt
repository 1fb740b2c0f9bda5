-- What several calls came to, in the words of one part: what they tell, how often the network failed, and how long they took.
use Rattle.std.specs.Prelude.{◌≡◌, ℕ, ◌+◌, ◌*◌, ◌≤◌, List, Result, Ok, Err}
use Rattle.sd_link.specs.Steps.{Step, History}
use Rattle.sd_link.specs.Parts.{ticks_in, fails_in}
use Rattle.sd_rpc_retry.specs.declared.calling.CallError.TheVariants as error
use Rattle.sd_rpc_retry.specs.Lasting.{most_asking_ticks}
use Rattle.sd_loader.specs.declared.errors.LoadError.{LoadError}
use Rattle.sd_loader.specs.declared.errors.LoadError.TheVariants.{Call}

-- how often the link failed: once, where the answer says so
abbrev pub error_fails : LoadError → ℕ
error_fails (Call step error.LinkFault) = 1
error_fails other = 0

abbrev pub load_fails : {T : Type 0} → Result T LoadError → ℕ
load_fails (Ok told) = 0
load_fails (Err why) = error_fails why

-- The calls with the numbers from one up to another came to this.
pub record Went (told : History → List Step → Type 0) (failures from next : ℕ) (h : History) (part : List Step) : Type 0 where
  pub came : told h part
  pub fails : fails_in part ≡ failures
  pub brief : ticks_in part + from * most_asking_ticks ≤ next * most_asking_ticks
