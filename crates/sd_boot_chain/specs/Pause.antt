-- What a pause shows.
use Rattle.std.specs.Prelude.{◌≡◌, ℕ, ◌<◌, ◌≤◌, List, [], ◌∷◌, ◌++◌, length}
use Rattle.sd_link.specs.Steps.{Step, Fail, History, world_of, run}
use Rattle.sd_link.specs.Parts.{sends_in, got_in}
use Rattle.sd_link.specs.Link.{IsSettledBy}
use Rattle.sd_link.specs.Tries.{EndsWithPacket, flood_limit}
use Rattle.sd_config.specs.declared.command.Command.TheVariants.{Wait}
use Rattle.sd_config.specs.declared.told.Told.{Told}
use Rattle.sd_claims.specs.Booting.{Counts}
use Rattle.sd_claims.specs.Causes.{Cause}
use Rattle.sd_claims.specs.Ending.{EndsAfter}
use Rattle.sd_claims.specs.Waiting.{Waited, WaitFlooded, WaitFailed}
use Rattle.sd_rpc_retry.specs.Lasting.{StaysBefore}
use Rattle.sd_boot_chain.specs.declared.pause.Pause.{Pause}
use Rattle.sd_boot_chain.specs.declared.pause.Pause.TheVariants.{Over, Flood, Fault}

abbrev pub Ended : ℕ → Pause → History → List Step → Type 0
Ended until Over old part = (until ≤ (run old.config (world_of old) part).tick) × (length (got_in part) < flood_limit) × IsSettledBy old part
Ended until Flood old part = (length (got_in part) ≡ flood_limit) × EndsWithPacket (λ packet. []) part
Ended until Fault old part = (length (got_in part) < flood_limit) × (before : List Step) × (part ≡ before ++ Fail ∷ [])

-- the client only gets packets, until this tick
pub record Passes (until : ℕ) (pause : Pause) (old : History) (part : List Step) : Type 0 where
  pub silent : sends_in part ≡ []
  pub ticks : StaysBefore until old part
  pub ended : Ended until pause old part

abbrev pub IsPause : ℕ → Pause → History → List Step → Type 0
IsPause ticks Over old part = Waited (IsSettledBy old) ticks part
IsPause ticks Flood old part = WaitFlooded ticks part
IsPause ticks Fault old part = WaitFailed ticks part

-- the answer has its cause, whatever was counted before, and the command ends as it says
abbrev pub IsWaitAnswer : ℕ → Told → History → List Step → Type 0
IsWaitAnswer ticks answer old part = ((n : Counts) → Cause (IsSettledBy old) old.config n (Wait ticks) answer n part) × EndsAfter old answer part
