-- What is learned of one's own address, in the code's words and in the standard's.
use Rattle.std.specs.Prelude.{List}
use Rattle.sd_config.specs.declared.config.ClientConfig.{ClientConfig}
use Rattle.sd_config.specs.Config.{IsFor}
use Rattle.sd_link.specs.Link.{IsSettledBy}
use Rattle.sd_link.specs.Steps.{Step, History}
use Rattle.sd_config.specs.declared.command.Command.TheVariants.{Addr}
use Rattle.sd_config.specs.declared.told.Told.{Told}
use Rattle.sd_claims.specs.Booting.{Counts}
use Rattle.sd_claims.specs.Causes.{Cause}
use Rattle.sd_claims.specs.Ending.{EndsAfter}
use Rattle.sd_claims.specs.Rarp.{Learned}
use Rattle.sd_boot_chain.specs.declared.address.Learned as code

abbrev pub shows_learned : code.Learned → Learned
shows_learned found = record { address = found.address; responder = found.responder }

-- the answer has its cause, whatever was counted before, and the command ends as it says
abbrev pub IsAddrAnswer : ClientConfig → Told → History → List Step → Type 0
IsAddrAnswer client answer old part = IsFor old.config client → ((n : Counts) → Cause (IsSettledBy old) old.config n Addr answer n part) × EndsAfter old answer part
