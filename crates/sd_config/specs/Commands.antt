-- What a client may be asked to do.
use Rattle.std.specs.Prelude.{ℕ}
use Rattle.sd_config.specs.Config.{IsWithin}
use Rattle.sd_config.specs.declared.command.Command.{Command}
use Rattle.sd_config.specs.declared.command.Command.TheVariants.{Addr, Wait, Boot}

-- the most commands
abbrev pub command_limit : ℕ
command_limit = 16384

abbrev pub IsCommand : Command → Type 0
IsCommand Addr = Unit {0}
IsCommand (Wait ticks) = IsWithin 1 100000 ticks
IsCommand Boot = Unit {0}
