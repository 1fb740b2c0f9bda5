-- The rules that every script keeps, whatever its text.
use Rattle.std.specs.Prelude.{◌≤◌, length}
use Rattle.std.specs.List.{All}
use Rattle.sd_config.specs.Config.{IsConfig}
use Rattle.sd_config.specs.Events.{IsEvents}
use Rattle.sd_config.specs.Commands.{IsCommand, command_limit}
use Rattle.sd_script.specs.declared.script.Script.{Script}

pub record KeepsRules (script : Script) : Type 0 where
  pub config : IsConfig script.config
  pub events : IsEvents script.config script.events
  pub commands : All IsCommand script.commands
  pub few : length script.commands ≤ command_limit
