-- The network that a script begins with.
use Rattle.std.specs.Prelude.{◌≡◌, List, []}
use Rattle.sd_config.specs.declared.config.ClientConfig.{ClientConfig}
use Rattle.sd_config.specs.declared.command.Command.{Command}
use Rattle.sd_config.specs.Config.{IsConfig, IsFor}
use Rattle.sd_config.specs.Events.{IsEvents}
use Rattle.sd_link.specs.Steps.{History}
use Rattle.sd_script.specs.declared.script.Script.{Script}
use Rattle.sd_segment.specs.Segment.{SegmentView, history_of, text_drained}

-- the script with the configuration and the events of a history, and these commands
abbrev pub script_of : History → List Command → Script
script_of h commands = record { config = h.config; events = h.events; commands = commands }

-- a network of a configuration that keeps the rules, for this client, in which nothing happened yet
pub record IsNew (client : ClientConfig) (s : SegmentView) : Type 0 where
  pub config : IsConfig s.config
  pub events : IsEvents s.config s.events
  pub same : IsFor s.config client
  pub nothing : (history_of s).steps ≡ []
  pub drained : text_drained s ≡ []
