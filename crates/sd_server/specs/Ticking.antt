-- What the sessions do at a tick, as the code has it.
use Rattle.std.specs.Prelude.{ℕ, List, [], ◌∷◌, if◌then◌else◌}
use Rattle.sd_tftp.specs.Transfer.{Transfer}
use Rattle.sd_tftp.specs.SenderTurn as sending
use Rattle.sd_tftp.specs.declared.step.SenderTick.{SenderTick}
use Rattle.sd_tftp.specs.declared.step.SenderTick.TheVariants as says
use Rattle.sd_config.specs.declared.config.Config.{Config}
use Rattle.sd_server.specs.declared.sessions.Sending.{Sending}
use Rattle.sd_services.specs.Part.{Session}
use Rattle.sd_services.specs.Sessions.{is_due}
use Rattle.sd_server.specs.declared.ticking.Due.{Due}
use Rattle.sd_server.specs.Ticks.{due_of}
use Rattle.sd_server.specs.Stepping.{sending_with}

abbrev pub kept_as : Sending → SenderTick → Transfer → List Sending
kept_as s says.Rest sender = s ∷ []
kept_as s (says.Resend number) sender = sending_with s sender ∷ []
kept_as s says.Ended sender = []

abbrev pub kept_by : Sending → sending.Tick → List Sending
kept_by s t = kept_as s t.says t.becomes

abbrev pub sending_kept : Config → ℕ → Sending → List Sending
sending_kept c tick s = kept_by s (sending.tick s.sender tick c.wait c.tries)

-- a session where it is due
abbrev pub due_at : Config → ℕ → Session → List Due
due_at c tick s = if is_due c tick s then due_of c s ∷ [] else []
