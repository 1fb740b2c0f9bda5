-- What becomes of a session by what its sender answers.
use Rattle.std.specs.Prelude.{◌≡◌, ℕ, ◌≤◌, false, [], ◌∷◌}
use Rattle.sd_tftp.specs.Transfer.{Transfer}
use Rattle.sd_tftp.specs.declared.step.SenderStep.{SenderStep}
use Rattle.sd_tftp.specs.declared.step.SenderStep.TheVariants as says
use Rattle.sd_config.specs.declared.config.Config.{Config}
use Rattle.sd_outside.specs.declared.packet.Addr.{Addr}
use Rattle.sd_services.specs.Part.{Session, ServerPart, Replied, silence}
use Rattle.sd_services.specs.Sessions.{with_session, ended, begun, block_packet}
use Rattle.sd_server.specs.declared.sessions.Sending.{Sending}
use Rattle.sd_server.specs.Sessions.{session_of, name_at}

-- the session with this sender
abbrev pub sending_with : Sending → Transfer → Sending
sending_with s sender = record { number = s.number; file = s.file; peer = s.peer; sender = sender }

-- the next block has the number that was answered, and the sender goes on
abbrev pub MayStep : Sending → SenderStep → Transfer → Type 0
MayStep s says.Ignored sender = Unit {0}
MayStep s (says.Stranger to) sender = Unit {0}
MayStep s (says.Next number) sender = (number ≡ sender.block) × (sender.peer ≡ s.peer) × (sender.ended ≡ false) × (1 ≤ sender.block)
MayStep s says.Done sender = Unit {0}

abbrev pub after_step : Config → ServerPart → Sending → SenderStep → Transfer → Replied
after_step c part s says.Ignored sender = silence part
after_step c part s (says.Stranger to) sender = silence part
after_step c part s (says.Next number) sender = record {
  out = block_packet c (session_of c (sending_with s sender)) ∷ [];
  next = record part { sessions = with_session (session_of c (sending_with s sender)) part.sessions };
}
after_step c part s says.Done sender = ended part (session_of c s)

-- the session that begins with the file at a place
abbrev pub begins_with : Config → ℕ → ℕ → Addr → ℕ → Session
begins_with c made tick from file = record { number = made; peer = from; name = name_at c file; block = 1; sent = tick; sends = 1 }

abbrev pub begun_with : Config → ServerPart → Session → Replied
begun_with c part s = record { out = block_packet c s ∷ []; next = begun part s }
