use Rattle.std.proofs.Common.{◌≡◌, drop}
use Rattle.std.specs.List.{find}
use Rattle.sd_services.specs.Sessions.{is_session_of}
use Rattle.sd_server.specs.Sessions.{session_of}
use Rattle.sd_server.proofs.sessions.session_at.Given as goal

abbrev pub invariant-loop-session : goal.invariant-loop-session
invariant-loop-session l =
    find (λ s. is_session_of l.port l.peer (session_of l.config s)) (drop l.session-index l.sessions) ≡ find (λ s. is_session_of l.port l.peer (session_of l.config s)) l.sessions
