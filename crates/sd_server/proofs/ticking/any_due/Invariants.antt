use Rattle.std.proofs.Common.{◌≡◌, take}
use Rattle.std.specs.List.{list_any}
use Rattle.sd_services.specs.Sessions.{is_due}
use Rattle.sd_server.specs.Sessions.{session_of}
use Rattle.sd_server.proofs.ticking.any_due.Given as goal

abbrev pub invariant-loop-session : goal.invariant-loop-session
invariant-loop-session l = l.any ≡ list_any (λ s. is_due l.config l.tick (session_of l.config s)) (take l.session-index l.sessions)
