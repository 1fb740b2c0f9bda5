use Rattle.std.proofs.Common.{◌≡◌, take}
use Rattle.std.specs.List.{flat_map}
use Rattle.sd_server.specs.Sessions.{session_of}
use Rattle.sd_server.specs.Ticking.{due_at}
use Rattle.sd_server.proofs.ticking.all_due.Given as goal

abbrev pub invariant-loop-session : goal.invariant-loop-session
invariant-loop-session l = l.list ≡ flat_map (λ s. due_at l.config l.tick (session_of l.config s)) (take l.session-index l.sessions)
