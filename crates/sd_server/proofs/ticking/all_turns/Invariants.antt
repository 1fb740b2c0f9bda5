use Rattle.std.proofs.Common.{◌≡◌, take}
use Rattle.std.specs.List.{flat_map}
use Rattle.sd_server.specs.Sessions.{session_of}
use Rattle.sd_server.specs.Ticks.{sent_at}
use Rattle.sd_server.specs.Ticking.{sending_kept}
use Rattle.sd_server.proofs.ticking.all_turns.Given as goal

abbrev pub invariant-loop-session : goal.invariant-loop-session
invariant-loop-session l =
    (l.done.packets ≡ flat_map (λ s. sent_at l.config l.tick (session_of l.config s)) (take l.session-index l.sessions))
    × (l.done.sessions.items ≡ flat_map (sending_kept l.config l.tick) (take l.session-index l.sessions))
