use Rattle.std.proofs.Common.{◌≡◌, ◌++◌, take, drop, map, ◌==◌, if◌then◌else◌}
use Rattle.sd_server.proofs.sessions.put_session.Given as goal

abbrev pub invariant-loop-place : goal.invariant-loop-place
invariant-loop-place l =
    l.list ≡ map (λ s. if s.number == l.new.number then l.new else s) (take l.place l.initial.list) ++ drop l.place l.initial.list
