use Rattle.std.proofs.Common.{◌≡◌}
use Rattle.sd_turnstile.specs.History.{StartsWith}
use Rattle.sd_turnstile.specs.Seats.{number_of, parts_of, seen_by, own_of, IsSeatOf, IsIdle}
use Rattle.sd_turnstile_rows.proofs.counting.count_all.Given as goal

abbrev pub invariant-loop : goal.invariant-loop
invariant-loop g l =
    record {
      of : IsSeatOf l.turnstile l.seat;
      idle : IsIdle l.seat;
      number : number_of l.seat ≡ number_of l.initial.seat;
      parts : parts_of l.seat ≡ parts_of l.initial.seat;
      seen : StartsWith (seen_by l.seat) (seen_by l.initial.seat);
      own : StartsWith (own_of l.seat) (own_of l.initial.seat);
    }
