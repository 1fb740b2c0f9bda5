use Rattle.std.proofs.Common.{None}
use Rattle.sd_turnstile.proofs.seat.Turnstile.join.Given as goal

abbrev pub ghosts-join_told : goal.ghosts-join_told
ghosts-join_told g a = record { number = a.other.id }

abbrev pub ghosts-settle : goal.ghosts-settle
ghosts-settle g a = record { number = a.place.now.id; start = None; entry = None }
