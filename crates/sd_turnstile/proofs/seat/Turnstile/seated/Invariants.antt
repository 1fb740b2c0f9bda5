use Rattle.std.proofs.Common.{None}
use Rattle.sd_turnstile.proofs.seat.Turnstile.seated.Given as goal

abbrev pub ghosts-settle : goal.ghosts-settle
ghosts-settle g a = record { number = a.place.now.id; start = None; entry = None }
