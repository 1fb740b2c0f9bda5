use Rattle.std.proofs.Common.{None}
use Rattle.sd_turnstile.proofs.seat.Turnstile.leave.Given as goal

abbrev pub ghosts-leave_told : goal.ghosts-leave_told
ghosts-leave_told g a = record { number = a.place.now.id; start = None; entry = g.A.Account.entry a._account.now a.place.now.id }
