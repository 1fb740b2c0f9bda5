use Rattle.std.proofs.Common.{Some, None}
use Rattle.sd_turnstile.proofs.seat.Turnstile.enter.Given as goal

abbrev pub ghosts-enter_told : goal.ghosts-enter_told
ghosts-enter_told g a = record { number = a.place.now.id; start = Some a.self.now.table.shared.key.object.value; entry = None }
