use Rattle.std.proofs.Common.{rules}
use Rattle.sd_turnstile.proofs.Settling.{settles}
use Rattle.sd_turnstile.proofs.seat.Turnstile.settle.Goals as goal

pub load-requires : goal.load-requires
load-requires g c = (search rules, search rules, settles _ _ _ _ _ _ _ _ c.requires.idle.0 c.requires.idle.1 c.requires.told)
