use Rattle.std.proofs.Common.{refl, Some}
use Rattle.sd_turnstile.proofs.Beginning.{begins}
use Rattle.sd_turnstile.proofs.Ordered.{exchanged}
use Rattle.sd_turnstile.proofs.Drawing.{draws}
use Rattle.sd_turnstile.proofs.Looking.{looks}
use Rattle.sd_turnstile.proofs.Advancing.{advances}
use Rattle.sd_turnstile.proofs.Splitting.{splits}
use Rattle.sd_turnstile.proofs.Joining.{joins}
use Rattle.sd_turnstile.proofs.Settling.{settles}
use Rattle.sd_turnstile.proofs.seat.Turnstile.order_is_kept.Goals as goal

pub returns : goal.returns
returns g c start seats =
    let caller = g.O.Held.caller in
    let leads = g.O.Held.leads in
    record {
      opens = λ one_part few. begins caller leads start seats one_part few (g.O.Held.stays start);
      draws = draws caller leads start seats;
      looks = λ slots id t m waits part. looks caller leads start seats slots id id t (Some start) m waits part refl refl;
      takes_out = λ id t x m serving has s r at. exchanged caller leads start seats s r id t m.0 at serving;
      puts_back = λ id t x m serving has s r at. exchanged caller leads start seats s r id t m.0 at serving;
      advances = advances caller leads start seats;
      splits = splits caller leads start seats;
      joins = joins caller leads start seats;
      settles = λ slots id m idle part. settles caller leads start seats slots id id m idle part refl;
    }
