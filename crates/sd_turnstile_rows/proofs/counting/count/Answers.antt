use Rattle.std.proofs.Common.{◌+◌, List, refl, sym, subst}
use Rattle.sd_turnstile.specs.Seats.{opening_of, seen_by}
use Rattle.sd_turnstile_rows.specs.Counting.{leads, leads_on, counter}
use Rattle.sd_turnstile_rows.specs.declared.counter.Added.{Added}
use Rattle.sd_turnstile_rows.proofs.counting.count.Goals as goal

pub leave-requires-2-clause-legal : goal.leave-requires-2-clause-legal
leave-requires-2-clause-legal g c κs = leads_on _ _ _ (seen_by c.enter-counter.new.seat) _ c.enter-counter.ensures.legal (refl, refl)

pub returns-clause-legal : goal.returns-clause-legal
returns-clause-legal g c = (
  counter (c.enter-counter.result.value + 1),
  subst (λ (l : List Added). leads (opening_of c.args.turnstile.now) l (counter (c.enter-counter.result.value + 1))) (sym c.leave-2.ensures.seen)
      (leads_on _ _ _ (seen_by c.enter-counter.new.seat) _ c.enter-counter.ensures.legal (refl, refl)),
)
