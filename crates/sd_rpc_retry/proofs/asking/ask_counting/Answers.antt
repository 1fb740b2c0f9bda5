use Rattle.sd_rpc_retry.specs.declared.asking.Heard.{Heard}
use Rattle.std.proofs.Common.{Ok, ◌≡◌, ◌+◌, ◌*◌, ◌≤◌, refl, sym, ◌∙◌, subst, arith}
use Rattle.sd_link.specs.Link.{Moves, IsNow, IsReached}
use Rattle.sd_link.specs.Parts.{ticks_in}
use Rattle.sd_link.proofs.Histories.{moves_not, moves_then, moves_weaker}
use Rattle.sd_rpc_retry.specs.declared.asking.Heard.TheVariants.{Found, Nothing, Flood, Fault}
use Rattle.sd_rpc_retry.specs.declared.asking.Asked.TheVariants as asked
use Rattle.sd_rpc_retry.specs.Lasting.{Lasts, Fails, most_asking_ticks}
use Rattle.sd_rpc_retry.specs.Asking.{Tried, IsAsked, IsNotFound, IsFound}
use Rattle.sd_rpc_retry.proofs.Lasting.{lasts_none, lasts_then, lasts_more}
use Rattle.sd_rpc_retry.proofs.Trying.{Vain, vain_none, vain_more, answered, flooded, failed, timed_out}
use Rattle.std.specs.Prelude.{Result}
use Rattle.std.proofs.lemmas.Result.{err_from_is_err_and}
use Rattle.sd_outside.specs.declared.errors.NoMemory.{NoMemory}
use Rattle.sd_rpc_retry.specs.declared.asking.Asked.{Asked}
use Rattle.sd_rpc_retry.specs.Sending.{WaitedIn, IsStillButFor, IsTallied, heard_fails, asked_fails, SendsOnly, IsAsking}
use Rattle.std.specs.Prelude.{IfSome}
use Rattle.sd_rpc_retry.proofs.Sent.{only_none, only_then}
use Rattle.sd_rpc_retry.proofs.Lawfulness.{lawful_from}
use Rattle.sd_rpc_retry.proofs.Tallying.{Counted, counted_none, moves_more, moves_answer, moves_flood, moves_fault, moves_wanting, moves_timeout}
use Rattle.sd_rpc_retry.proofs.Failing.{fails_none, fails_then}
use Rattle.sd_rpc_retry.proofs.asking.ask_counting.Goals as goal

pub loop-count-init : goal.loop-count-init
loop-count-init g c = record {
  moves = moves_not _ (Vain c.args.request.now (g.H.Listener.hearing c.args.listener.now) c.args.wait 0) (vain_none c.args.request.now (g.H.Listener.hearing c.args.listener.now) c.args.wait);
  counted = moves_not _ (Counted c.args.request.now (g.H.Listener.hearing c.args.listener.now) c.args.wait 0 0) (counted_none c.args.request.now (g.H.Listener.hearing c.args.listener.now) c.args.wait 0);
  sends = refl;
  same = refl;
  lasts = lasts_none _ 0;
  asks = only_none (IsAsking c.args.request.now (g.H.Listener.hearing c.args.listener.now)) _;
  lawful = λ some. absurd (omega (arith, some));
  fails = fails_none _;
  waited = omega arith;
  began = λ some. absurd (omega (arith, some));
  ended = λ some. absurd (omega (arith, some));
  low = omega arith;
  counts = omega arith;
  faults = omega arith;
  drained = refl;
}

pub returns-in_err-found-clause-lasts : goal.returns-in_err-found-clause-lasts
returns-in_err-found-clause-lasts g c =
    lasts_then _ _ _ (c.loop-count.count * 1000) 1000 most_asking_ticks (omega (arith, c.loop-count-test.true, c.requires.tries)) c.loop-count.invariant.lasts (subst (λ o. Lasts 1000 o (g.L.Link.told c.try_once.new.link)) c.now-tally.ensures.told c.try_once.ensures.goes)

pub returns-in-Found-clause-lasts : goal.returns-in-Found-clause-lasts
returns-in-Found-clause-lasts g c =
    lasts_then _ _ _ (c.loop-count.count * 1000) 1000 most_asking_ticks (omega (arith, c.loop-count-test.true, c.requires.tries)) c.loop-count.invariant.lasts (subst (λ o. Lasts 1000 o (g.L.Link.told c.try_once.new.link)) c.now-tally.ensures.told c.try_once.ensures.goes)

pub returns-in-Flood-clause-lasts : goal.returns-in-Flood-clause-lasts
returns-in-Flood-clause-lasts g c =
    lasts_then _ _ _ (c.loop-count.count * 1000) 1000 most_asking_ticks (omega (arith, c.loop-count-test.true, c.requires.tries)) c.loop-count.invariant.lasts (subst (λ o. Lasts 1000 o (g.L.Link.told c.try_once.new.link)) c.now-tally.ensures.told c.try_once.ensures.goes)

pub returns-in-Fault-clause-lasts : goal.returns-in-Fault-clause-lasts
returns-in-Fault-clause-lasts g c =
    lasts_then _ _ _ (c.loop-count.count * 1000) 1000 most_asking_ticks (omega (arith, c.loop-count-test.true, c.requires.tries)) c.loop-count.invariant.lasts (subst (λ o. Lasts 1000 o (g.L.Link.told c.try_once.new.link)) c.now-tally.ensures.told c.try_once.ensures.goes)

pub returns-clause-lasts : goal.returns-clause-lasts
returns-clause-lasts g c = lasts_more _ _ (c.loop-count.count * 1000) most_asking_ticks (omega (arith, c.requires.tries)) c.loop-count.invariant.lasts

pub returns-in-Found-clause-told : goal.returns-in-Found-clause-told
returns-in-Found-clause-told g c =
    let request = c.args.request.now in
    let h = g.H.Listener.hearing c.args.listener.now in
    let shows = g.H.Listener.shows c.try_once.new.listener in
    let told =
    subst (λ l. Moves (g.L.Link.told c.loop-count.link) (g.L.Link.told c.try_once.new.link) (Tried request (g.H.Listener.hearing l) shows c.args.wait (Found c.in-Found.found))) c.loop-count.invariant.same
    (subst (λ e. Moves (g.L.Link.told c.loop-count.link) (g.L.Link.told c.try_once.new.link) (Tried request (g.H.Listener.hearing c.loop-count.listener) shows c.args.wait e)) c.in-Found.is (subst (λ o. Moves o (g.L.Link.told c.try_once.new.link) (Tried request (g.H.Listener.hearing c.loop-count.listener) shows c.args.wait c.in_ok-found.field-0)) c.now-tally.ensures.told c.in_ok-found.ensures.told)) in
    moves_then _ _ _ (Vain request h c.args.wait c.loop-count.count) (Tried request h shows c.args.wait (Found c.in-Found.found)) (IsAsked request h shows c.args.tries c.args.wait (asked.Answer c.in-Found.found))
    (λ a b xs ys goes v t. answered request h shows c.args.wait c.loop-count.count a b xs ys goes v c.args.tries c.in-Found.found c.loop-count-test.true t)
    c.loop-count.invariant.moves told

pub returns-in-Found-clause-found : goal.returns-in-Found-clause-found
returns-in-Found-clause-found g c =
    let shows = g.H.Listener.shows c.try_once.new.listener in
    subst (λ l. IsFound (g.H.Listener.hearing l) shows (Found c.in-Found.found)) c.loop-count.invariant.same
    (subst (λ e. IsFound (g.H.Listener.hearing c.loop-count.listener) shows e) c.in-Found.is c.in_ok-found.ensures.found)

pub returns-in-Flood-clause-told : goal.returns-in-Flood-clause-told
returns-in-Flood-clause-told g c =
    let request = c.args.request.now in
    let h = g.H.Listener.hearing c.args.listener.now in
    let shows = g.H.Listener.shows c.try_once.new.listener in
    let told =
    subst (λ l. Moves (g.L.Link.told c.loop-count.link) (g.L.Link.told c.try_once.new.link) (Tried request (g.H.Listener.hearing l) shows c.args.wait Flood)) c.loop-count.invariant.same
    (subst (λ e. Moves (g.L.Link.told c.loop-count.link) (g.L.Link.told c.try_once.new.link) (Tried request (g.H.Listener.hearing c.loop-count.listener) shows c.args.wait e)) c.in-Flood.is (subst (λ o. Moves o (g.L.Link.told c.try_once.new.link) (Tried request (g.H.Listener.hearing c.loop-count.listener) shows c.args.wait c.in_ok-found.field-0)) c.now-tally.ensures.told c.in_ok-found.ensures.told)) in
    moves_then _ _ _ (Vain request h c.args.wait c.loop-count.count) (Tried request h shows c.args.wait Flood) (IsAsked request h shows c.args.tries c.args.wait asked.Flood)
    (λ a b xs ys goes v t. flooded request h shows c.args.wait c.loop-count.count a b xs ys goes v c.args.tries c.loop-count-test.true t)
    c.loop-count.invariant.moves told

pub loop-count-preserved : goal.loop-count-preserved
loop-count-preserved g c =
    let request = c.args.request.now in
    let h = g.H.Listener.hearing c.args.listener.now in
    let shows = g.H.Listener.shows c.try_once.new.listener in
    let told =
    subst (λ l. Moves (g.L.Link.told c.loop-count.link) (g.L.Link.told c.try_once.new.link) (Tried request (g.H.Listener.hearing l) shows c.args.wait Nothing)) c.loop-count.invariant.same
    (subst (λ e. Moves (g.L.Link.told c.loop-count.link) (g.L.Link.told c.try_once.new.link) (Tried request (g.H.Listener.hearing c.loop-count.listener) shows c.args.wait e)) c.in-Nothing.is (subst (λ o. Moves o (g.L.Link.told c.try_once.new.link) (Tried request (g.H.Listener.hearing c.loop-count.listener) shows c.args.wait c.in_ok-found.field-0)) c.now-tally.ensures.told c.in_ok-found.ensures.told)) in
    let at : IsNow (g.L.Link.told c.loop-count.link) c.now-tally.result =
    subst (λ o. IsNow o c.now-tally.result) c.now-tally.ensures.told (subst (λ n. IsNow (g.L.Link.told c.now-tally.new.self) n) (sym c.now-tally.ensures.value) c.now-tally.ensures.tick) in
    let waited : WaitedIn {T = g.row.H-Found.Denot} (g.L.Link.clock c.now-tally.new.self + c.args.wait) Nothing (g.L.Link.clock c.try_once.new.link) =
    subst (λ e. WaitedIn {T = g.row.H-Found.Denot} (g.L.Link.clock c.now-tally.new.self + c.args.wait) e (g.L.Link.clock c.try_once.new.link)) c.in-Nothing.is c.in_ok-found.ensures.waited in
    record {
      moves =
          moves_then _ _ _ (Vain request h c.args.wait c.loop-count.count) (Tried request h shows c.args.wait Nothing) (Vain request h c.args.wait (c.loop-count.count + 1))
          (λ a b xs ys goes v t. vain_more request h shows c.args.wait c.loop-count.count a b xs ys goes v t)
          c.loop-count.invariant.moves told;
      counted = moves_more _ request h c.args.wait c.loop-count.count c.loop-count.tally.last c.now-tally.result _ _ _ c.loop-count.invariant.counted at shows told;
      sends = refl;
      same = c.in_ok-found.ensures.same (subst IsNotFound (sym c.in-Nothing.is) tt) ∙ c.loop-count.invariant.same;
      lasts = lasts_then _ _ _ (c.loop-count.count * 1000) 1000 ((c.loop-count.count + 1) * 1000) (omega arith) c.loop-count.invariant.lasts (subst (λ o. Lasts 1000 o (g.L.Link.told c.try_once.new.link)) c.now-tally.ensures.told c.try_once.ensures.goes);
      asks = only_then (IsAsking c.args.request.now (g.H.Listener.hearing c.args.listener.now)) _ _ _ c.loop-count.invariant.asks
          (subst (λ o. SendsOnly (IsAsking c.args.request.now (g.H.Listener.hearing c.args.listener.now)) o (g.L.Link.told c.try_once.new.link)) c.now-tally.ensures.told
          (subst (λ l. SendsOnly (IsAsking c.args.request.now (g.H.Listener.hearing l)) (g.L.Link.told c.now-tally.new.self) (g.L.Link.told c.try_once.new.link)) c.loop-count.invariant.same c.try_once.ensures.sends));
      lawful = λ some. lawful_from _ _ (λ old part. ticks_in part ≤ c.loop-count.count * 1000) c.loop-count.invariant.lasts (subst (λ o. IfSome o IsReached) c.now-tally.ensures.told c.now-tally.ensures.world);
      fails = fails_then _ _ _ 0 c.loop-count.invariant.fails
          (subst (λ o. Fails 0 o (g.L.Link.told c.try_once.new.link)) c.now-tally.ensures.told
          (subst (λ (e : Heard g.row.H-Found.Denot). Fails (heard_fails (Ok e)) (g.L.Link.told c.now-tally.new.self) (g.L.Link.told c.try_once.new.link)) c.in-Nothing.is c.in_ok-found.ensures.fails));
      waited = omega (arith, c.loop-count.invariant.waited, c.now-tally.ensures.later, waited);
      began = λ some. omega (arith, c.loop-count.invariant.waited, c.now-tally.ensures.later, c.now-tally.ensures.value);
      ended = λ some. omega (arith, c.now-tally.ensures.value, c.try_once.ensures.later);
      low = c.now-tally.ensures.bound;
      counts = omega (arith, c.loop-count.invariant.counts, c.now-tally.ensures.handed, c.try_once.ensures.counts);
      faults = omega (arith, c.try_once.ensures.faults, c.now-tally.ensures.faults, c.loop-count.invariant.faults);
      drained = c.try_once.ensures.drained ∙ c.now-tally.ensures.drained ∙ c.loop-count.invariant.drained;
    }

pub returns-clause-told : goal.returns-clause-told
returns-clause-told g c =
    let request = c.args.request.now in
    let h = g.H.Listener.hearing c.args.listener.now in
    let shows = g.H.Listener.shows c.loop-count.listener in
    let all : c.loop-count.count ≡ c.args.tries = omega arith in
    moves_weaker _ _ (Vain request h c.args.wait c.loop-count.count) (IsAsked request h shows c.args.tries c.args.wait asked.Timeout)
    (λ old part v. timed_out request h shows c.args.wait c.args.tries old part (subst (λ n. Vain request h c.args.wait n old part) all v))
    c.loop-count.invariant.moves

pub returns-in-Fault-clause-told : goal.returns-in-Fault-clause-told
returns-in-Fault-clause-told g c =
    let request = c.args.request.now in
    let h = g.H.Listener.hearing c.args.listener.now in
    let shows = g.H.Listener.shows c.try_once.new.listener in
    let told =
    subst (λ l. Moves (g.L.Link.told c.loop-count.link) (g.L.Link.told c.try_once.new.link) (Tried request (g.H.Listener.hearing l) shows c.args.wait Fault)) c.loop-count.invariant.same
    (subst (λ e. Moves (g.L.Link.told c.loop-count.link) (g.L.Link.told c.try_once.new.link) (Tried request (g.H.Listener.hearing c.loop-count.listener) shows c.args.wait e)) c.in-Fault.is (subst (λ o. Moves o (g.L.Link.told c.try_once.new.link) (Tried request (g.H.Listener.hearing c.loop-count.listener) shows c.args.wait c.in_ok-found.field-0)) c.now-tally.ensures.told c.in_ok-found.ensures.told)) in
    moves_then _ _ _ (Vain request h c.args.wait c.loop-count.count) (Tried request h shows c.args.wait Fault) (IsAsked request h shows c.args.tries c.args.wait asked.Fault)
    (λ a b xs ys goes v t. failed request h shows c.args.wait c.loop-count.count a b xs ys goes v c.args.tries c.loop-count-test.true t)
    c.loop-count.invariant.moves told

pub returns-in-Found-clause-tallied : goal.returns-in-Found-clause-tallied
returns-in-Found-clause-tallied g c =
    let request = c.args.request.now in
    let h = g.H.Listener.hearing c.args.listener.now in
    let shows = g.H.Listener.shows c.try_once.new.listener in
    let at : IsNow (g.L.Link.told c.loop-count.link) c.now-tally.result =
    subst (λ o. IsNow o c.now-tally.result) c.now-tally.ensures.told (subst (λ n. IsNow (g.L.Link.told c.now-tally.new.self) n) (sym c.now-tally.ensures.value) c.now-tally.ensures.tick) in
    let told =
    subst (λ l. Moves (g.L.Link.told c.loop-count.link) (g.L.Link.told c.try_once.new.link) (Tried request (g.H.Listener.hearing l) shows c.args.wait (Found c.in-Found.found))) c.loop-count.invariant.same
    (subst (λ e. Moves (g.L.Link.told c.loop-count.link) (g.L.Link.told c.try_once.new.link) (Tried request (g.H.Listener.hearing c.loop-count.listener) shows c.args.wait e)) c.in-Found.is (subst (λ o. Moves o (g.L.Link.told c.try_once.new.link) (Tried request (g.H.Listener.hearing c.loop-count.listener) shows c.args.wait c.in_ok-found.field-0)) c.now-tally.ensures.told c.in_ok-found.ensures.told)) in
    moves_answer _ request h c.args.wait c.loop-count.count c.loop-count.tally.last c.now-tally.result _ _ _ c.loop-count.invariant.counted at shows c.in-Found.found told

pub returns-in-Flood-clause-tallied : goal.returns-in-Flood-clause-tallied
returns-in-Flood-clause-tallied g c =
    let request = c.args.request.now in
    let h = g.H.Listener.hearing c.args.listener.now in
    let shows = g.H.Listener.shows c.try_once.new.listener in
    let at : IsNow (g.L.Link.told c.loop-count.link) c.now-tally.result =
    subst (λ o. IsNow o c.now-tally.result) c.now-tally.ensures.told (subst (λ n. IsNow (g.L.Link.told c.now-tally.new.self) n) (sym c.now-tally.ensures.value) c.now-tally.ensures.tick) in
    let told =
    subst (λ l. Moves (g.L.Link.told c.loop-count.link) (g.L.Link.told c.try_once.new.link) (Tried request (g.H.Listener.hearing l) shows c.args.wait Flood)) c.loop-count.invariant.same
    (subst (λ e. Moves (g.L.Link.told c.loop-count.link) (g.L.Link.told c.try_once.new.link) (Tried request (g.H.Listener.hearing c.loop-count.listener) shows c.args.wait e)) c.in-Flood.is (subst (λ o. Moves o (g.L.Link.told c.try_once.new.link) (Tried request (g.H.Listener.hearing c.loop-count.listener) shows c.args.wait c.in_ok-found.field-0)) c.now-tally.ensures.told c.in_ok-found.ensures.told)) in
    moves_flood _ request h c.args.wait c.loop-count.count c.loop-count.tally.last c.now-tally.result _ _ _ c.loop-count.invariant.counted at shows told

pub returns-in-Fault-clause-tallied : goal.returns-in-Fault-clause-tallied
returns-in-Fault-clause-tallied g c =
    let request = c.args.request.now in
    let h = g.H.Listener.hearing c.args.listener.now in
    let shows = g.H.Listener.shows c.try_once.new.listener in
    let at : IsNow (g.L.Link.told c.loop-count.link) c.now-tally.result =
    subst (λ o. IsNow o c.now-tally.result) c.now-tally.ensures.told (subst (λ n. IsNow (g.L.Link.told c.now-tally.new.self) n) (sym c.now-tally.ensures.value) c.now-tally.ensures.tick) in
    moves_fault _ request h c.args.wait c.loop-count.count c.loop-count.tally.last c.now-tally.result _ _ _ c.loop-count.invariant.counted at (subst (λ o. Moves o (g.L.Link.told c.try_once.new.link) (IsStillButFor request (g.H.Listener.hearing c.args.listener.now))) c.now-tally.ensures.told (subst (λ l. Moves (g.L.Link.told c.now-tally.new.self) (g.L.Link.told c.try_once.new.link) (IsStillButFor request (g.H.Listener.hearing l))) c.loop-count.invariant.same c.try_once.ensures.still))

pub returns-in_err-found-clause-tallied : goal.returns-in_err-found-clause-tallied
returns-in_err-found-clause-tallied g c =
    let request = c.args.request.now in
    let h = g.H.Listener.hearing c.args.listener.now in
    let shows = g.H.Listener.shows c.try_once.new.listener in
    let at : IsNow (g.L.Link.told c.loop-count.link) c.now-tally.result =
    subst (λ o. IsNow o c.now-tally.result) c.now-tally.ensures.told (subst (λ n. IsNow (g.L.Link.told c.now-tally.new.self) n) (sym c.now-tally.ensures.value) c.now-tally.ensures.tick) in
    let p = err_from_is_err_and c.from_residual.result c.from_residual.ensures.1 in
    subst (λ (r : Result (Asked g.row.H-Found.Denot) NoMemory). Moves (g.L.Link.told c.args.link.now) (g.L.Link.told c.try_once.new.link) (IsTallied request h c.args.wait (record { sends = c.loop-count.count + 1; last = c.now-tally.result }) r)) (sym p.1)
    (moves_wanting _ request h c.args.wait c.loop-count.count c.loop-count.tally.last c.now-tally.result _ _ _ c.loop-count.invariant.counted at p.0 (subst (λ o. Moves o (g.L.Link.told c.try_once.new.link) (IsStillButFor request (g.H.Listener.hearing c.args.listener.now))) c.now-tally.ensures.told (subst (λ l. Moves (g.L.Link.told c.now-tally.new.self) (g.L.Link.told c.try_once.new.link) (IsStillButFor request (g.H.Listener.hearing l))) c.loop-count.invariant.same c.try_once.ensures.still)))

pub returns-clause-tallied : goal.returns-clause-tallied
returns-clause-tallied g c =
    let request = c.args.request.now in
    let h = g.H.Listener.hearing c.args.listener.now in
    moves_timeout _ request h c.args.wait c.loop-count.tally _ _
    (subst (λ n. Moves (g.L.Link.told c.args.link.now) (g.L.Link.told c.loop-count.link) (Counted request h c.args.wait n c.loop-count.tally.last)) (sym c.loop-count.invariant.sends) c.loop-count.invariant.counted)

pub returns-in-Found-clause-lawful : goal.returns-in-Found-clause-lawful
returns-in-Found-clause-lawful g c = λ some. lawful_from _ _ (λ old part. ticks_in part ≤ c.loop-count.count * 1000) c.loop-count.invariant.lasts (subst (λ o. IfSome o IsReached) c.now-tally.ensures.told c.now-tally.ensures.world)

pub returns-in-Flood-clause-lawful : goal.returns-in-Flood-clause-lawful
returns-in-Flood-clause-lawful g c = λ some. lawful_from _ _ (λ old part. ticks_in part ≤ c.loop-count.count * 1000) c.loop-count.invariant.lasts (subst (λ o. IfSome o IsReached) c.now-tally.ensures.told c.now-tally.ensures.world)

pub returns-in-Fault-clause-lawful : goal.returns-in-Fault-clause-lawful
returns-in-Fault-clause-lawful g c = λ some. lawful_from _ _ (λ old part. ticks_in part ≤ c.loop-count.count * 1000) c.loop-count.invariant.lasts (subst (λ o. IfSome o IsReached) c.now-tally.ensures.told c.now-tally.ensures.world)

pub returns-clause-lawful : goal.returns-clause-lawful
returns-clause-lawful g c = λ some. c.loop-count.invariant.lawful (omega (arith, some, c.loop-count-test.false))

pub returns-in-Found-clause-fails : goal.returns-in-Found-clause-fails
returns-in-Found-clause-fails g c =
    fails_then _ _ _ 0 c.loop-count.invariant.fails
    (subst (λ o. Fails 0 o (g.L.Link.told c.try_once.new.link)) c.now-tally.ensures.told
    (subst (λ (e : Heard g.row.H-Found.Denot). Fails (heard_fails (Ok e)) (g.L.Link.told c.now-tally.new.self) (g.L.Link.told c.try_once.new.link)) c.in-Found.is c.in_ok-found.ensures.fails))

pub returns-in-Flood-clause-fails : goal.returns-in-Flood-clause-fails
returns-in-Flood-clause-fails g c =
    fails_then _ _ _ 0 c.loop-count.invariant.fails
    (subst (λ o. Fails 0 o (g.L.Link.told c.try_once.new.link)) c.now-tally.ensures.told
    (subst (λ (e : Heard g.row.H-Found.Denot). Fails (heard_fails (Ok e)) (g.L.Link.told c.now-tally.new.self) (g.L.Link.told c.try_once.new.link)) c.in-Flood.is c.in_ok-found.ensures.fails))

pub returns-in-Fault-clause-fails : goal.returns-in-Fault-clause-fails
returns-in-Fault-clause-fails g c =
    fails_then _ _ _ 1 c.loop-count.invariant.fails
    (subst (λ o. Fails 1 o (g.L.Link.told c.try_once.new.link)) c.now-tally.ensures.told
    (subst (λ (e : Heard g.row.H-Found.Denot). Fails (heard_fails (Ok e)) (g.L.Link.told c.now-tally.new.self) (g.L.Link.told c.try_once.new.link)) c.in-Fault.is c.in_ok-found.ensures.fails))

pub returns-in_err-found-clause-fails : goal.returns-in_err-found-clause-fails
returns-in_err-found-clause-fails g c =
    let p = err_from_is_err_and c.from_residual.result c.from_residual.ensures.1 in
    subst (λ (r : Result (Asked g.row.H-Found.Denot) NoMemory). Fails (asked_fails r) (g.L.Link.told c.args.link.now) (g.L.Link.told c.try_once.new.link)) (sym p.1)
    (fails_then _ _ _ 0 c.loop-count.invariant.fails
    (subst (λ o. Fails 0 o (g.L.Link.told c.try_once.new.link)) c.now-tally.ensures.told c.in_err-found.ensures.fails))

pub returns-in-Found-clause-sends : goal.returns-in-Found-clause-sends
returns-in-Found-clause-sends g c =
    only_then (IsAsking c.args.request.now (g.H.Listener.hearing c.args.listener.now)) _ _ _ c.loop-count.invariant.asks
    (subst (λ o. SendsOnly (IsAsking c.args.request.now (g.H.Listener.hearing c.args.listener.now)) o (g.L.Link.told c.try_once.new.link)) c.now-tally.ensures.told
    (subst (λ l. SendsOnly (IsAsking c.args.request.now (g.H.Listener.hearing l)) (g.L.Link.told c.now-tally.new.self) (g.L.Link.told c.try_once.new.link)) c.loop-count.invariant.same c.try_once.ensures.sends))

pub returns-in-Flood-clause-sends : goal.returns-in-Flood-clause-sends
returns-in-Flood-clause-sends g c =
    only_then (IsAsking c.args.request.now (g.H.Listener.hearing c.args.listener.now)) _ _ _ c.loop-count.invariant.asks
    (subst (λ o. SendsOnly (IsAsking c.args.request.now (g.H.Listener.hearing c.args.listener.now)) o (g.L.Link.told c.try_once.new.link)) c.now-tally.ensures.told
    (subst (λ l. SendsOnly (IsAsking c.args.request.now (g.H.Listener.hearing l)) (g.L.Link.told c.now-tally.new.self) (g.L.Link.told c.try_once.new.link)) c.loop-count.invariant.same c.try_once.ensures.sends))

pub returns-in-Fault-clause-sends : goal.returns-in-Fault-clause-sends
returns-in-Fault-clause-sends g c =
    only_then (IsAsking c.args.request.now (g.H.Listener.hearing c.args.listener.now)) _ _ _ c.loop-count.invariant.asks
    (subst (λ o. SendsOnly (IsAsking c.args.request.now (g.H.Listener.hearing c.args.listener.now)) o (g.L.Link.told c.try_once.new.link)) c.now-tally.ensures.told
    (subst (λ l. SendsOnly (IsAsking c.args.request.now (g.H.Listener.hearing l)) (g.L.Link.told c.now-tally.new.self) (g.L.Link.told c.try_once.new.link)) c.loop-count.invariant.same c.try_once.ensures.sends))

pub returns-in_err-found-clause-sends : goal.returns-in_err-found-clause-sends
returns-in_err-found-clause-sends g c =
    only_then (IsAsking c.args.request.now (g.H.Listener.hearing c.args.listener.now)) _ _ _ c.loop-count.invariant.asks
    (subst (λ o. SendsOnly (IsAsking c.args.request.now (g.H.Listener.hearing c.args.listener.now)) o (g.L.Link.told c.try_once.new.link)) c.now-tally.ensures.told
    (subst (λ l. SendsOnly (IsAsking c.args.request.now (g.H.Listener.hearing l)) (g.L.Link.told c.now-tally.new.self) (g.L.Link.told c.try_once.new.link)) c.loop-count.invariant.same c.try_once.ensures.sends))
