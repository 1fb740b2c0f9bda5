use Rattle.std.proofs.Common.{◌≡◌, ◌+◌, ◌*◌, ◌-◌, ◌<◌, length, true, false, Ok, refl, sym, ◌∙◌, ap, subst, arith}
use Rattle.std.specs.Prelude.{Result}
use Rattle.std.proofs.lemmas.Result.{IfOk-weaker, err_from_is_err_and}
use Rattle.sd_outside.specs.declared.errors.NoMemory.{NoMemory}
use Rattle.sd_boot_chain.specs.declared.fetch.Fetched as outcomes
use Rattle.sd_boot_chain.specs.Failing.{fetch_fails}
use Rattle.sd_link.specs.Link.{Moves}
use Rattle.sd_claims.specs.Fetching.{request_of}
use Rattle.sd_link.proofs.Histories.{moves_weaker}
use Rattle.sd_rpc_retry.specs.declared.asking.Asked.TheVariants as asked
use Rattle.sd_rpc_retry.specs.Lasting.{Fails}
use Rattle.sd_rpc_retry.specs.Sending.{asked_fails}
use Rattle.sd_rpc_retry.proofs.Lasting.{lasts_none, lasts_then}
use Rattle.sd_rpc_retry.proofs.Failing.{fails_none, fails_then}
use Rattle.sd_claims.specs.AnyLink.{IsMet}
use Rattle.sd_boot_chain.specs.Needs.{AskedNeeds}
use Rattle.sd_boot_chain.proofs.Needing.{asked_met, asked_later, finish_needs}
use Rattle.sd_boot_chain.specs.declared.fetch.Progress.TheVariants as moves
use Rattle.sd_boot_chain.specs.declared.fetch.Fetched.TheVariants as came
use Rattle.sd_boot_chain.specs.Durations.{most_fetch_ticks}
use Rattle.sd_boot_chain.specs.Fetch.{fetch_of, CameOf, GivesFile, Finishes}
use Rattle.sd_boot_chain.proofs.Trusting.{gives_file}
use Rattle.sd_boot_chain.proofs.Fetching.{asks_next, takes_first, takes_more, came_timeout, came_flood, came_fault, came_refused, came_large, has_last, came_last, block_goes}
use Rattle.sd_boot_chain.proofs.fetch.fetch.Goals as goal

pub fetching-init : goal.fetching-init
fetching-init g c =
    let f = fetch_of c.args.fetch.now in
    record {
      moves = takes_first f c.new-receiver.result _ c.new-receiver.ensures;
      request = c.in_ok-request.ensures ∙ ap (λ r. request_of f r) (sym c.new-receiver.ensures);
      server = ap (λ r. r.server) c.new-receiver.ensures;
      going = ap (λ r. r.ended) c.new-receiver.ensures;
      few = subst (λ r. length r.blocks < 65535) (sym c.new-receiver.ensures) (omega arith);
      lasts = lasts_none _ _;
      fails = fails_none _;
      counts = omega arith;
      later = omega arith;
      faults = omega arith;
      drained = refl;
    }

pub returns-in_err-to-clause-lasts : goal.returns-in_err-to-clause-lasts
returns-in_err-to-clause-lasts g c =
    lasts_then _ _ _ (length c.fetching.receiver.blocks * 64000) 64000 most_fetch_ticks (omega (arith, c.fetching.invariant.few)) c.fetching.invariant.lasts c.ask.ensures.lasts

pub returns-in_err-request-in-Answer-Block-clause-lasts : goal.returns-in_err-request-in-Answer-Block-clause-lasts
returns-in_err-request-in-Answer-Block-clause-lasts g c =
    lasts_then _ _ _ (length c.fetching.receiver.blocks * 64000) 64000 most_fetch_ticks (omega (arith, c.fetching.invariant.few)) c.fetching.invariant.lasts c.ask.ensures.lasts

pub returns-in-Answer-Refused-clause-lasts : goal.returns-in-Answer-Refused-clause-lasts
returns-in-Answer-Refused-clause-lasts g c =
    lasts_then _ _ _ (length c.fetching.receiver.blocks * 64000) 64000 most_fetch_ticks (omega (arith, c.fetching.invariant.few)) c.fetching.invariant.lasts c.ask.ensures.lasts

pub returns-in-Answer-Over-clause-lasts : goal.returns-in-Answer-Over-clause-lasts
returns-in-Answer-Over-clause-lasts g c =
    lasts_then _ _ _ (length c.fetching.receiver.blocks * 64000) 64000 most_fetch_ticks (omega (arith, c.fetching.invariant.few)) c.fetching.invariant.lasts c.ask.ensures.lasts

pub returns-in-Timeout-clause-lasts : goal.returns-in-Timeout-clause-lasts
returns-in-Timeout-clause-lasts g c =
    lasts_then _ _ _ (length c.fetching.receiver.blocks * 64000) 64000 most_fetch_ticks (omega (arith, c.fetching.invariant.few)) c.fetching.invariant.lasts c.ask.ensures.lasts

pub returns-in-Flood-clause-lasts : goal.returns-in-Flood-clause-lasts
returns-in-Flood-clause-lasts g c =
    lasts_then _ _ _ (length c.fetching.receiver.blocks * 64000) 64000 most_fetch_ticks (omega (arith, c.fetching.invariant.few)) c.fetching.invariant.lasts c.ask.ensures.lasts

pub returns-in-Fault-clause-lasts : goal.returns-in-Fault-clause-lasts
returns-in-Fault-clause-lasts g c =
    lasts_then _ _ _ (length c.fetching.receiver.blocks * 64000) 64000 most_fetch_ticks (omega (arith, c.fetching.invariant.few)) c.fetching.invariant.lasts c.ask.ensures.lasts

pub returns-then-last-clause-lasts : goal.returns-then-last-clause-lasts
returns-then-last-clause-lasts g c =
    lasts_then _ _ _ (length c.fetching.receiver.blocks * 64000 + 64000) 0 most_fetch_ticks (omega (arith, c.fetching.invariant.few))
    (lasts_then _ _ _ (length c.fetching.receiver.blocks * 64000) 64000 (length c.fetching.receiver.blocks * 64000 + 64000) (omega arith) c.fetching.invariant.lasts c.ask.ensures.lasts) c.finish.ensures.lasts

pub returns-in-Timeout-clause-told : goal.returns-in-Timeout-clause-told
returns-in-Timeout-clause-told g c =
    let f = fetch_of c.args.fetch.now in
    let r = c.fetching.receiver in
    let s = c.ask.new.listener.receiver in
    came_timeout f _ _ _ r s c.fetching.invariant.moves
    (asks_next f _ _ _ _ r s _ asked.Timeout c.fetching.invariant.request refl c.in-Timeout.is c.in_ok-to.ensures.told)

pub returns-in-Timeout-clause-file : goal.returns-in-Timeout-clause-file
returns-in-Timeout-clause-file g c =
    moves_weaker _ _ _ (GivesFile (fetch_of c.args.fetch.now) came.Timeout) (λ old part w. tt) (returns-in-Timeout-clause-lasts g c)

pub returns-in-Flood-clause-told : goal.returns-in-Flood-clause-told
returns-in-Flood-clause-told g c =
    let f = fetch_of c.args.fetch.now in
    let r = c.fetching.receiver in
    let s = c.ask.new.listener.receiver in
    came_flood f _ _ _ r s c.fetching.invariant.moves
    (asks_next f _ _ _ _ r s _ asked.Flood c.fetching.invariant.request refl c.in-Flood.is c.in_ok-to.ensures.told)

pub returns-in-Flood-clause-file : goal.returns-in-Flood-clause-file
returns-in-Flood-clause-file g c =
    moves_weaker _ _ _ (GivesFile (fetch_of c.args.fetch.now) came.Flood) (λ old part w. tt) (returns-in-Flood-clause-lasts g c)

pub returns-in-Answer-Refused-clause-told : goal.returns-in-Answer-Refused-clause-told
returns-in-Answer-Refused-clause-told g c =
    let f = fetch_of c.args.fetch.now in
    let r = c.fetching.receiver in
    let s = c.ask.new.listener.receiver in
    came_refused f _ _ _ r s c.fetching.invariant.moves c.in-Answer-Refused.code
    (asks_next f _ _ _ _ r s _ (asked.Answer (moves.Refused c.in-Answer-Refused.code)) c.fetching.invariant.request refl (c.in-Answer-Refused.is ∙ ap (λ p. asked.Answer p) c.in-Answer-Refused.field-0-is) c.in_ok-to.ensures.told)

pub returns-in-Answer-Refused-clause-file : goal.returns-in-Answer-Refused-clause-file
returns-in-Answer-Refused-clause-file g c =
    moves_weaker _ _ _ (GivesFile (fetch_of c.args.fetch.now) (came.Refused c.in-Answer-Refused.code)) (λ old part w. tt) (returns-in-Answer-Refused-clause-lasts g c)

pub returns-in-Answer-Over-clause-told : goal.returns-in-Answer-Over-clause-told
returns-in-Answer-Over-clause-told g c =
    let f = fetch_of c.args.fetch.now in
    let r = c.fetching.receiver in
    let s = c.ask.new.listener.receiver in
    came_large f _ _ _ r s c.fetching.invariant.moves c.in-Answer-Over.got
    (asks_next f _ _ _ _ r s _ (asked.Answer (moves.Over c.in-Answer-Over.got)) c.fetching.invariant.request refl (c.in-Answer-Over.is ∙ ap (λ p. asked.Answer p) c.in-Answer-Over.field-0-is) c.in_ok-to.ensures.told)

pub returns-in-Answer-Over-clause-file : goal.returns-in-Answer-Over-clause-file
returns-in-Answer-Over-clause-file g c =
    moves_weaker _ _ _ (GivesFile (fetch_of c.args.fetch.now) (came.TooLarge c.in-Answer-Over.got)) (λ old part w. tt) (returns-in-Answer-Over-clause-lasts g c)

pub returns-in-Fault-clause-told : goal.returns-in-Fault-clause-told
returns-in-Fault-clause-told g c =
    let f = fetch_of c.args.fetch.now in
    let r = c.fetching.receiver in
    let s = c.ask.new.listener.receiver in
    came_fault f _ _ _ r s c.fetching.invariant.moves
    (asks_next f _ _ _ _ r s _ asked.Fault c.fetching.invariant.request refl c.in-Fault.is c.in_ok-to.ensures.told)

pub returns-in-Fault-clause-file : goal.returns-in-Fault-clause-file
returns-in-Fault-clause-file g c = moves_weaker _ _ _ (GivesFile (fetch_of c.args.fetch.now) came.Fault) (λ old part w. tt) (returns-in-Fault-clause-lasts g c)

pub fetching-preserved : goal.fetching-preserved
fetching-preserved g c =
    let f = fetch_of c.args.fetch.now in
    let r = c.fetching.receiver in
    let s = c.ask.new.listener.receiver in
    let to = c.in-Answer-Block.to in
    let n = c.in-Answer-Block.number in
    let answer : c.in_ok-to.field-0 ≡ asked.Answer (moves.Block to n false) =
    c.in-Answer-Block.is ∙ ap (λ p. asked.Answer p) c.in-Answer-Block.field-0-is ∙ ap (λ l. asked.Answer (moves.Block to n l)) c.if-last.false in
    let next = block_goes f c.args.fetch.now.me r s to n c.in_ok-request-in-Answer-Block.request _ refl c.fetching.invariant.server c.fetching.invariant.few answer c.in_ok-to.ensures.found c.in_ok-request-in-Answer-Block.ensures in
    record {
      moves = takes_more f _ _ _ r s c.fetching.invariant.moves to n (asks_next f _ _ _ _ r s _ (asked.Answer (moves.Block to n false)) c.fetching.invariant.request refl answer c.in_ok-to.ensures.told);
      request = next.request_is;
      server = next.server;
      going = next.going;
      few = next.few;
      lasts = lasts_then _ _ _ (length c.fetching.receiver.blocks * 64000) 64000 (length s.blocks * 64000) (omega (arith, next.counted)) c.fetching.invariant.lasts c.ask.ensures.lasts;
      fails = fails_then _ _ _ 0 c.fetching.invariant.fails (subst (λ e. Fails (asked_fails (Ok e)) (g.L.Link.told c.fetching.link) (g.L.Link.told c.ask.new.link)) c.in-Answer-Block.is c.in_ok-to.ensures.fails);
      counts = omega (arith, c.ask.ensures.counts, c.fetching.invariant.counts);
      later = omega (arith, c.ask.ensures.later, c.fetching.invariant.later);
      faults = omega (arith, c.ask.ensures.faults, c.fetching.invariant.faults);
      drained = c.ask.ensures.drained ∙ c.fetching.invariant.drained;
    }

pub returns-then-last-clause-told : goal.returns-then-last-clause-told
returns-then-last-clause-told g c =
    let f = fetch_of c.args.fetch.now in
    let r = c.fetching.receiver in
    let s = c.ask.new.listener.receiver in
    let to = c.in-Answer-Block.to in
    let n = c.in-Answer-Block.number in
    let answer : c.in_ok-to.field-0 ≡ asked.Answer (moves.Block to n true) =
    c.in-Answer-Block.is ∙ ap (λ p. asked.Answer p) c.in-Answer-Block.field-0-is ∙ ap (λ l. asked.Answer (moves.Block to n l)) c.if-last.true in
    let last = has_last f _ _ _ r s to n c.fetching.invariant.moves (asks_next f _ _ _ _ r s _ (asked.Answer (moves.Block to n true)) c.fetching.invariant.request refl answer c.in_ok-to.ensures.told) in
    IfOk-weaker c.finish.result
    (λ came. Moves (g.L.Link.told c.ask.new.link) (g.L.Link.told c.finish.new.link) (Finishes c.in_ok-request-in-Answer-Block.request s came))
    (λ came. Moves (g.L.Link.told c.args.link.now) (g.L.Link.told c.finish.new.link) (CameOf f came))
    (λ came m. came_last f _ _ _ s to n c.in_ok-request-in-Answer-Block.request came c.in_ok-request-in-Answer-Block.ensures last m)
    c.finish.ensures.told

pub returns-then-last-clause-file : goal.returns-then-last-clause-file
returns-then-last-clause-file g c =
    let f = fetch_of c.args.fetch.now in
    IfOk-weaker c.finish.result
    (λ came. Moves (g.L.Link.told c.args.link.now) (g.L.Link.told c.finish.new.link) (CameOf f came))
    (λ came. Moves (g.L.Link.told c.args.link.now) (g.L.Link.told c.finish.new.link) (GivesFile f came))
    (λ came m. gives_file f came _ _ c.requires.name c.finish.ensures.reached m)
    (returns-then-last-clause-told g c)

pub returns-in-Timeout-clause-fails : goal.returns-in-Timeout-clause-fails
returns-in-Timeout-clause-fails g c = fails_then _ _ _ 0 c.fetching.invariant.fails (subst (λ e. Fails (asked_fails (Ok e)) (g.L.Link.told c.fetching.link) (g.L.Link.told c.ask.new.link)) c.in-Timeout.is c.in_ok-to.ensures.fails)

pub returns-in-Flood-clause-fails : goal.returns-in-Flood-clause-fails
returns-in-Flood-clause-fails g c = fails_then _ _ _ 0 c.fetching.invariant.fails (subst (λ e. Fails (asked_fails (Ok e)) (g.L.Link.told c.fetching.link) (g.L.Link.told c.ask.new.link)) c.in-Flood.is c.in_ok-to.ensures.fails)

pub returns-in-Fault-clause-fails : goal.returns-in-Fault-clause-fails
returns-in-Fault-clause-fails g c = fails_then _ _ _ 1 c.fetching.invariant.fails (subst (λ e. Fails (asked_fails (Ok e)) (g.L.Link.told c.fetching.link) (g.L.Link.told c.ask.new.link)) c.in-Fault.is c.in_ok-to.ensures.fails)

pub returns-in-Answer-Refused-clause-fails : goal.returns-in-Answer-Refused-clause-fails
returns-in-Answer-Refused-clause-fails g c = fails_then _ _ _ 0 c.fetching.invariant.fails (subst (λ e. Fails (asked_fails (Ok e)) (g.L.Link.told c.fetching.link) (g.L.Link.told c.ask.new.link)) c.in-Answer-Refused.is c.in_ok-to.ensures.fails)

pub returns-in-Answer-Over-clause-fails : goal.returns-in-Answer-Over-clause-fails
returns-in-Answer-Over-clause-fails g c = fails_then _ _ _ 0 c.fetching.invariant.fails (subst (λ e. Fails (asked_fails (Ok e)) (g.L.Link.told c.fetching.link) (g.L.Link.told c.ask.new.link)) c.in-Answer-Over.is c.in_ok-to.ensures.fails)

pub returns-in-Timeout-clause-needs : goal.returns-in-Timeout-clause-needs
returns-in-Timeout-clause-needs g c =
    subst (λ e. AskedNeeds (c.args.fetch.now.tries * c.args.fetch.now.wait) (IsMet (g.L.Link.handed c.args.link.now) (g.L.Link.handed c.ask.new.link) (g.L.Link.clock c.args.link.now) (g.L.Link.clock c.ask.new.link)) e) c.in-Timeout.is
    (asked_later (c.args.fetch.now.tries * c.args.fetch.now.wait) _ _ _ _ _ _ c.in_ok-to.field-0 c.fetching.invariant.counts c.fetching.invariant.later
    (asked_met (c.args.fetch.now.tries * c.args.fetch.now.wait) _ _ _ _ c.in_ok-to.field-0 c.in_ok-to.ensures.handed c.in_ok-to.ensures.waited c.ask.ensures.counts c.ask.ensures.later))

pub returns-in-Flood-clause-needs : goal.returns-in-Flood-clause-needs
returns-in-Flood-clause-needs g c =
    subst (λ e. AskedNeeds (c.args.fetch.now.tries * c.args.fetch.now.wait) (IsMet (g.L.Link.handed c.args.link.now) (g.L.Link.handed c.ask.new.link) (g.L.Link.clock c.args.link.now) (g.L.Link.clock c.ask.new.link)) e) c.in-Flood.is
    (asked_later (c.args.fetch.now.tries * c.args.fetch.now.wait) _ _ _ _ _ _ c.in_ok-to.field-0 c.fetching.invariant.counts c.fetching.invariant.later
    (asked_met (c.args.fetch.now.tries * c.args.fetch.now.wait) _ _ _ _ c.in_ok-to.field-0 c.in_ok-to.ensures.handed c.in_ok-to.ensures.waited c.ask.ensures.counts c.ask.ensures.later))

pub returns-in-Fault-clause-needs : goal.returns-in-Fault-clause-needs
returns-in-Fault-clause-needs g c =
    subst (λ e. AskedNeeds (c.args.fetch.now.tries * c.args.fetch.now.wait) (IsMet (g.L.Link.handed c.args.link.now) (g.L.Link.handed c.ask.new.link) (g.L.Link.clock c.args.link.now) (g.L.Link.clock c.ask.new.link)) e) c.in-Fault.is
    (asked_later (c.args.fetch.now.tries * c.args.fetch.now.wait) _ _ _ _ _ _ c.in_ok-to.field-0 c.fetching.invariant.counts c.fetching.invariant.later
    (asked_met (c.args.fetch.now.tries * c.args.fetch.now.wait) _ _ _ _ c.in_ok-to.field-0 c.in_ok-to.ensures.handed c.in_ok-to.ensures.waited c.ask.ensures.counts c.ask.ensures.later))

pub returns-in-Answer-Refused-clause-needs : goal.returns-in-Answer-Refused-clause-needs
returns-in-Answer-Refused-clause-needs g c =
    subst (λ e. AskedNeeds (c.args.fetch.now.tries * c.args.fetch.now.wait) (IsMet (g.L.Link.handed c.args.link.now) (g.L.Link.handed c.ask.new.link) (g.L.Link.clock c.args.link.now) (g.L.Link.clock c.ask.new.link)) e) c.in-Answer-Refused.is
    (asked_later (c.args.fetch.now.tries * c.args.fetch.now.wait) _ _ _ _ _ _ c.in_ok-to.field-0 c.fetching.invariant.counts c.fetching.invariant.later
    (asked_met (c.args.fetch.now.tries * c.args.fetch.now.wait) _ _ _ _ c.in_ok-to.field-0 c.in_ok-to.ensures.handed c.in_ok-to.ensures.waited c.ask.ensures.counts c.ask.ensures.later))

pub returns-in-Answer-Over-clause-needs : goal.returns-in-Answer-Over-clause-needs
returns-in-Answer-Over-clause-needs g c =
    subst (λ e. AskedNeeds (c.args.fetch.now.tries * c.args.fetch.now.wait) (IsMet (g.L.Link.handed c.args.link.now) (g.L.Link.handed c.ask.new.link) (g.L.Link.clock c.args.link.now) (g.L.Link.clock c.ask.new.link)) e) c.in-Answer-Over.is
    (asked_later (c.args.fetch.now.tries * c.args.fetch.now.wait) _ _ _ _ _ _ c.in_ok-to.field-0 c.fetching.invariant.counts c.fetching.invariant.later
    (asked_met (c.args.fetch.now.tries * c.args.fetch.now.wait) _ _ _ _ c.in_ok-to.field-0 c.in_ok-to.ensures.handed c.in_ok-to.ensures.waited c.ask.ensures.counts c.ask.ensures.later))

pub returns-then-last-clause-needs : goal.returns-then-last-clause-needs
returns-then-last-clause-needs g c =
    let got =
    subst (λ e. AskedNeeds (c.args.fetch.now.tries * c.args.fetch.now.wait) (IsMet (g.L.Link.handed c.args.link.now) (g.L.Link.handed c.ask.new.link) (g.L.Link.clock c.args.link.now) (g.L.Link.clock c.ask.new.link)) e) c.in-Answer-Block.is
    (asked_later (c.args.fetch.now.tries * c.args.fetch.now.wait) _ _ _ _ _ _ c.in_ok-to.field-0 c.fetching.invariant.counts c.fetching.invariant.later
    (asked_met (c.args.fetch.now.tries * c.args.fetch.now.wait) _ _ _ _ c.in_ok-to.field-0 c.in_ok-to.ensures.handed c.in_ok-to.ensures.waited c.ask.ensures.counts c.ask.ensures.later)) in
    finish_needs (c.args.fetch.now.tries * c.args.fetch.now.wait) _ _ _ _ _ _ c.finish.result c.finish.ensures.counts c.finish.ensures.later got c.finish.ensures.ended

pub returns-then-last-clause-fails : goal.returns-then-last-clause-fails
returns-then-last-clause-fails g c =
    fails_then _ _ _ _ (fails_then _ _ _ 0 c.fetching.invariant.fails (subst (λ e. Fails (asked_fails (Ok e)) (g.L.Link.told c.fetching.link) (g.L.Link.told c.ask.new.link)) c.in-Answer-Block.is c.in_ok-to.ensures.fails)) c.finish.ensures.fails

pub returns-in_err-to-clause-fails : goal.returns-in_err-to-clause-fails
returns-in_err-to-clause-fails g c =
    let p = err_from_is_err_and c.from_residual-in_err-to.result c.from_residual-in_err-to.ensures.1 in
    subst (λ (r : Result outcomes.Fetched NoMemory). Fails (fetch_fails r) (g.L.Link.told c.args.link.now) (g.L.Link.told c.ask.new.link)) (sym p.1) (fails_then _ _ _ 0 c.fetching.invariant.fails c.in_err-to.ensures.fails)

pub returns-in_err-request-in-Answer-Block-clause-fails : goal.returns-in_err-request-in-Answer-Block-clause-fails
returns-in_err-request-in-Answer-Block-clause-fails g c =
    let p = err_from_is_err_and c.from_residual-in_err-request-in-Answer-Block.result c.from_residual-in_err-request-in-Answer-Block.ensures.1 in
    subst (λ (r : Result outcomes.Fetched NoMemory). Fails (fetch_fails r) (g.L.Link.told c.args.link.now) (g.L.Link.told c.ask.new.link)) (sym p.1)
    (fails_then _ _ _ 0 c.fetching.invariant.fails (subst (λ e. Fails (asked_fails (Ok e)) (g.L.Link.told c.fetching.link) (g.L.Link.told c.ask.new.link)) c.in-Answer-Block.is c.in_ok-to.ensures.fails))

-- one block fewer may still come
pub fetching-smaller : goal.fetching-smaller
fetching-smaller g c =
    let f = fetch_of c.args.fetch.now in
    let r = c.fetching.receiver in
    let s = c.ask.new.listener.receiver in
    let to = c.in-Answer-Block.to in
    let n = c.in-Answer-Block.number in
    let answer : c.in_ok-to.field-0 ≡ asked.Answer (moves.Block to n false) =
    c.in-Answer-Block.is ∙ ap (λ p. asked.Answer p) c.in-Answer-Block.field-0-is ∙ ap (λ l. asked.Answer (moves.Block to n l)) c.if-last.false in
    let next = block_goes f c.args.fetch.now.me r s to n c.in_ok-request-in-Answer-Block.request _ refl c.fetching.invariant.server c.fetching.invariant.few answer c.in_ok-to.ensures.found c.in_ok-request-in-Answer-Block.ensures in
    let smaller : 65535 - length s.blocks < 65535 - length r.blocks = omega (arith, next.counted, c.fetching.invariant.few) in
    smaller
