use Rattle.std.proofs.Common.{◌≡◌, ℕ, ◌+◌, ◌*◌, List, [], ◌∷◌, ◌++◌, take, get_or, Result, Ok, Err, refl, sym, ◌∙◌, subst, arith}
use Rattle.std.proofs.lemmas.List.{take_more, take_all}
use Rattle.std.specs.Prelude.{OnErr}
use Rattle.sd_outside.specs.Streams.{Gains}
use Rattle.sd_config.specs.declared.config.ClientConfig.{ClientConfig}
use Rattle.sd_config.specs.Config.{IsFor}
use Rattle.sd_link.specs.Steps.{History, whole_record}
use Rattle.sd_link.specs.Link.{GoesOn}
use Rattle.sd_link.specs.Printing.{record_text}
use Rattle.sd_link.proofs.Histories.{moves_not, moves_then, moves_weaker}
use Rattle.sd_config.specs.declared.command.Command.{Command}
use Rattle.sd_config.specs.declared.command.Command.TheVariants.{Addr}
use Rattle.sd_claims.specs.Session.{IsSession, IsCutSession}
use Rattle.sd_claims.specs.Wrote.{Counted, Wrote, WrotePrefix}
use Rattle.sd_boot_chain.specs.Durations.{most_ticks, most_session_ticks}
use Rattle.sd_streams.specs.Writing.{GainsPrefix}
use Rattle.sd_boot_chain.specs.Step.{IsStep, IsSaid}
use Rattle.sd_rpc_retry.proofs.Lasting.{lasts_none, lasts_then, goes_on}
use Rattle.sd_boot_chain.proofs.Stepping.{SessionAt, session_first, session_more, session_cut, session_stops, moves_to}
use Rattle.sd_boot_chain.proofs.Saying.{wrote_nothing, wrote_more, wrote_part, wrote_cut}
use Rattle.sd_boot_chain.proofs.transcript.do_all.Goals as goal

-- what a link counts
abbrev counted : ℕ → ℕ → ℕ → Counted
counted handed clock faults = record { handed = handed; clock = clock; faults = faults }

pub loop-command-init : goal.loop-command-init
loop-command-init g c =
    let before = g.K.Sink.written c.args.sink.now in
    let client = c.args.client.now in
    let first = g.L.Link.drained c.args.link.now in
    record {
      config = refl;
      done = moves_not _ (λ a part. IsFor a.config client.config → SessionAt [] first first before before client a part) (λ h is_for. session_first first before client h c.requires.fresh);
      calls = omega (arith, c.requires.fresh.1);
      lasts = lasts_none _ 0;
      wrote = wrote_nothing _ _ _ _;
      faults = omega arith;
      sink_faults = refl;
    }

pub loop-command-preserved : goal.loop-command-preserved
loop-command-preserved g c =
    let config = c.args.client.now.config in
    let client = c.loop-command.client in
    let same : client.config ≡ config = c.loop-command.invariant.config in
    let commands = c.args.commands.now in
    let i = c.loop-command.command-index in
    let command = get_or commands i Addr in
    let text = c.in_ok-text.text in
    let old = g.L.Link.told c.args.link.now in
    let mid = g.L.Link.told c.loop-command.link in
    let new = g.L.Link.told c.text_of.new.link in
    let before = g.K.Sink.written c.args.sink.now in
    let so_far = g.K.Sink.written c.loop-command.sink in
    let now = g.K.Sink.written c.write_all.new.sink in
    let first = g.L.Link.drained c.args.link.now in
    let drained = g.L.Link.drained c.loop-command.link in
    let drained_now = g.L.Link.drained c.text_of.new.link in
    let wrote : Gains so_far now text = subst (λ (l : List ℕ). Gains so_far now l) c.as_slice.ensures c.in-Ok.ensures.ok in
    let more : take (i + 1) commands ≡ take i commands ++ command ∷ [] = take_more commands i Addr (omega arith) in
    record {
      config = c.text_of.ensures.same ∙ same;
      done =
          let was = c.loop-command.invariant.done in
          let stepped = c.in_ok-text.ensures.done in
          let next = c.text_of.new.client in
          moves_then old mid new
          (λ a part. IsFor a.config config → SessionAt (take i commands) first drained before so_far client a part)
          (λ b part. (n : History) × GoesOn b n part × (drained_now ≡ record_text (whole_record n)) × IsStep client command drained text next b part)
          (λ a part. IsFor a.config config → SessionAt (take (i + 1) commands) first drained_now before now next a part)
          (λ a b xs ys goes s t is_for. subst (λ (l : List Command). SessionAt l first drained_now before now next a (xs ++ ys)) (sym more)
          (session_more client (take i commands) command first before so_far drained text next a b xs ys goes (subst (λ (k : ClientConfig). IsFor a.config k) (sym same) is_for) (s is_for) t.3 t.0 drained_now now t.1 t.2 wrote))
          was
          (moves_to mid new (IsStep client command drained text next) (λ n. drained_now ≡ record_text (whole_record n)) c.in_ok-text.ensures.drained stepped);
      calls = omega (arith, c.text_of.ensures.calls, c.loop-command.invariant.calls);
      lasts = lasts_then old mid new (i * most_ticks) most_ticks ((i + 1) * most_ticks) (omega arith) c.loop-command.invariant.lasts c.text_of.ensures.lasts;
      wrote =
          let said = subst (λ (k : ClientConfig). IsSaid (k.tries * k.wait) command (counted (g.L.Link.handed c.loop-command.link) (g.L.Link.clock c.loop-command.link) (g.L.Link.faults c.loop-command.link)) (counted (g.L.Link.handed c.text_of.new.link) (g.L.Link.clock c.text_of.new.link) (g.L.Link.faults c.text_of.new.link)) drained (g.L.Link.drained c.text_of.new.link) text) same c.in_ok-text.ensures.said in
          subst (λ (l : List Command). Wrote (config.tries * config.wait) l (counted (g.L.Link.handed c.args.link.now) (g.L.Link.clock c.args.link.now) (g.L.Link.faults c.args.link.now)) (counted (g.L.Link.handed c.text_of.new.link) (g.L.Link.clock c.text_of.new.link) (g.L.Link.faults c.text_of.new.link)) (g.L.Link.drained c.args.link.now) (g.L.Link.drained c.text_of.new.link) before now) (sym more)
          (wrote_more (config.tries * config.wait) (take i commands) command _ _ _ _ _ _ before so_far text c.loop-command.invariant.wrote said now wrote);
      faults = omega (arith, c.text_of.ensures.faults, c.loop-command.invariant.faults);
      sink_faults = c.in-Ok.ensures.cause.calm ∙ c.loop-command.invariant.sink_faults;
    }

on_err : {T E P : Type 0} (r : Result T E) → P → OnErr r P
on_err (Ok x) p = tt
on_err (Err e) p = p

-- the step ended without an answer
pub returns-in_err-text-clause-cut : goal.returns-in_err-text-clause-cut
returns-in_err-text-clause-cut g c =
    let config = c.args.client.now.config in
    let commands = c.args.commands.now in
    let i = c.loop-command.command-index in
    let before = g.K.Sink.written c.args.sink.now in
    let so_far = g.K.Sink.written c.loop-command.sink in
    let first = g.L.Link.drained c.args.link.now in
    let was = c.loop-command.invariant.done in
    on_err c.from_residual.result
    (moves_then (g.L.Link.told c.args.link.now) (g.L.Link.told c.loop-command.link) (g.L.Link.told c.text_of.new.link)
    (λ a part. IsFor a.config config → SessionAt (take i commands) first (g.L.Link.drained c.loop-command.link) before so_far c.loop-command.client a part)
    (λ b part. Unit {0})
    (λ a part. IsFor a.config config → IsCutSession commands first before so_far a part)
    (λ a b xs ys goes s t is_for. session_cut commands i first before so_far a xs ys (s is_for).session)
    was (goes_on (g.L.Link.told c.loop-command.link) (g.L.Link.told c.text_of.new.link) most_ticks c.text_of.ensures.lasts))

-- the sink took a prefix of the step's text
pub returns-in-Err-clause-cut : goal.returns-in-Err-clause-cut
returns-in-Err-clause-cut g c =
    let config = c.args.client.now.config in
    let client = c.loop-command.client in
    let same : client.config ≡ config = c.loop-command.invariant.config in
    let commands = c.args.commands.now in
    let i = c.loop-command.command-index in
    let command = get_or commands i Addr in
    let text = c.in_ok-text.text in
    let mid = g.L.Link.told c.loop-command.link in
    let new = g.L.Link.told c.text_of.new.link in
    let before = g.K.Sink.written c.args.sink.now in
    let so_far = g.K.Sink.written c.loop-command.sink in
    let now = g.K.Sink.written c.write_all.new.sink in
    let drained = g.L.Link.drained c.loop-command.link in
    let wrote : GainsPrefix so_far now text = subst (λ (l : List ℕ). GainsPrefix so_far now l) c.as_slice.ensures c.in-Err.ensures.err in
    let more : take (i + 1) commands ≡ take i commands ++ command ∷ [] = take_more commands i Addr (omega arith) in
    let first = g.L.Link.drained c.args.link.now in
    let was = c.loop-command.invariant.done in
    let stepped = c.in_ok-text.ensures.done in
    let next = c.text_of.new.client in
    moves_then (g.L.Link.told c.args.link.now) mid new
    (λ a part. IsFor a.config config → SessionAt (take i commands) first drained before so_far client a part)
    (IsStep client command drained text next)
    (λ a part. IsFor a.config config → IsCutSession commands first before now a part)
    (λ a b xs ys goes s t is_for. session_stops client (take i commands) command first before so_far drained text next a b xs ys goes (subst (λ (k : ClientConfig). IsFor a.config k) (sym same) is_for) (s is_for) t commands i now more wrote)
    was stepped

pub returns-in_err-text-clause-lasts : goal.returns-in_err-text-clause-lasts
returns-in_err-text-clause-lasts g c =
    lasts_then _ _ _ (c.loop-command.command-index * most_ticks) most_ticks most_session_ticks (omega (arith, c.requires.few)) c.loop-command.invariant.lasts c.text_of.ensures.lasts

pub returns-in-Err-clause-lasts : goal.returns-in-Err-clause-lasts
returns-in-Err-clause-lasts g c =
    lasts_then _ _ _ (c.loop-command.command-index * most_ticks) most_ticks most_session_ticks (omega (arith, c.requires.few)) c.loop-command.invariant.lasts c.text_of.ensures.lasts

pub returns-clause-done : goal.returns-clause-done
returns-clause-done g c =
    let config = c.args.client.now.config in
    let commands = c.args.commands.now in
    let i = c.loop-command.command-index in
    let before = g.K.Sink.written c.args.sink.now in
    let so_far = g.K.Sink.written c.loop-command.sink in
    let first = g.L.Link.drained c.args.link.now in
    moves_weaker (g.L.Link.told c.args.link.now) (g.L.Link.told c.loop-command.link)
    (λ a part. IsFor a.config config → SessionAt (take i commands) first (g.L.Link.drained c.loop-command.link) before so_far c.loop-command.client a part)
    (λ a part. IsFor a.config config → IsSession commands first before so_far a part)
    (λ a part s is_for. subst (λ (l : List Command). IsSession l first before so_far a part) (take_all i commands (omega arith)) (s is_for).session)
    c.loop-command.invariant.done

pub returns-in_err-text-clause-wrote_prefix : goal.returns-in_err-text-clause-wrote_prefix
returns-in_err-text-clause-wrote_prefix g c =
    let config = c.args.client.now.config in
    on_err c.from_residual.result
    (wrote_cut (config.tries * config.wait) c.args.commands.now c.loop-command.command-index _ _ (counted (g.L.Link.handed c.text_of.new.link) (g.L.Link.clock c.text_of.new.link) (g.L.Link.faults c.text_of.new.link)) _ _ _ _ _ c.loop-command.invariant.wrote
    c.text_of.ensures.counts c.text_of.ensures.later c.text_of.ensures.faults c.text_of.ensures.prefix)

pub returns-in-Err-clause-wrote_prefix : goal.returns-in-Err-clause-wrote_prefix
returns-in-Err-clause-wrote_prefix g c =
    let config = c.args.client.now.config in
    let commands = c.args.commands.now in
    let i = c.loop-command.command-index in
    let command = get_or commands i Addr in
    let text = c.in_ok-text.text in
    let so_far = g.K.Sink.written c.loop-command.sink in
    let now = g.K.Sink.written c.write_all.new.sink in
    let drained = g.L.Link.drained c.loop-command.link in
    let wrote : GainsPrefix so_far now text = subst (λ (l : List ℕ). GainsPrefix so_far now l) c.as_slice.ensures c.in-Err.ensures.err in
    let more : take (i + 1) commands ≡ take i commands ++ command ∷ [] = take_more commands i Addr (omega arith) in
    let said = subst (λ (k : ClientConfig). IsSaid (k.tries * k.wait) command (counted (g.L.Link.handed c.loop-command.link) (g.L.Link.clock c.loop-command.link) (g.L.Link.faults c.loop-command.link)) (counted (g.L.Link.handed c.text_of.new.link) (g.L.Link.clock c.text_of.new.link) (g.L.Link.faults c.text_of.new.link)) drained (g.L.Link.drained c.text_of.new.link) text)
    c.loop-command.invariant.config c.in_ok-text.ensures.said in
    wrote_part (config.tries * config.wait) (take i commands) command _ _ _ _ _ _ (g.K.Sink.written c.args.sink.now) so_far text c.loop-command.invariant.wrote said commands i now more wrote

pub returns-clause-wrote : goal.returns-clause-wrote
returns-clause-wrote g c =
    let config = c.args.client.now.config in
    subst (λ (l : List Command). Wrote (config.tries * config.wait) l (counted (g.L.Link.handed c.args.link.now) (g.L.Link.clock c.args.link.now) (g.L.Link.faults c.args.link.now)) (counted (g.L.Link.handed c.loop-command.link) (g.L.Link.clock c.loop-command.link) (g.L.Link.faults c.loop-command.link)) (g.L.Link.drained c.args.link.now) (g.L.Link.drained c.loop-command.link) (g.K.Sink.written c.args.sink.now) (g.K.Sink.written c.loop-command.sink))
    (take_all c.loop-command.command-index c.args.commands.now (omega arith)) c.loop-command.invariant.wrote
