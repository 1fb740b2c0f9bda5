use Rattle.std.proofs.Common.{ℕ, List, Option, None, sym, ◌∙◌, ap, subst, arith}
use Rattle.sd_outside.specs.declared.packet.Packet.{Packet}
use Rattle.sd_link.specs.Steps.{Step}
use Rattle.sd_segment.specs.Segment.{SegmentView}
use Rattle.sd_segment.specs.Passing.{Waits, HandsOut}
use Rattle.sd_segment.proofs.Waiting.{waits_more, receives_packet, waits_if, receives_none, receives_err, receives_failed}
use Rattle.sd_segment.proofs.segment.Segment.receive.Goals as goal

pub returns-in-Ok-Some-clause-told : goal.returns-in-Ok-Some-clause-told
returns-in-Ok-Some-clause-told c =
    let w = c.waiting.invariant.waits in
    let h = subst (λ (o : Option Packet). HandsOut c.waiting.self c.hand_out.new.self o) c.in-Ok-Some.field-0-is c.in-Ok-Some.ensures.got in
    receives_packet c.args.until c.args.self.now c.waiting.self c.hand_out.new.self w.0 h.0 c.in-Ok-Some.packet w.1 h.1

-- nothing was handed out, so the segment stands where it stood
still_waits : (until : ℕ) (old mid new : SegmentView) (part : List Step) → HandsOut mid new None → Waits until old mid part → Waits until old new part
still_waits until old mid new part h w = subst (λ (v : SegmentView). Waits until old v part) (sym h.0) w

pub returns-then-tick-until-clause-told : goal.returns-then-tick-until-clause-told
returns-then-tick-until-clause-told c =
    let w = c.waiting.invariant.waits in
    let h = subst (λ (o : Option Packet). HandsOut c.waiting.self c.hand_out.new.self o) c.in-Ok-None.field-0-is c.in-Ok-None.ensures.got in
    let v = still_waits c.args.until c.args.self.now c.waiting.self c.hand_out.new.self w.0 h w.1 in
    receives_none c.args.until c.args.self.now c.hand_out.new.self w.0 v c.tick-tick.ensures.stood (omega (arith, c.if-tick-until.true, c.tick-tick.ensures.value))
    (c.tick-tick.ensures.settled h.1)

pub returns-in-Err-clause-told : goal.returns-in-Err-clause-told
returns-in-Err-clause-told c =
    let w = c.waiting.invariant.waits in
    let v = subst (λ (s : SegmentView). Waits c.args.until c.args.self.now s w.0) (sym c.in-Err.ensures.err) w.1 in
    receives_err c.args.until c.args.self.now c.hand_out.new.self w.0 v

pub returns-in-Ok-clause-told : goal.returns-in-Ok-clause-told
returns-in-Ok-clause-told c =
    let w = c.waiting.invariant.waits in
    let h = subst (λ (o : Option Packet). HandsOut c.waiting.self c.hand_out.new.self o) c.in-Ok-None.field-0-is c.in-Ok-None.ensures.got in
    let v = still_waits c.args.until c.args.self.now c.waiting.self c.hand_out.new.self w.0 h w.1 in
    receives_failed c.args.until c.args.self.now c.hand_out.new.self c.fail.new.self w.0 v c.in-Ok.ensures.ok

pub returns-in-Err-advance-clause-told : goal.returns-in-Err-advance-clause-told
returns-in-Err-advance-clause-told c =
    let w = c.waiting.invariant.waits in
    let h = subst (λ (o : Option Packet). HandsOut c.waiting.self c.hand_out.new.self o) c.in-Ok-None.field-0-is c.in-Ok-None.ensures.got in
    let v = still_waits c.args.until c.args.self.now c.waiting.self c.hand_out.new.self w.0 h w.1 in
    let more = waits_if c.args.until c.args.self.now c.hand_out.new.self c.advance.new.self w.0 v (omega (arith, c.if-tick-until.false, c.tick-tick.ensures.value)) c.advance.ensures.moves in
    receives_err c.args.until c.args.self.now c.advance.new.self more.0 more.1

pub waiting-preserved : goal.waiting-preserved
waiting-preserved c =
    let w = c.waiting.invariant.waits in
    let h = subst (λ (o : Option Packet). HandsOut c.waiting.self c.hand_out.new.self o) c.in-Ok-None.field-0-is c.in-Ok-None.ensures.got in
    let v = still_waits c.args.until c.args.self.now c.waiting.self c.hand_out.new.self w.0 h w.1 in
    let e = c.in-Ok-advance.ensures in
    record {
      waits = waits_more c.args.until c.args.self.now c.hand_out.new.self c.advance.new.self w.0 v (omega (arith, c.if-tick-until.false, c.tick-tick.ensures.value)) e.passed;
      bounded = e.passed.1.bounded;
      ready = e.ready;
      tick = omega (arith, e.tick, c.hand_out.ensures.tick, c.waiting.invariant.tick);
      faults = e.passed.1.faults ∙ ap (λ (v : SegmentView). v.faults) h.0 ∙ c.waiting.invariant.faults;
      handed = c.advance.ensures.handed ∙ ap (λ (v : SegmentView). v.handed) h.0 ∙ c.waiting.invariant.handed;
      calls = c.advance.ensures.calls ∙ ap (λ (v : SegmentView). v.calls) h.0 ∙ c.waiting.invariant.calls;
    }

pub returns-in-Err-fail-clause-told : goal.returns-in-Err-fail-clause-told
returns-in-Err-fail-clause-told c =
    let w = c.waiting.invariant.waits in
    let h = subst (λ (o : Option Packet). HandsOut c.waiting.self c.hand_out.new.self o) c.in-Ok-None.field-0-is c.in-Ok-None.ensures.got in
    let v = still_waits c.args.until c.args.self.now c.waiting.self c.hand_out.new.self w.0 h w.1 in
    receives_err c.args.until c.args.self.now c.fail.new.self w.0
    (subst (λ (s : SegmentView). Waits c.args.until c.args.self.now s w.0) (sym c.in-Err-fail.ensures.err) v)
