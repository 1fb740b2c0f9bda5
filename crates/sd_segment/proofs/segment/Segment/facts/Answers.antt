use Rattle.std.proofs.Common.{◌≡◌, ◌⊎◌, ◌+◌, ◌≤◌, subst}
use Rattle.sd_config.specs.Plan.{plan_of}
use Rattle.sd_outside.specs.Streams.{IsPrefixOf}
use Rattle.sd_link.specs.Lawful.{IsOrderly, FailsAsPlanned, named_sends}
use Rattle.sd_link.specs.World.{start}
use Rattle.sd_segment.specs.Failing.{early_fails}
use Rattle.sd_link.specs.Link.{IsAtRest, last_tick}
use Rattle.sd_link.specs.Steps.{whole_record}
use Rattle.sd_link.specs.Printing.{record_text}
use Rattle.sd_segment.specs.Inside.{view_of}
use Rattle.sd_segment.specs.Segment.{SegmentView, history_of, text_drained, Rests}
use Rattle.sd_segment.proofs.Orderly.{orderly_of, receives_of, early_of}
use Rattle.sd_segment.proofs.Passing.{drained_front, rests_of}
use Rattle.sd_segment.proofs.segment.Segment.facts.Goals as goal

pub returns-clause-drained : goal.returns-clause-drained
returns-clause-drained c =
    subst (λ (v : SegmentView). IsPrefixOf (text_drained v) (record_text (whole_record (history_of v)))) c.self.view_is (drained_front (view_of c.self.inside) c.self.invariant)

pub returns-clause-rests : goal.returns-clause-rests
returns-clause-rests c =
    subst (λ (v : SegmentView). Rests v → IsAtRest (history_of v)) c.self.view_is (rests_of (view_of c.self.inside) c.self.invariant)

pub returns-clause-orderly : goal.returns-clause-orderly
returns-clause-orderly c =
    subst (λ (v : SegmentView). IsOrderly v.config (plan_of v.events) (history_of v).steps) c.self.view_is (orderly_of (view_of c.self.inside) c.self.invariant)

pub returns-clause-receives : goal.returns-clause-receives
returns-clause-receives c =
    subst (λ (v : SegmentView). FailsAsPlanned v.config (plan_of v.events) (history_of v).steps ⊎ (v.tick ≡ last_tick)) c.self.view_is (receives_of (view_of c.self.inside) c.self.invariant)

pub returns-clause-early : goal.returns-clause-early
returns-clause-early c =
    subst (λ (v : SegmentView). early_fails v.config (start v.config) (history_of v).steps ≤ named_sends (plan_of v.events).sends v.config (start v.config) (history_of v).steps + (plan_of v.events).receives) c.self.view_is
    (early_of (view_of c.self.inside) c.self.invariant)
