use Rattle.std.proofs.Common.{◌≡◌, [], subst}
use Rattle.sd_outside.specs.Streams.{IsPrefixOf}
use Rattle.sd_link.specs.Link.{NothingWaits}
use Rattle.sd_link.specs.Printing.{record_text}
use Rattle.sd_link.specs.Steps.{whole_record}
use Rattle.sd_segment.specs.Inside.{view_of}
use Rattle.sd_segment.specs.Segment.{SegmentView, history_of, text_drained}
use Rattle.sd_segment.proofs.Passing.{settled_of, drained_front}
use Rattle.sd_segment.proofs.segment.Segment.tick.Goals as goal

pub returns-clause-settled : goal.returns-clause-settled
returns-clause-settled c =
    subst (λ (v : SegmentView). v.to_client ≡ [] → NothingWaits (history_of v)) c.self.view_is (settled_of (view_of c.self.inside) c.self.invariant)

pub returns-clause-prefix : goal.returns-clause-prefix
returns-clause-prefix c =
    subst (λ (v : SegmentView). IsPrefixOf (text_drained v) (record_text (whole_record (history_of v)))) c.self.view_is (drained_front (view_of c.self.inside) c.self.invariant)
