-- A segment's fields as its callers see them.
use Rattle.sd_segment.specs.declared.segment.Segment.TheInside.{Inside}
use Rattle.sd_segment.specs.Segment.{SegmentView}

abbrev pub view_of : Inside → SegmentView
view_of s = record {
  config = s.server.config;
  events = s.events;
  server = s.server.part;
  flight = s.flight.items;
  kept = s.kept.items;
  tick = s.tick;
  to_server = s.to_server;
  to_client = s.to_client;
  broken = s.broken;
  drained = s.drained;
  faults = s.faults;
  handed = s.handed;
  calls = s.calls;
}
