-- A segment at tick 0.
use Rattle.std.proofs.Common.{◌≡◌, [], refl, sym, subst, arith}
use Rattle.sd_config.specs.Config.{IsConfig}
use Rattle.sd_config.specs.Events.{IsEvents}
use Rattle.sd_services.specs.Part.{first_part}
use Rattle.sd_segment.specs.Segment.{SegmentView, IsSound}
use Rattle.sd_segment.proofs.FailuresCounted.{fails_none}
use Rattle.sd_segment.proofs.Straying.{strays_none}

first_view : SegmentView → SegmentView
first_view s = record s { server = first_part s.config; flight = []; kept = []; tick = 0; to_server = []; to_client = []; drained = 0; faults = 0; calls = 0 }

sound_first : (s : SegmentView) → IsConfig s.config → IsEvents s.config s.events → IsSound (first_view s)
unfolding first_view
sound_first s config events = record {
  keeps = record { world = refl; allowed = tt; entries = refl; ids = tt; ticks = omega arith };
  turns = record { in_turn = tt; server = refl; client = refl; past = tt };
  fated = tt;
  events = events;
  config = config;
  tick = omega arith;
  ids = omega arith;
  drained = omega arith;
  failing = fails_none s.config s.events;
  strays = strays_none s.config s.events events;
}

pub sound_start : (s : SegmentView) → IsConfig s.config → IsEvents s.config s.events → s.server ≡ first_part s.config → s.flight ≡ [] → s.kept ≡ [] → s.tick ≡ 0 → s.to_server ≡ [] → s.to_client ≡ [] → s.drained ≡ 0 → s.faults ≡ 0 → s.calls ≡ 0 → IsSound s
unfolding first_view
sound_start s config events server flight kept tick to_server to_client drained faults calls =
    subst IsSound (λ i. record s { server = sym server i; flight = sym flight i; kept = sym kept i; tick = sym tick i; to_server = sym to_server i; to_client = sym to_client i; drained = sym drained i; faults = sym faults i; calls = sym calls i })
    (sound_first s config events)
