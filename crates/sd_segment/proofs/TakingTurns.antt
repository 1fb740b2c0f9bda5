-- A segment after its sessions had their turns.
use Rattle.std.proofs.Common.{◌≡◌, ℕ, ◌+◌, ◌≤◌, List, [], ◌∷◌, ◌++◌, length, map, refl, sym, ◌∙◌, ap, subst, arith, length-append}
use Rattle.std.specs.List.{flat_map}
use Rattle.std.proofs.lemmas.List.{length-map}
use Rattle.sd_outside.specs.declared.packet.Packet.{Packet}
use Rattle.sd_config.specs.declared.config.Config.{Config}
use Rattle.sd_config.specs.Events.{fates_of}
use Rattle.sd_config.specs.Plan.{strays_of}
use Rattle.sd_segment.proofs.Straying.{strays_on, within_turns}
use Rattle.sd_services.specs.Part.{ServerPart}
use Rattle.sd_link.specs.World.{World, Flying, Server, flying}
use Rattle.sd_link.specs.Steps.{Step, Data, End}
use Rattle.sd_link.specs.Parts.{sends_in, fails_in}
use Rattle.sd_link.specs.Link.{last_tick}
use Rattle.sd_server.specs.Ticks.{after_tick, sent_at, dues, Ascending}
use Rattle.sd_segment.specs.declared.flown.Flown.{Flown}
use Rattle.sd_segment.specs.declared.flown.Kept.{Kept}
use Rattle.sd_segment.specs.Calm.{CalmView}
use Rattle.sd_segment.specs.Flight.{flying_of, AllFated}
use Rattle.sd_segment.specs.Kept.{steps_kept, turns_kept}
use Rattle.sd_segment.specs.Segment.{SegmentView, IsSound, Rests, Turns, world_at}
use Rattle.sd_segment.specs.Passing.{TakesTurns, AllTurns}
use Rattle.sd_segment.proofs.FailuresCounted.{fails_silent}
use Rattle.sd_segment.proofs.InFlight.{fated-append}
use Rattle.sd_segment.proofs.Passing.{timely_of, bounded_of, text-push}
use Rattle.sd_segment.proofs.SessionTurns.{Went, all_go, few_sent, none_left_due}

-- as many packets as were sent
more_long : (c : Config) (tick : ℕ) (part : ServerPart) (more : List Flown) → map flying_of more ≡ map (flying Server tick) (flat_map (sent_at c tick) part.sessions) → length more ≤ length (dues c tick part.sessions)
more_long c tick part more sent =
    let packets : List Packet = flat_map (sent_at c tick) part.sessions in
    let long : length more ≡ length packets = sym (length-map more flying_of) ∙ ap (λ (l : List Flying). length l) sent ∙ length-map packets (flying Server tick) in
    omega (arith, long, few_sent c tick part.sessions)

turns-silent : (steps : List Step) → AllTurns steps → sends_in steps ≡ []
turns-silent [] all = refl
turns-silent (Data number ∷ steps) all = turns-silent steps all
turns-silent (End number ∷ steps) all = turns-silent steps all
turns-silent (others ∷ steps) all = absurd all

turns-fails : (steps : List Step) → AllTurns steps → fails_in steps ≡ 0
turns-fails [] all = refl
turns-fails (Data number ∷ steps) all = turns-fails steps all
turns-fails (End number ∷ steps) all = turns-fails steps all
turns-fails (others ∷ steps) all = absurd all

abbrev pub turns_next : SegmentView → List Flown → SegmentView
turns_next s more = record s {
  server = record s.server { sessions = flat_map (after_tick s.config s.tick) s.server.sessions };
  flight = s.flight ++ more;
  kept = s.kept ++ turns_kept s.tick (length s.flight) (dues s.config s.tick s.server.sessions);
}

module _ (s : SegmentView) (more : List Flown) (i : IsSound s) (served : s.to_server ≡ []) (asc : Ascending s.server.sessions)
    (sent : map flying_of more ≡ map (flying Server s.tick) (flat_map (sent_at s.config s.tick) s.server.sessions)) where
  went : Went s.config (fates_of s.events) s.tick s.server s.to_client (i.config.wait.0) (timely_of s i) s.flight more s.kept (turns_kept s.tick (length s.flight) (dues s.config s.tick s.server.sessions)) (flat_map (after_tick s.config s.tick) s.server.sessions)
  went =
      all_go s.config (fates_of s.events) s.tick s.server s.to_client i.config.wait.0 (timely_of s i) s.flight more s.kept i.keeps
      (subst (λ (l : List ℕ). Turns s.config (fates_of s.events) s.server s.flight s.kept s.tick l s.to_client) served i.turns) asc sent

  pub sound_turns : length s.flight + length (dues s.config s.tick s.server.sessions) ≤ last_tick → AllFated s.events.fates (length s.flight) more → IsSound (turns_next s more)
  sound_turns room fated =
      let w = went in
      let next = turns_next s more in
      let here : 0 + length s.flight ≡ length s.flight = omega arith in
      record {
        keeps = w.keeps;
        turns = subst (λ (l : List ℕ). Turns s.config (fates_of s.events) next.server next.flight next.kept s.tick l s.to_client) (sym served) w.turns;
        fated = fated-append s.events.fates 0 s.flight more i.fated (subst (λ (n : ℕ). AllFated s.events.fates n more) (sym here) fated);
        events = i.events;
        config = i.config;
        tick = i.tick;
        ids = omega (arith, room, length-append s.flight more, more_long s.config s.tick s.server more sent);
        drained = omega (arith, i.drained, length-append s.kept (turns_kept s.tick (length s.flight) (dues s.config s.tick s.server.sessions)));
        failing = fails_silent s.config s.events (steps_kept s.flight s.kept s.tick) (steps_kept next.flight next.kept s.tick) w.steps s.calls s.faults w.went i.failing (turns-silent w.steps w.serves) (turns-fails w.steps w.serves);
        strays = strays_on s.config (strays_of s.events) (steps_kept s.flight s.kept s.tick) (steps_kept next.flight next.kept s.tick) w.steps (world_at s.server s.flight s.tick) (world_at next.server next.flight s.tick) w.went i.keeps.world w.keeps.world (within_turns w.steps w.serves) i.strays;
      }

  pub takes_turns : IsSound (turns_next s more) → TakesTurns s (turns_next s more)
  takes_turns j =
      let w = went in (
        w.steps,
        record {
          config = refl;
          events = refl;
          steps = w.went;
          drained = text-push s more (turns_kept s.tick (length s.flight) (dues s.config s.tick s.server.sessions)) i;
          faults = refl;
          broken = refl;
          bounded = bounded_of (turns_next s more) j;
          stood = ap (λ (x : World). x.tick) i.keeps.world;
        },
        w.serves,
      )

  pub rests_then : Rests (turns_next s more)
  rests_then = record { served = served; sessions = none_left_due s.config s.server (s.flight ++ more) s.tick i.config.wait.0 }

-- ---- as a function's proof has it

pub turns_is : (s : SegmentView) (server : CalmView) (flight more : List Flown) (kept : List Kept) → server ≡ record { config = s.config; part = record s.server { sessions = flat_map (after_tick s.config s.tick) s.server.sessions } }
    → flight ≡ s.flight ++ more → kept ≡ s.kept ++ turns_kept s.tick (length s.flight) (dues s.config s.tick s.server.sessions)
    → record s { config = server.config; server = server.part; flight = flight; kept = kept } ≡ turns_next s more
turns_is s server flight more kept b f k = λ i. record s { config = (b i).config; server = (b i).part; flight = f i; kept = k i }
