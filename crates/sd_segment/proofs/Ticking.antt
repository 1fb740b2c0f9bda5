-- A segment after time went on by one tick, and strangers sent what they send at it.
use Rattle.std.proofs.Common.{◌≡◌, ℕ, ◌+◌, ◌<◌, ◌≤◌, List, [], ◌∷◌, ◌++◌, length, map, refl, sym, ◌∙◌, ap, subst, arith, append_assoc, length-append}
use Rattle.std.specs.List.{AllByRecursion}
use Rattle.std.proofs.lemmas.List.{length-map}
use Rattle.sd_outside.specs.declared.packet.Packet.{Packet}
use Rattle.sd_config.specs.Events.{fates_of}
use Rattle.sd_config.specs.Plan.{strays_of}
use Rattle.sd_link.specs.World.{World, Flying, Stranger, flying}
use Rattle.sd_link.specs.Steps.{Step, Tick}
use Rattle.sd_link.specs.Lawful.{due_to_server, due_to_client}
use Rattle.sd_link.specs.Link.{last_tick}
use Rattle.sd_segment.specs.declared.flown.Flown.{Flown}
use Rattle.sd_segment.specs.declared.flown.Kept.{Kept}
use Rattle.sd_segment.specs.Flight.{flying_of, AllFated}
use Rattle.sd_segment.specs.Kept.{steps_kept, strays_kept}
use Rattle.sd_segment.specs.Segment.{SegmentView, IsSound, Rests, world_at}
use Rattle.sd_segment.specs.Strays.{Strayed}
use Rattle.sd_segment.specs.Passing.{Advances}
use Rattle.sd_segment.proofs.InFlight.{fated-append}
use Rattle.sd_segment.proofs.Keeping.{tick-push, keep_tick}
use Rattle.sd_segment.proofs.Turning.{turn_tick}
use Rattle.sd_segment.proofs.Ascending.{flight_until}
use Rattle.sd_segment.proofs.Straying.{Sent, strays_tick, all_sent, are_strangers}
use Rattle.sd_segment.proofs.Passing.{timely_of, bounded_of, text-push}
use Rattle.sd_segment.proofs.FailuresCounted.{fails_silent}
use Rattle.sd_segment.proofs.Waiting.{serves-silent, serves-fails}

abbrev pub tick_next : SegmentView → List Flown → List ℕ → List ℕ → SegmentView
tick_next s more to_server to_client = record s {
  flight = s.flight ++ more;
  kept = s.kept ++ strays_kept (s.tick + 1) (length s.flight) (length (strays_of s.events (s.tick + 1)));
  tick = s.tick + 1;
  to_server = to_server;
  to_client = to_client;
}

module _ (s : SegmentView) (more : List Flown) (to_server to_client : List ℕ) (i : IsSound s) (early : s.tick < last_tick) (ready : Rests s) (no_client : s.to_client ≡ [])
    (server_is : to_server ≡ due_to_server s.config (fates_of s.events) (world_at s.server s.flight (s.tick + 1)))
    (client_is : to_client ≡ due_to_client s.config (fates_of s.events) (world_at s.server s.flight (s.tick + 1)))
    (sent : map flying_of more ≡ map (flying Stranger (s.tick + 1)) (strays_of s.events (s.tick + 1))) where
  went : Sent s.config (fates_of s.events) (strays_of s.events) (s.tick + 1) s.server to_server to_client (timely_of s i) s.flight more s.kept (strays_kept (s.tick + 1) (length s.flight) (length (strays_of s.events (s.tick + 1))))
  went =
      let k = keep_tick s.config s.server s.flight s.kept s.tick i.keeps in
      let t = turn_tick s.config (fates_of s.events) s.server s.flight s.kept s.tick s.to_server s.to_client to_server to_client i.keeps i.turns ready.served ready.sessions no_client server_is client_is in
      let until : AllByRecursion (λ f. f.tick ≤ s.tick) (map flying_of s.flight) =
      flight_until s.config (steps_kept s.flight s.kept s.tick) s.flight s.tick (ap (λ (w : World). w.flight) i.keeps.world) (ap (λ (w : World). w.tick) i.keeps.world) in
      let strayed : Strayed s.config (strays_of s.events) (steps_kept s.flight s.kept (s.tick + 1)) (world_at s.server s.flight (s.tick + 1)) (strays_of s.events (s.tick + 1)) =
      strays_tick s.config (strays_of s.events) (steps_kept s.flight s.kept s.tick) (steps_kept s.flight s.kept (s.tick + 1)) (world_at s.server s.flight s.tick) (world_at s.server s.flight (s.tick + 1))
      (tick-push s.flight s.kept s.tick i.keeps.ticks) i.keeps.world refl until i.strays in
      all_sent s.config (fates_of s.events) (strays_of s.events) (s.tick + 1) s.server to_server to_client (timely_of s i) (strays_of s.events (s.tick + 1)) s.flight more s.kept k t strayed sent (are_strangers s.config s.events (s.tick + 1) i.events)

  steps_more : (sent : List Step)
      → steps_kept (tick_next s more to_server to_client).flight (tick_next s more to_server to_client).kept (s.tick + 1) ≡ steps_kept s.flight s.kept (s.tick + 1) ++ sent
      → steps_kept (tick_next s more to_server to_client).flight (tick_next s more to_server to_client).kept (s.tick + 1) ≡ steps_kept s.flight s.kept s.tick ++ (Tick ∷ sent)
  steps_more sent went_is = went_is ∙ ap (λ (l : List Step). l ++ sent) (tick-push s.flight s.kept s.tick i.keeps.ticks) ∙ append_assoc (steps_kept s.flight s.kept s.tick) (Tick ∷ []) sent

  pub sound_tick : length s.flight + length (strays_of s.events (s.tick + 1)) ≤ last_tick → AllFated s.events.fates (length s.flight) more → IsSound (tick_next s more to_server to_client)
  sound_tick room fated =
      let w = went in
      let packets : List Packet = strays_of s.events (s.tick + 1) in
      let next = tick_next s more to_server to_client in
      let here : 0 + length s.flight ≡ length s.flight = omega arith in
      let long : length more ≡ length packets = sym (length-map more flying_of) ∙ ap (λ (l : List Flying). length l) sent ∙ length-map packets (flying Stranger (s.tick + 1)) in
      record {
        keeps = w.keeps;
        turns = w.turns;
        fated = fated-append s.events.fates 0 s.flight more i.fated (subst (λ (n : ℕ). AllFated s.events.fates n more) (sym here) fated);
        events = i.events;
        config = i.config;
        tick = omega (arith, early);
        ids = omega (arith, room, long, length-append s.flight more);
        drained = omega (arith, i.drained, length-append s.kept (strays_kept (s.tick + 1) (length s.flight) (length packets)));
        failing = fails_silent s.config s.events (steps_kept s.flight s.kept s.tick) (steps_kept next.flight next.kept (s.tick + 1)) (Tick ∷ w.steps) s.calls s.faults
            (steps_more w.steps w.went) i.failing (serves-silent w.steps w.serves) (serves-fails w.steps w.serves);
        strays = w.strayed_all;
      }

  pub passes_tick : IsSound (tick_next s more to_server to_client) → Advances s (tick_next s more to_server to_client)
  passes_tick j =
      let w = went in (
        w.steps,
        record {
          config = refl;
          events = refl;
          steps = steps_more w.steps w.went;
          drained = text-push s more (strays_kept (s.tick + 1) (length s.flight) (length (strays_of s.events (s.tick + 1)))) i;
          faults = refl;
          broken = refl;
          bounded = bounded_of (tick_next s more to_server to_client) j;
          stood = ap (λ (x : World). x.tick) i.keeps.world;
        },
        w.serves,
      )

pub tick_is : (s : SegmentView) (flight more : List Flown) (kept : List Kept) (to_server to_client : List ℕ) → flight ≡ s.flight ++ more
    → kept ≡ s.kept ++ strays_kept (s.tick + 1) (length s.flight) (length (strays_of s.events (s.tick + 1)))
    → record s { flight = flight; kept = kept; tick = s.tick + 1; to_server = to_server; to_client = to_client } ≡ tick_next s more to_server to_client
tick_is s flight more kept to_server to_client f k = λ i. record s { flight = f i; kept = k i; tick = s.tick + 1; to_server = to_server; to_client = to_client }
