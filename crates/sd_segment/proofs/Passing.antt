-- A segment goes on by one step.
use Rattle.std.proofs.Common.{◌≡◌, ℕ, zero, suc, ◌+◌, ◌<◌, ◌≤◌, Bool, true, false, List, [], ◌∷◌, ◌++◌, length, get_or, take, drop, map, Option, Some, refl, sym, ◌∙◌, ap, subst, arith, append_assoc, length-append}
use Rattle.std.specs.Prelude.{◌-◌, ◌^◌, min, slice_get}
use Rattle.std.specs.List.{AllByRecursion, list_any}
use Rattle.std.proofs.lemmas.List.{append-nil, take-append-le, length-map}
use Rattle.sd_outside.specs.declared.packet.Packet.{Packet}
use Rattle.sd_config.specs.declared.events.Fate.{Fate}
use Rattle.sd_config.specs.Events.{fates_of, fate_in}
use Rattle.sd_link.specs.World.{World, Sender, start}
use Rattle.sd_services.specs.Part.{ServerPart}
use Rattle.sd_services.specs.Reply.{out_of, next_of}
use Rattle.sd_link.specs.Steps.{Step, Send, Serve, Get, Fail, Entry, goes_to_server, goes_to_client, whole_record, run}
use Rattle.sd_outside.specs.Streams.{IsPrefixOf}
use Rattle.sd_link.specs.Lawful.{served_at, got_at, strayed, AllGot, ServerRests}
use Rattle.sd_link.specs.Link.{last_tick, IsReached, NothingWaits, IsAtRest}
use Rattle.sd_link.specs.Printing.{record_text}
use Rattle.sd_segment.specs.declared.flown.Origin.TheVariants as origin
use Rattle.sd_segment.specs.declared.flown.Flown.{Flown}
use Rattle.sd_segment.specs.declared.flown.Kept.{Kept}
use Rattle.sd_segment.specs.declared.flown.What.TheVariants.{Sent, Served, Got, Failed}
use Rattle.sd_segment.specs.Flight.{flying_of, packet_or, replied, reply_of, delays_of, AllFated}
use Rattle.sd_segment.specs.Calm.{CalmView}
use Rattle.sd_segment.specs.Kept.{steps_kept, entries_kept, ids_end}
use Rattle.sd_segment.specs.Segment.{SegmentView, IsSound, Rests, world_at, history_of, text_drained}
use Rattle.sd_segment.specs.Failing.{names_call, Failing}
use Rattle.sd_segment.specs.Passing.{Passes, Fails, FailsToSend}
use Rattle.sd_segment.proofs.FailuresCounted.{fails_on, fails_silent, fails_send, fails_call, fails_last, fails_counted, send_so}
use Rattle.sd_segment.proofs.Fates.{IsTimely, timely, fated-push}
use Rattle.sd_segment.proofs.Dues.{IsComing, all_coming, all-suffix}
use Rattle.sd_segment.proofs.Keeping.{kept-push, kept-grow, get-last, keep_sent, keep_served, keep_got, keep_failed}
use Rattle.sd_config.specs.Plan.{strays_of, plan_of}
use Rattle.sd_segment.proofs.Straying.{strays_on, within_send, within_failing, within_serve, within_get, within_fail}
use Rattle.sd_segment.proofs.Printed.{all_lines}
use Rattle.sd_segment.proofs.Turning.{turn_sent, turn_served, turn_got, turn_failed}

-- ---- what a sound segment knows

pub timely_of : (s : SegmentView) → IsSound s → IsTimely s.config.life (fates_of s.events)
timely_of s i = timely s.config.life s.events.fates i.config.life.0 i.events.fates

pub bounded_of : (s : SegmentView) → IsSound s → IsReached (history_of s)
bounded_of s i = record {
  lawful = i.keeps.allowed;
  tick = omega (arith, i.tick, ap (λ (w : World). w.tick) i.keeps.world);
  ids = omega (arith, i.ids, ap (λ (w : World). length w.flight) i.keeps.world, length-map s.flight flying_of);
}

-- where nothing is still to come to the client, all that is due to it has come
pub settled_of : (s : SegmentView) → IsSound s → s.to_client ≡ [] → NothingWaits (history_of s)
settled_of s i none =
    let fates = fates_of s.events in
    let h = history_of s in
    let entries = entries_kept s.flight s.kept in
    let there = world_at s.server s.flight s.tick in
    let all : AllGot s.config fates there entries =
    sym (append-nil (got_at s.tick entries)) ∙ ap (λ (l : List ℕ). got_at s.tick entries ++ l) (sym none) ∙ i.turns.client in
    subst (λ (w : World). AllGot s.config fates w (whole_record h)) (sym i.keeps.world)
    (subst (λ (l : List Entry). AllGot s.config fates there l) (sym i.keeps.entries) all)

-- where nothing is still to be done by the server, it is done with the tick
pub rests_of : (s : SegmentView) → IsSound s → Rests s → IsAtRest (history_of s)
rests_of s i ready =
    let fates = fates_of s.events in
    let h = history_of s in
    let entries = entries_kept s.flight s.kept in
    let there = world_at s.server s.flight s.tick in
    let all : ServerRests s.config fates there entries =
    (sym (append-nil (served_at s.tick entries)) ∙ ap (λ (l : List ℕ). served_at s.tick entries ++ l) (sym ready.served) ∙ i.turns.server, ready.sessions) in
    record {
      server =
          subst (λ (w : World). ServerRests s.config fates w (whole_record h)) (sym i.keeps.world)
          (subst (λ (l : List Entry). ServerRests s.config fates there l) (sym i.keeps.entries) all);
      strangers = subst (λ (w : World). strayed w ≡ strays_of s.events w.tick) (sym i.keeps.world) (sym (append-nil (strayed there)) ∙ i.strays.left);
    }

pub drained_front : (s : SegmentView) → IsSound s → IsPrefixOf (text_drained s) (record_text (whole_record (history_of s)))
drained_front s i = (record_text (entries_kept s.flight (drop s.drained s.kept)), sym (all_lines s.flight s.kept s.drained) ∙ ap record_text (sym i.keeps.entries))

all_first : (P : ℕ → Type 0) (xs : List ℕ) (x : ℕ) → slice_get xs 0 ≡ Some x → AllByRecursion P xs → P x
all_first P [] x is all = absurd (cc)
all_first P (y ∷ ys) x is all = let same : y ≡ x = cc in subst P same all.0

pub coming_to_server : (s : SegmentView) (id : ℕ) → IsSound s → slice_get s.to_server 0 ≡ Some id → IsComing s.config (world_at s.server s.flight s.tick) (goes_to_server s.config) id
coming_to_server s id i next =
    let w = world_at s.server s.flight s.tick in
    let P = IsComing s.config w (goes_to_server s.config) in
    let all = all_coming s.config w (goes_to_server s.config) (fates_of s.events) (timely_of s i) in
    all_first P s.to_server id next (all-suffix P (served_at s.tick (entries_kept s.flight s.kept)) s.to_server (subst (λ (l : List ℕ). AllByRecursion P l) (sym i.turns.server) all))

pub coming_to_client : (s : SegmentView) (id : ℕ) → IsSound s → slice_get s.to_client 0 ≡ Some id → IsComing s.config (world_at s.server s.flight s.tick) (goes_to_client s.config) id
coming_to_client s id i next =
    let w = world_at s.server s.flight s.tick in
    let P = IsComing s.config w (goes_to_client s.config) in
    let all = all_coming s.config w (goes_to_client s.config) (fates_of s.events) (timely_of s i) in
    all_first P s.to_client id next (all-suffix P (got_at s.tick (entries_kept s.flight s.kept)) s.to_client (subst (λ (l : List ℕ). AllByRecursion P l) (sym i.turns.client) all))

get-inside : {A : Type 0} (xs : List A) (i : ℕ) (x : A) → slice_get xs i ≡ Some x → i < length xs
get-inside [] i x is = absurd (cc)
get-inside (y ∷ ys) zero x is = omega arith
get-inside (y ∷ ys) (suc i) x is = omega (arith, get-inside ys i x is)

pub coming_inside : (s : SegmentView) (goes : Sender → Packet → Bool) (id : ℕ) → IsComing s.config (world_at s.server s.flight s.tick) goes id → id < length s.flight
coming_inside s goes id come = omega (arith, get-inside (map flying_of s.flight) id come.f come.here.sent, length-map s.flight flying_of)

get-some : {A : Type 0} (xs : List A) (i : ℕ) (d : A) → i < length xs → slice_get xs i ≡ Some (get_or xs i d)
get-some [] i d lt = absurd (omega arith)
get-some (x ∷ xs) zero d lt = refl
get-some (x ∷ xs) (suc i) d lt = get-some xs i d (omega arith)

pub found_in : {A : Type 0} (given xs : List A) (i : ℕ) (x : A) → given ≡ xs → i < length xs → x ≡ get_or given i x → slice_get xs i ≡ Some x
found_in given xs i x same lt is = get-some xs i x lt ∙ ap (λ y. Some y) (ap (λ l. get_or l i x) (sym same) ∙ sym is)

-- the replies don't look at the tick
ids-take : (n m : ℕ) (kept : List Kept) → AllByRecursion (λ k. ids_end k.what ≤ m) kept → AllByRecursion (λ k. ids_end k.what ≤ m) (take n kept)
ids-take zero m kept ids = tt
ids-take (suc n) m [] ids = tt
ids-take (suc n) m (k ∷ ks) ids = (ids.0, ids-take n m ks ids.1)

-- what was drained stays what it was
pub text-push : (s : SegmentView) (more : List Flown) (ks : List Kept) → IsSound s → record_text (entries_kept (s.flight ++ more) (take s.drained (s.kept ++ ks))) ≡ text_drained s
text-push s more ks i =
    ap (λ (l : List Kept). record_text (entries_kept (s.flight ++ more) l)) (take-append-le s.drained s.kept ks i.drained)
    ∙ ap record_text (kept-grow s.flight more (take s.drained s.kept) (ids-take s.drained (length s.flight) s.kept i.keeps.ids))

drained-push : (n : ℕ) (kept : List Kept) (k : Kept) → n ≤ length kept → n ≤ length (kept ++ k ∷ [])
drained-push n kept k le = omega (arith, length-append kept (k ∷ []))

-- ---- the client sends

abbrev pub flown_of : ℕ → Option ℕ → Packet → Flown
flown_of tick fate packet = record { from = origin.Client; tick = tick; packet = packet; fate = fate }

abbrev pub sent_next : SegmentView → Packet → Option ℕ → SegmentView
sent_next s packet fate = record s { flight = s.flight ++ flown_of s.tick fate packet ∷ []; kept = s.kept ++ record { tick = s.tick; what = Sent (length s.flight) } ∷ [] }

sent_step : (s : SegmentView) (packet : Packet) (fate : Option ℕ) → IsSound s → steps_kept (sent_next s packet fate).flight (sent_next s packet fate).kept s.tick ≡ steps_kept s.flight s.kept s.tick ++ Send packet ∷ []
sent_step s packet fate i =
    let f = flown_of s.tick fate packet in
    kept-push s.flight (f ∷ []) s.kept s.tick (Sent (length s.flight)) i.keeps.ids ∙ ap (λ (o : Option Flown). steps_kept s.flight s.kept s.tick ++ Send (packet_or o) ∷ []) (get-last s.flight f)

-- as the plan of failures counts the packets
id_here : (s : SegmentView) → length (map flying_of s.flight) ≡ length s.flight
id_here s = length-map s.flight flying_of

pub sound_sent : (s : SegmentView) (packet : Packet) (fate : Option ℕ) → IsSound s → Rests s → length s.flight < last_tick → delays_of s.events.fates fate ≡ fate_in s.events.fates (length s.flight)
    → (plan_of s.events).sends (length s.flight) ≡ false
    → IsSound (sent_next s packet fate)
sound_sent s packet fate i ready room is calm =
    let f = flown_of s.tick fate packet in
    let here : 0 + length s.flight ≡ length s.flight = omega arith in
    let k = keep_sent s.config s.server s.flight s.kept s.tick packet fate i.keeps in
    let next = sent_next s packet fate in
    record {
      keeps = k;
      strays = strays_on s.config (strays_of s.events) (steps_kept s.flight s.kept s.tick) (steps_kept next.flight next.kept s.tick) (Send packet ∷ []) (world_at s.server s.flight s.tick) (world_at next.server next.flight s.tick)
          (sent_step s packet fate i)
          i.keeps.world k.world (within_send packet) i.strays;
      turns = turn_sent s.config (fates_of s.events) s.server s.flight s.kept s.tick f packet s.to_server s.to_client i.keeps i.turns (timely_of s i) refl ready.served ready.sessions (ap (λ (o : Option Flown). Send (packet_or o)) (get-last s.flight f));
      fated = fated-push s.events.fates 0 s.flight f i.fated (is ∙ ap (λ (n : ℕ). fate_in s.events.fates n) (sym here));
      events = i.events;
      config = i.config;
      tick = i.tick;
      ids = omega (arith, length-append s.flight (f ∷ []));
      drained = drained-push s.drained s.kept _ i.drained;
      failing = fails_on s.config s.events (steps_kept s.flight s.kept s.tick) (steps_kept next.flight next.kept s.tick) (Send packet ∷ []) s.calls s.faults (sent_step s packet fate i) i.failing
          (send_so (plan_of s.events).sends s.config (run s.config (start s.config) (steps_kept s.flight s.kept s.tick)) (world_at s.server s.flight s.tick) packet i.keeps.world (ap (plan_of s.events).sends (id_here s) ∙ calm))
          refl;
    }

pub passes_sent : (s : SegmentView) (packet : Packet) (fate : Option ℕ) → IsSound s → IsSound (sent_next s packet fate) → Passes s (sent_next s packet fate) (Send packet ∷ [])
passes_sent s packet fate i j =
    let f = flown_of s.tick fate packet in
    record {
      config = refl;
      events = refl;
      steps = sent_step s packet fate i;
      drained = text-push s (f ∷ []) (record { tick = s.tick; what = Sent (length s.flight) } ∷ []) i;
      faults = refl;
      broken = refl;
      bounded = bounded_of (sent_next s packet fate) j;
      stood = ap (λ (w : World). w.tick) i.keeps.world;
    }

-- ---- the client's send fails

abbrev pub failing_next : SegmentView → Packet → Option ℕ → ℕ → SegmentView
failing_next s packet fate faults = record s {
  flight = s.flight ++ flown_of s.tick fate packet ∷ [];
  kept = (s.kept ++ record { tick = s.tick; what = Sent (length s.flight) } ∷ []) ++ record { tick = s.tick; what = Failed } ∷ [];
  faults = faults;
}

failing_step : (s : SegmentView) (packet : Packet) (fate : Option ℕ) (faults : ℕ) → IsSound s
    → steps_kept (failing_next s packet fate faults).flight (failing_next s packet fate faults).kept s.tick ≡ steps_kept s.flight s.kept s.tick ++ (Send packet ∷ Fail ∷ [])
failing_step s packet fate faults i =
    let next = sent_next s packet fate in
    let k = keep_sent s.config s.server s.flight s.kept s.tick packet fate i.keeps in
    ap (λ (l : List Flown). steps_kept l (failing_next s packet fate faults).kept s.tick) (sym (append-nil next.flight))
    ∙ kept-push next.flight [] next.kept s.tick Failed k.ids
    ∙ ap (λ (l : List Step). l ++ Fail ∷ []) (sent_step s packet fate i)
    ∙ append_assoc (steps_kept s.flight s.kept s.tick) (Send packet ∷ []) (Fail ∷ [])

pub sound_failing : (s : SegmentView) (packet : Packet) (fate : Option ℕ) → IsSound s → Rests s → length s.flight < last_tick → delays_of s.events.fates fate ≡ fate_in s.events.fates (length s.flight)
    → (plan_of s.events).sends (length s.flight) ≡ true
    → IsSound (failing_next s packet fate (min (s.faults + 1) (2 ^ 64 - 1)))
sound_failing s packet fate i ready room is named =
    let f = flown_of s.tick fate packet in
    let here : 0 + length s.flight ≡ length s.flight = omega arith in
    let sent = sent_next s packet fate in
    let next = failing_next s packet fate (min (s.faults + 1) (2 ^ 64 - 1)) in
    let j = keep_sent s.config s.server s.flight s.kept s.tick packet fate i.keeps in
    let t = turn_sent s.config (fates_of s.events) s.server s.flight s.kept s.tick f packet s.to_server s.to_client i.keeps i.turns (timely_of s i) refl ready.served ready.sessions (ap (λ (o : Option Flown). Send (packet_or o)) (get-last s.flight f)) in
    let k = keep_failed s.config s.server sent.flight sent.kept s.tick j in
    record {
      keeps = k;
      strays = strays_on s.config (strays_of s.events) (steps_kept s.flight s.kept s.tick) (steps_kept next.flight next.kept s.tick) (Send packet ∷ Fail ∷ []) (world_at s.server s.flight s.tick) (world_at next.server next.flight s.tick)
          (failing_step s packet fate next.faults i)
          i.keeps.world k.world (within_failing packet) i.strays;
      turns = turn_failed s.config (fates_of s.events) s.server sent.flight sent.kept s.tick s.to_server s.to_client j t (timely_of s i) ready.served ready.sessions;
      fated = fated-push s.events.fates 0 s.flight f i.fated (is ∙ ap (λ (n : ℕ). fate_in s.events.fates n) (sym here));
      events = i.events;
      config = i.config;
      tick = i.tick;
      ids = omega (arith, length-append s.flight (f ∷ []));
      drained = drained-push s.drained sent.kept _ (drained-push s.drained s.kept _ i.drained);
      failing = fails_send s.config s.events (steps_kept s.flight s.kept s.tick) (steps_kept next.flight next.kept s.tick) (world_at s.server s.flight s.tick) packet s.calls s.faults
          (failing_step s packet fate next.faults i) i.keeps.world (ap (plan_of s.events).sends (id_here s) ∙ named) i.failing;
    }

pub passes_failing : (s : SegmentView) (packet : Packet) (fate : Option ℕ) (faults : ℕ) → IsSound s → IsSound (failing_next s packet fate faults) → FailsToSend s (failing_next s packet fate faults) packet
passes_failing s packet fate faults i j =
    let f = flown_of s.tick fate packet in
    let a : Kept = record { tick = s.tick; what = Sent (length s.flight) } in
    let b : Kept = record { tick = s.tick; what = Failed } in
    record {
      config = refl;
      events = refl;
      steps = failing_step s packet fate faults i;
      drained = ap (λ (l : List Kept). record_text (entries_kept (s.flight ++ f ∷ []) (take s.drained l))) (append_assoc s.kept (a ∷ []) (b ∷ [])) ∙ text-push s (f ∷ []) (a ∷ b ∷ []) i;
      faults = refl;
      broken = refl;
      bounded = bounded_of (failing_next s packet fate faults) j;
      stood = ap (λ (w : World). w.tick) i.keeps.world;
    }

-- ---- the server is given a packet

abbrev pub served_next : SegmentView → ℕ → Option ℕ → List Packet → ServerPart → SegmentView
served_next s id fate packets part = record s {
  server = part;
  flight = s.flight ++ replied s.tick fate packets;
  kept = s.kept ++ record { tick = s.tick; what = Served id (length s.flight) (length packets) } ∷ [];
  to_server = drop 1 s.to_server;
}

replied-fresh : (tick : ℕ) (fate : Option ℕ) (packets : List Packet) → AllByRecursion (λ x. x.tick ≡ tick) (map flying_of (replied tick fate packets))
replied-fresh tick fate [] = tt
replied-fresh tick fate (p ∷ ps) = (refl, replied-fresh tick fate ps)

pub sound_served : (s : SegmentView) (id : ℕ) (f : Flown) (fate : Option ℕ) (packets : List Packet) (part : ServerPart) → IsSound s → slice_get s.to_server 0 ≡ Some id → slice_get s.flight id ≡ Some f
    → packets ≡ out_of s.config s.tick s.server f.packet → part ≡ next_of s.config s.tick s.server f.packet → length packets ≤ 1
    → length s.flight < last_tick → delays_of s.events.fates fate ≡ fate_in s.events.fates (length s.flight)
    → IsSound (served_next s id fate packets part)
sound_served s id f fate packets part i next at out becomes few room fated =
    let more = replied s.tick fate packets in
    let k = keep_served s.config s.server part s.flight s.kept s.tick id f fate packets i.keeps at (coming_to_server s id i next) out becomes in
    let after = served_next s id fate packets part in
    record {
      keeps = k;
      strays = strays_on s.config (strays_of s.events) (steps_kept s.flight s.kept s.tick) (steps_kept after.flight after.kept s.tick) (Serve id ∷ []) (world_at s.server s.flight s.tick) (world_at after.server after.flight s.tick)
          (kept-push s.flight more s.kept s.tick (Served id (length s.flight) (length packets)) i.keeps.ids)
          i.keeps.world k.world (within_serve id) i.strays;
      failing = fails_silent s.config s.events (steps_kept s.flight s.kept s.tick) (steps_kept after.flight after.kept s.tick) (Serve id ∷ []) s.calls s.faults
          (kept-push s.flight more s.kept s.tick (Served id (length s.flight) (length packets)) i.keeps.ids) i.failing refl refl;
      turns = turn_served s.config (fates_of s.events) s.server part s.flight more s.kept s.tick id (length s.flight) (length packets) s.to_server s.to_client i.keeps i.turns (timely_of s i) (replied-fresh s.tick fate packets) next;
      fated = fated_out packets few;
      events = i.events;
      config = i.config;
      tick = i.tick;
      ids = few_out packets few;
      drained = drained-push s.drained s.kept _ i.drained;
    }
  where
    fated_out : (l : List Packet) → length l ≤ 1 → AllFated s.events.fates 0 (s.flight ++ replied s.tick fate l)
    fated_out [] le = subst (λ (l : List Flown). AllFated s.events.fates 0 l) (sym (append-nil s.flight)) i.fated
    fated_out (p ∷ []) le =
        let here : 0 + length s.flight ≡ length s.flight = omega arith in
        fated-push s.events.fates 0 s.flight (reply_of s.tick fate p) i.fated (fated ∙ ap (λ (n : ℕ). fate_in s.events.fates n) (sym here))
    fated_out (p ∷ q ∷ l) le = absurd (omega (arith, le))

    few_out : (l : List Packet) → length l ≤ 1 → length (s.flight ++ replied s.tick fate l) ≤ last_tick
    few_out [] le = omega (arith, i.ids, length-append s.flight [])
    few_out (p ∷ []) le = omega (arith, room, length-append s.flight (reply_of s.tick fate p ∷ []))
    few_out (p ∷ q ∷ l) le = absurd (omega (arith, le))

pub passes_served : (s : SegmentView) (id : ℕ) (fate : Option ℕ) (packets : List Packet) (part : ServerPart) → IsSound s → IsSound (served_next s id fate packets part) → Passes s (served_next s id fate packets part) (Serve id ∷ [])
passes_served s id fate packets part i j =
    let more = replied s.tick fate packets in
    record {
      config = refl;
      events = refl;
      steps = kept-push s.flight more s.kept s.tick (Served id (length s.flight) (length packets)) i.keeps.ids;
      drained = text-push s more (record { tick = s.tick; what = Served id (length s.flight) (length packets) } ∷ []) i;
      faults = refl;
      broken = refl;
      bounded = bounded_of (served_next s id fate packets part) j;
      stood = ap (λ (w : World). w.tick) i.keeps.world;
    }

-- ---- a receive fails

abbrev pub failed_next : SegmentView → ℕ → ℕ → SegmentView
failed_next s calls faults = record s { kept = s.kept ++ record { tick = s.tick; what = Failed } ∷ []; calls = calls; faults = faults }

failed_step : (s : SegmentView) → IsSound s → steps_kept s.flight (failed_next s 0 0).kept s.tick ≡ steps_kept s.flight s.kept s.tick ++ Fail ∷ []
failed_step s i = ap (λ (l : List Flown). steps_kept l (failed_next s 0 0).kept s.tick) (sym (append-nil s.flight)) ∙ kept-push s.flight [] s.kept s.tick Failed i.keeps.ids

sound_failed : (s : SegmentView) (calls faults : ℕ) → IsSound s → Rests s → Failing s.config s.events (steps_kept s.flight (failed_next s calls faults).kept s.tick) calls faults → IsSound (failed_next s calls faults)
sound_failed s calls faults i ready failing = let k = keep_failed s.config s.server s.flight s.kept s.tick i.keeps in record {
  keeps = k;
  strays = strays_on s.config (strays_of s.events) (steps_kept s.flight s.kept s.tick) (steps_kept s.flight (failed_next s calls faults).kept s.tick) (Fail ∷ []) (world_at s.server s.flight s.tick) (world_at s.server s.flight s.tick)
      (failed_step s i) i.keeps.world k.world within_fail i.strays;
  turns = turn_failed s.config (fates_of s.events) s.server s.flight s.kept s.tick s.to_server s.to_client i.keeps i.turns (timely_of s i) ready.served ready.sessions;
  fated = i.fated;
  events = i.events;
  config = i.config;
  tick = i.tick;
  ids = i.ids;
  drained = drained-push s.drained s.kept _ i.drained;
  failing = failing;
}

-- past the last tick
pub sound_late : (s : SegmentView) → IsSound s → Rests s → s.tick ≡ last_tick → IsSound (failed_next s s.calls (min (s.faults + 1) (2 ^ 64 - 1)))
sound_late s i ready late =
    sound_failed s s.calls (min (s.faults + 1) (2 ^ 64 - 1)) i ready
    (fails_last s.config s.events (steps_kept s.flight s.kept s.tick) _ (world_at s.server s.flight s.tick) s.calls s.faults (failed_step s i) i.keeps.world late i.failing)

-- where a line names it
pub sound_named : (s : SegmentView) → IsSound s → Rests s → list_any (names_call s.calls) s.events.faults ≡ true → IsSound (failed_next s (min (s.calls + 1) (2 ^ 64 - 1)) (min (s.faults + 1) (2 ^ 64 - 1)))
sound_named s i ready named =
    sound_failed s (min (s.calls + 1) (2 ^ 64 - 1)) (min (s.faults + 1) (2 ^ 64 - 1)) i ready
    (fails_call s.config s.events (steps_kept s.flight s.kept s.tick) _ s.calls s.faults i.events (failed_step s i) named i.failing)

pub passes_failed : (s : SegmentView) (calls faults : ℕ) → IsSound s → IsSound (failed_next s calls faults) → Fails s (failed_next s calls faults)
passes_failed s calls faults i j =
    let entry : Kept = record { tick = s.tick; what = Failed } in
    let none = append-nil s.flight in
    record {
      config = refl;
      events = refl;
      steps = failed_step s i;
      drained = ap (λ (l : List Flown). record_text (entries_kept l (take s.drained (s.kept ++ entry ∷ [])))) (sym none) ∙ text-push s [] (entry ∷ []) i;
      faults = refl;
      broken = refl;
      bounded = bounded_of (failed_next s calls faults) j;
      stood = ap (λ (w : World). w.tick) i.keeps.world;
    }

-- a receive is called that no line names
pub sound_counted : (s : SegmentView) → IsSound s → IsSound (record s { calls = min (s.calls + 1) (2 ^ 64 - 1) })
sound_counted s i = record {
  keeps = i.keeps;
  turns = i.turns;
  fated = i.fated;
  events = i.events;
  config = i.config;
  tick = i.tick;
  ids = i.ids;
  drained = i.drained;
  failing = fails_counted s.config s.events (steps_kept s.flight s.kept s.tick) s.calls s.faults i.failing;
  strays = i.strays;
}

-- ---- the client gets a packet

abbrev pub got_next : SegmentView → ℕ → ℕ → SegmentView
got_next s id handed = record s { kept = s.kept ++ record { tick = s.tick; what = Got id } ∷ []; to_client = drop 1 s.to_client; handed = handed }

got_step : (flight : List Flown) (id : ℕ) (f : Flown) → slice_get flight id ≡ Some f → Get id (packet_or (slice_get (flight ++ []) id)) ≡ Get id f.packet
got_step flight id f at = ap (λ (l : List Flown). Get id (packet_or (slice_get l id))) (append-nil flight) ∙ ap (λ (o : Option Flown). Get id (packet_or o)) at

pub sound_got : (s : SegmentView) (id handed : ℕ) (f : Flown) → IsSound s → Rests s → slice_get s.to_client 0 ≡ Some id → slice_get s.flight id ≡ Some f → IsSound (got_next s id handed)
sound_got s id handed f i ready next at =
    let come = coming_to_client s id i next in
    let k = keep_got s.config s.server s.flight s.kept s.tick id f i.keeps at (coming_inside s (goes_to_client s.config) id come) come in
    record {
      keeps = k;
      strays = strays_on s.config (strays_of s.events) (steps_kept s.flight s.kept s.tick) (steps_kept s.flight (got_next s id handed).kept s.tick) (Get id f.packet ∷ []) (world_at s.server s.flight s.tick) (world_at s.server s.flight s.tick)
          (ap (λ (l : List Flown). steps_kept l (got_next s id handed).kept s.tick) (sym (append-nil s.flight)) ∙ kept-push s.flight [] s.kept s.tick (Got id) i.keeps.ids
          ∙ ap (λ (x : Step). steps_kept s.flight s.kept s.tick ++ x ∷ []) (got_step s.flight id f at))
          i.keeps.world k.world (within_get id f.packet) i.strays;
      failing = fails_silent s.config s.events (steps_kept s.flight s.kept s.tick) (steps_kept s.flight (got_next s id handed).kept s.tick) (Get id f.packet ∷ []) s.calls s.faults
          (ap (λ (l : List Flown). steps_kept l (got_next s id handed).kept s.tick) (sym (append-nil s.flight)) ∙ kept-push s.flight [] s.kept s.tick (Got id) i.keeps.ids
          ∙ ap (λ (x : Step). steps_kept s.flight s.kept s.tick ++ x ∷ []) (got_step s.flight id f at))
          i.failing refl refl;
      turns = turn_got s.config (fates_of s.events) s.server s.flight s.kept s.tick id f.packet s.to_server s.to_client i.keeps i.turns (timely_of s i) ready.served ready.sessions next (got_step s.flight id f at);
      fated = i.fated;
      events = i.events;
      config = i.config;
      tick = i.tick;
      ids = i.ids;
      drained = drained-push s.drained s.kept _ i.drained;
    }

pub passes_got : (s : SegmentView) (id handed : ℕ) (f : Flown) → IsSound s → slice_get s.flight id ≡ Some f → IsSound (got_next s id handed) → Passes s (got_next s id handed) (Get id f.packet ∷ [])
passes_got s id handed f i at j =
    let entry : Kept = record { tick = s.tick; what = Got id } in
    let none = append-nil s.flight in
    record {
      config = refl;
      events = refl;
      steps =
          ap (λ (l : List Flown). steps_kept l (s.kept ++ entry ∷ []) s.tick) (sym none)
          ∙ kept-push s.flight [] s.kept s.tick (Got id) i.keeps.ids
          ∙ ap (λ (x : Step). steps_kept s.flight s.kept s.tick ++ x ∷ []) (got_step s.flight id f at);
      drained = ap (λ (l : List Flown). record_text (entries_kept l (take s.drained (s.kept ++ entry ∷ [])))) (sym none) ∙ text-push s [] (entry ∷ []) i;
      faults = refl;
      broken = refl;
      bounded = bounded_of (got_next s id handed) j;
      stood = ap (λ (w : World). w.tick) i.keeps.world;
    }

-- ---- as a function's proof has it

pub passes_at : (s old next new : SegmentView) (part : List Step) → s ≡ old → new ≡ next → IsSound new → (IsSound next → Passes s next part) → Passes old new part
passes_at s old next new part was is j so =
    subst (λ (v : SegmentView). Passes v new part) was (subst (λ (v : SegmentView). Passes s v part) (sym is) (so (subst IsSound is j)))

pub fate_found : (given fates : List Fate) (id n : ℕ) (fate : Option ℕ) → given ≡ fates → id ≡ n → delays_of given fate ≡ fate_in given id → delays_of fates fate ≡ fate_in fates n
fate_found given fates id n fate same here is =
    subst (λ (l : List Fate). delays_of l fate ≡ fate_in l n) same (is ∙ ap (λ (m : ℕ). fate_in given m) here)

pub sent_is : (s : SegmentView) (packet : Packet) (fate : Option ℕ) (flight : List Flown) (kept : List Kept) (id : ℕ)
    → flight ≡ s.flight ++ flown_of s.tick fate packet ∷ [] → kept ≡ s.kept ++ record { tick = s.tick; what = Sent id } ∷ [] → id ≡ length s.flight
    → record s { flight = flight; kept = kept } ≡ sent_next s packet fate
sent_is s packet fate flight kept id f k here =
    let k2 : kept ≡ s.kept ++ record { tick = s.tick; what = Sent (length s.flight) } ∷ [] = k ∙ ap (λ (n : ℕ). s.kept ++ record { tick = s.tick; what = Sent n } ∷ []) here in
    λ i. record s { flight = f i; kept = k2 i }

pub served_is : (s : SegmentView) (id : ℕ) (fate : Option ℕ) (packets : List Packet) (server : CalmView) (part : ServerPart) (flight : List Flown) (kept : List Kept) (to_server : List ℕ) (first : ℕ)
    → server ≡ record { config = s.config; part = part } → flight ≡ s.flight ++ replied s.tick fate packets
    → kept ≡ s.kept ++ record { tick = s.tick; what = Served id first (length packets) } ∷ [] → first ≡ length s.flight → to_server ≡ drop 1 s.to_server
    → record s { config = server.config; server = server.part; flight = flight; kept = kept; to_server = to_server } ≡ served_next s id fate packets part
served_is s id fate packets server part flight kept to_server first b f k here left =
    let k2 : kept ≡ s.kept ++ record { tick = s.tick; what = Served id (length s.flight) (length packets) } ∷ [] =
    k ∙ ap (λ (n : ℕ). s.kept ++ record { tick = s.tick; what = Served id n (length packets) } ∷ []) here in
    λ i. record s { config = (b i).config; server = (b i).part; flight = f i; kept = k2 i; to_server = left i }

pub got_is : (s : SegmentView) (id handed : ℕ) (kept : List Kept) (to_client : List ℕ) → kept ≡ s.kept ++ record { tick = s.tick; what = Got id } ∷ [] → to_client ≡ drop 1 s.to_client
    → record s { kept = kept; to_client = to_client; handed = handed } ≡ got_next s id handed
got_is s id handed kept to_client k left = λ i. record s { kept = k i; to_client = left i; handed = handed }

pub failing_is : (s : SegmentView) (packet : Packet) (fate : Option ℕ) (faults : ℕ) (flight : List Flown) (kept : List Kept) (id : ℕ)
    → flight ≡ s.flight ++ flown_of s.tick fate packet ∷ [] → kept ≡ (s.kept ++ record { tick = s.tick; what = Sent id } ∷ []) ++ record { tick = s.tick; what = Failed } ∷ [] → id ≡ length s.flight
    → record s { flight = flight; kept = kept; faults = faults } ≡ failing_next s packet fate faults
failing_is s packet fate faults flight kept id f k here =
    let k2 : kept ≡ (s.kept ++ record { tick = s.tick; what = Sent (length s.flight) } ∷ []) ++ record { tick = s.tick; what = Failed } ∷ [] =
    k ∙ ap (λ (n : ℕ). (s.kept ++ record { tick = s.tick; what = Sent n } ∷ []) ++ record { tick = s.tick; what = Failed } ∷ []) here in
    λ i. record s { flight = f i; kept = k2 i; faults = faults }

pub failed_is : (s : SegmentView) (calls faults : ℕ) (kept : List Kept) → kept ≡ s.kept ++ record { tick = s.tick; what = Failed } ∷ [] → record s { kept = kept; calls = calls; faults = faults } ≡ failed_next s calls faults
failed_is s calls faults kept k = λ i. record s { kept = k i; calls = calls; faults = faults }

-- a refused change leaves the segment as it was
pub refused_is : (s : SegmentView) (server : CalmView) (flight : List Flown) (kept : List Kept) → server ≡ record { config = s.config; part = s.server } → flight ≡ s.flight → kept ≡ s.kept
    → record s { config = server.config; server = server.part; flight = flight; kept = kept } ≡ s
refused_is s server flight kept b f k = λ i. record s { config = (b i).config; server = (b i).part; flight = f i; kept = k i }
