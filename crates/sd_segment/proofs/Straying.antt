-- Strangers send what they send at a tick before anything else happens in it.
use Rattle.std.proofs.Common.{◌≡◌, ℕ, ◌+◌, ◌≤◌, Bool, true, false, cond, List, [], ◌∷◌, ◌++◌, length, map, Option, Some, None, refl, sym, ap, ◌∙◌, subst, arith, eq-eqb, append_assoc, length-append}
use Rattle.std.specs.Prelude.{◌==◌, ◌&&◌, slice_get}
use Rattle.std.specs.List.{filter, flat_map, AllByRecursion}
use Rattle.std.proofs.lemmas.List.{append-nil}
use Rattle.sd_outside.specs.declared.packet.Packet.{Packet}
use Rattle.sd_config.specs.declared.config.Config.{Config}
use Rattle.sd_config.specs.declared.events.Stranger.{Stranger as Line}
use Rattle.sd_config.specs.declared.events.Events.{Events}
use Rattle.sd_config.specs.Events.{Fates, IsStranger, IsEvents}
use Rattle.sd_config.specs.Plan.{Strays, strays_packet, strays_of}
use Rattle.sd_config.proofs.Lists.{all_recursive}
use Rattle.sd_services.specs.Part.{Session, ServerPart}
use Rattle.sd_services.specs.Sessions.{session_in, block_packet}
use Rattle.sd_services.specs.Reply.{out_of}
use Rattle.sd_link.specs.World.{World, Flying, Sender, Client, Server, Stranger, flying, start, sent_by}
use Rattle.sd_link.specs.Steps.{Step, Tick, Send, Stray, Serve, Data, End, Get, Fail, after, served, resent, run, IsStrangers}
use Rattle.sd_link.specs.Lawful.{is_strangers, strayed, AllStrayAsNamed}
use Rattle.sd_link.proofs.Histories.{run-append}
use Rattle.sd_segment.proofs.Joining.{strays-append}
use Rattle.sd_segment.specs.declared.flown.Flown.{Flown}
use Rattle.sd_segment.specs.declared.flown.Kept.{Kept}
use Rattle.sd_segment.specs.declared.flown.What.TheVariants as what
use Rattle.sd_segment.specs.Flight.{flying_of, packet_or}
use Rattle.sd_segment.specs.Kept.{steps_kept, strays_kept}
use Rattle.sd_segment.specs.Segment.{Keeps, Turns, world_at}
use Rattle.sd_segment.specs.Strays.{Strayed, stray_at}
use Rattle.sd_segment.specs.Passing.{AllServes}
use Rattle.sd_segment.proofs.Fates.{IsTimely}
use Rattle.sd_segment.proofs.Keeping.{kept-push, get-last, keep_strayed}
use Rattle.sd_segment.proofs.Turning.{turn_strayed}
use Rattle.sd_segment.proofs.SessionTurns.{split, no_flight}

-- ---- what strangers sent at a tick

sent_at : ℕ → List Flying → List Packet
sent_at tick flight = map (λ f. f.packet) (filter (λ f. is_strangers f.from && f.tick == tick) flight)

nothing_of : (tick : ℕ) (flight : List Flying) → AllByRecursion (λ f. is_strangers f.from ≡ false) flight → sent_at tick flight ≡ []
unfolding sent_at
nothing_of tick [] all = refl
nothing_of tick (f ∷ fs) all =
    ap (λ (b : Bool). map (λ (x : Flying). x.packet) (cond (b && (f.tick == tick)) (f ∷ filter (λ x. is_strangers x.from && x.tick == tick) fs) (filter (λ x. is_strangers x.from && x.tick == tick) fs))) all.0
    ∙ nothing_of tick fs all.1

more_of : (tick : ℕ) (flight more : List Flying) (packets : List Packet) → sent_at tick more ≡ packets → sent_at tick (flight ++ more) ≡ sent_at tick flight ++ packets
unfolding sent_at
more_of tick [] more packets is = is
more_of tick (f ∷ fs) more packets is = of (is_strangers f.from && (f.tick == tick)) (more_of tick fs more packets is)
  where
    of : (b : Bool) → map (λ (x : Flying). x.packet) (filter (λ x. is_strangers x.from && x.tick == tick) (fs ++ more)) ≡ map (λ (x : Flying). x.packet) (filter (λ x. is_strangers x.from && x.tick == tick) fs) ++ packets
        → map (λ (x : Flying). x.packet) (cond b (f ∷ filter (λ x. is_strangers x.from && x.tick == tick) (fs ++ more)) (filter (λ x. is_strangers x.from && x.tick == tick) (fs ++ more)))
        ≡ map (λ (x : Flying). x.packet) (cond b (f ∷ filter (λ x. is_strangers x.from && x.tick == tick) fs) (filter (λ x. is_strangers x.from && x.tick == tick) fs)) ++ packets
    of true rest = ap (λ (l : List Packet). f.packet ∷ l) rest
    of false rest = rest

same_of : (tick : ℕ) (flight more : List Flying) → AllByRecursion (λ f. is_strangers f.from ≡ false) more → sent_at tick (flight ++ more) ≡ sent_at tick flight
same_of tick flight more all = more_of tick flight more [] (nothing_of tick more all) ∙ append-nil (sent_at tick flight)

one_of : (tick : ℕ) (packet : Packet) → sent_at tick (flying Stranger tick packet ∷ []) ≡ packet ∷ []
unfolding sent_at
one_of tick packet = ap (λ (b : Bool). map (λ (x : Flying). x.packet) (cond b (flying Stranger tick packet ∷ []) [])) (eq-eqb tick tick refl)

and_no : (a b : Bool) → b ≡ false → (a && b) ≡ false
and_no true b e = e
and_no false b e = refl

none_later : (tick : ℕ) (flight : List Flying) → AllByRecursion (λ f. f.tick ≤ tick) flight → sent_at (tick + 1) flight ≡ []
unfolding sent_at
none_later tick [] all = refl
none_later tick (f ∷ fs) all =
    let other : (f.tick == tick + 1) ≡ false = grind (arith, all.0) in
    ap (λ (b : Bool). map (λ (x : Flying). x.packet) (cond b (f ∷ filter (λ x. is_strangers x.from && x.tick == tick + 1) fs) (filter (λ x. is_strangers x.from && x.tick == tick + 1) fs))) (and_no (is_strangers f.from) (f.tick == tick + 1) other)
    ∙ none_later tick fs all.1

-- ---- steps in which no stranger sends

pub AllWithin : List Step → Type 0
AllWithin [] = Unit {0}
AllWithin (Send packet ∷ steps) = AllWithin steps
AllWithin (Serve id ∷ steps) = AllWithin steps
AllWithin (Data number ∷ steps) = AllWithin steps
AllWithin (End number ∷ steps) = AllWithin steps
AllWithin (Get id packet ∷ steps) = AllWithin steps
AllWithin (Fail ∷ steps) = AllWithin steps
AllWithin (others ∷ steps) = ⊥

pub within_send : (packet : Packet) → AllWithin (Send packet ∷ [])
unfolding AllWithin
within_send packet = tt

pub within_failing : (packet : Packet) → AllWithin (Send packet ∷ Fail ∷ [])
unfolding AllWithin
within_failing packet = tt

pub within_serve : (id : ℕ) → AllWithin (Serve id ∷ [])
unfolding AllWithin
within_serve id = tt

pub within_get : (id : ℕ) (packet : Packet) → AllWithin (Get id packet ∷ [])
unfolding AllWithin
within_get id packet = tt

pub within_fail : AllWithin (Fail ∷ [])
unfolding AllWithin
within_fail = tt

pub within_turns : (steps : List Step) → Rattle.sd_segment.specs.Passing.AllTurns steps → AllWithin steps
unfolding AllWithin
within_turns [] all = tt
within_turns (Data number ∷ steps) all = within_turns steps all
within_turns (End number ∷ steps) all = within_turns steps all
within_turns (others ∷ steps) all = absurd all

AreDone : Strays → World → Type 0
AreDone strays w = strayed w ≡ strays w.tick

-- packets of others leave it so
others_send : (strays : Strays) (w : World) (from : Sender) (packets : List Packet) → is_strangers from ≡ false → AreDone strays w → AreDone strays (sent_by from w packets)
unfolding AreDone sent_at
others_send strays w from packets not_one done = same_of w.tick w.flight (map (flying from w.tick) packets) (all_so packets) ∙ done
  where
    all_so : (packets : List Packet) → AllByRecursion (λ f. is_strangers f.from ≡ false) (map (flying from w.tick) packets)
    all_so [] = tt
    all_so (p ∷ ps) = (not_one, all_so ps)

done_served : (strays : Strays) (c : Config) (w : World) (o : Option Flying) → AreDone strays w → AreDone strays (served c w o)
unfolding AreDone
done_served strays c w None done = done
done_served strays c w (Some f) done = others_send strays w Server (out_of c w.tick w.server f.packet) refl done

done_resent : (strays : Strays) (c : Config) (w : World) (o : Option Session) → AreDone strays w → AreDone strays (resent c w o)
unfolding AreDone
done_resent strays c w None done = done
done_resent strays c w (Some s) done = others_send strays w Server (block_packet c s ∷ []) refl done

stays_done : (strays : Strays) (c : Config) (w : World) (steps : List Step) → AllWithin steps → AreDone strays w → AllStrayAsNamed strays c w steps × AreDone strays (run c w steps)
unfolding AreDone AllWithin
stays_done strays c w [] all done = (tt, done)
stays_done strays c w (Send packet ∷ steps) all done = let r = stays_done strays c (after c w (Send packet)) steps all (others_send strays w Client (packet ∷ []) refl done) in ((done, r.0), r.1)
stays_done strays c w (Serve id ∷ steps) all done = let r = stays_done strays c (after c w (Serve id)) steps all (done_served strays c w (slice_get w.flight id) done) in ((done, r.0), r.1)
stays_done strays c w (Data number ∷ steps) all done = let r = stays_done strays c (after c w (Data number)) steps all (done_resent strays c w (session_in number w.server.sessions) done) in ((done, r.0), r.1)
stays_done strays c w (End number ∷ steps) all done = let r = stays_done strays c (after c w (End number)) steps all done in ((done, r.0), r.1)
stays_done strays c w (Get id packet ∷ steps) all done = let r = stays_done strays c (after c w (Get id packet)) steps all done in ((done, r.0), r.1)
stays_done strays c w (Fail ∷ steps) all done = let r = stays_done strays c (after c w Fail) steps all done in ((done, r.0), r.1)
stays_done strays c w (others ∷ steps) all done = absurd all

done_here : (c : Config) (strays : Strays) (steps : List Step) (here : World) → Strayed c strays steps here [] → AreDone strays here
unfolding AreDone
done_here c strays steps here s = sym (append-nil (strayed here)) ∙ s.left

-- a part in which no stranger sends
pub strays_on : (c : Config) (strays : Strays) (steps new more : List Step) (here next : World) → new ≡ steps ++ more → run c (start c) steps ≡ here → run c (start c) new ≡ next → AllWithin more → Strayed c strays steps here [] → Strayed c strays new next []
unfolding AreDone
strays_on c strays steps new more here next is at goes all s =
    let r = stays_done strays c here more all (done_here c strays steps here s) in
    let comes : next ≡ run c here more = sym goes ∙ ap (λ (l : List Step). run c (start c) l) is ∙ run-append c (start c) steps more ∙ ap (λ (w : World). run c w more) at in
    record {
      named = subst (λ (l : List Step). AllStrayAsNamed strays c (start c) l) (sym is) (strays-append strays c (start c) steps more s.named (subst (λ (w : World). AllStrayAsNamed strays c w more) (sym at) r.0));
      left = subst (λ (w : World). strayed w ++ [] ≡ strays w.tick) (sym comes) (append-nil (strayed (run c here more)) ∙ r.1);
    }

-- ---- a tick, and what is sent at it

pub strays_tick : (c : Config) (strays : Strays) (steps new : List Step) (here next : World) → new ≡ steps ++ Tick ∷ [] → run c (start c) steps ≡ here → next ≡ record here { tick = here.tick + 1 } → AllByRecursion (λ f. f.tick ≤ here.tick) here.flight
    → Strayed c strays steps here [] → Strayed c strays new next (strays next.tick)
unfolding AreDone sent_at
strays_tick c strays steps new here next is at goes early s =
    let done = done_here c strays steps here s in
    record {
      named = subst (λ (l : List Step). AllStrayAsNamed strays c (start c) l) (sym is) (strays-append strays c (start c) steps (Tick ∷ []) s.named (subst (λ (w : World). AllStrayAsNamed strays c w (Tick ∷ [])) (sym at) (done, tt)));
      left = subst (λ (w : World). strayed w ++ strays w.tick ≡ strays w.tick) (sym goes) (ap (λ (l : List Packet). l ++ strays (here.tick + 1)) (none_later here.tick here.flight early));
    }

one_stray : (c : Config) (strays : Strays) (steps new : List Step) (here next : World) (packet : Packet) (rest : List Packet) → new ≡ steps ++ Stray packet ∷ [] → run c (start c) steps ≡ here → next ≡ sent_by Stranger here (packet ∷ [])
    → Strayed c strays steps here (packet ∷ rest) → Strayed c strays new next rest
unfolding sent_at
one_stray c strays steps new here next packet rest is at goes s =
    let before : (strayed here ++ packet ∷ []) ++ rest ≡ strays here.tick = append_assoc (strayed here) (packet ∷ []) rest ∙ s.left in
    record {
      named = subst (λ (l : List Step). AllStrayAsNamed strays c (start c) l) (sym is) (strays-append strays c (start c) steps (Stray packet ∷ []) s.named (subst (λ (w : World). AllStrayAsNamed strays c w (Stray packet ∷ [])) (sym at) ((rest, before), tt)));
      left = subst (λ (w : World). strayed w ++ rest ≡ strays w.tick) (sym goes) (ap (λ (l : List Packet). l ++ rest) (more_of here.tick here.flight (flying Stranger here.tick packet ∷ []) (packet ∷ []) (one_of here.tick packet)) ∙ before);
    }

-- ---- all that strangers send at a tick

module _ (c : Config) (fates : Fates) (strays : Strays) (tick : ℕ) (part : ServerPart) (to_server to_client : List ℕ) (timely : IsTimely c.life fates) where
  pub record Sent (flight more : List Flown) (kept ks : List Kept) : Type 0 where
    pub keeps : Keeps c part (flight ++ more) (kept ++ ks) tick
    pub turns : Turns c fates part (flight ++ more) (kept ++ ks) tick to_server to_client
    pub strayed_all : Strayed c strays (steps_kept (flight ++ more) (kept ++ ks) tick) (world_at part (flight ++ more) tick) []
    pub steps : List Step
    pub went : steps_kept (flight ++ more) (kept ++ ks) tick ≡ steps_kept flight kept tick ++ steps
    pub serves : AllServes steps

  sent_nowhere : (flight : List Flown) (kept : List Kept) → Keeps c part flight kept tick → Turns c fates part flight kept tick to_server to_client → Strayed c strays (steps_kept flight kept tick) (world_at part flight tick) [] → Sent flight [] kept []
  sent_nowhere flight kept k t s =
      let f = sym (append-nil flight) in
      let j = sym (append-nil kept) in
      record {
        keeps = subst (λ (l : List Flown). Keeps c part l (kept ++ []) tick) f (subst (λ (l : List Kept). Keeps c part flight l tick) j k);
        turns = subst (λ (l : List Flown). Turns c fates part l (kept ++ []) tick to_server to_client) f (subst (λ (l : List Kept). Turns c fates part flight l tick to_server to_client) j t);
        strayed_all = subst (λ (l : List Flown). Strayed c strays (steps_kept l (kept ++ []) tick) (world_at part l tick) []) f (subst (λ (l : List Kept). Strayed c strays (steps_kept flight l tick) (world_at part flight tick) []) j s);
        steps = [];
        went = (λ i. steps_kept (sym f i) (sym j i) tick) ∙ sym (append-nil (steps_kept flight kept tick));
        serves = tt;
      }

  sent_then : (flight : List Flown) (f : Flown) (more : List Flown) (kept : List Kept) (k : Kept) (ks : List Kept) (packet : Packet)
      → steps_kept (flight ++ f ∷ []) (kept ++ k ∷ []) tick ≡ steps_kept flight kept tick ++ Stray packet ∷ []
      → Sent (flight ++ f ∷ []) more (kept ++ k ∷ []) ks → Sent flight (f ∷ more) kept (k ∷ ks)
  sent_then flight f more kept k ks packet is w =
      let a = append_assoc flight (f ∷ []) more in
      let j = append_assoc kept (k ∷ []) ks in
      record {
        keeps = subst (λ (l : List Flown). Keeps c part l (kept ++ (k ∷ ks)) tick) a (subst (λ (l : List Kept). Keeps c part ((flight ++ f ∷ []) ++ more) l tick) j w.keeps);
        turns = subst (λ (l : List Flown). Turns c fates part l (kept ++ (k ∷ ks)) tick to_server to_client) a (subst (λ (l : List Kept). Turns c fates part ((flight ++ f ∷ []) ++ more) l tick to_server to_client) j w.turns);
        strayed_all =
            subst (λ (l : List Flown). Strayed c strays (steps_kept l (kept ++ (k ∷ ks)) tick) (world_at part l tick) []) a
            (subst (λ (l : List Kept). Strayed c strays (steps_kept ((flight ++ f ∷ []) ++ more) l tick) (world_at part ((flight ++ f ∷ []) ++ more) tick) []) j w.strayed_all);
        steps = Stray packet ∷ w.steps;
        went = (λ i. steps_kept (sym a i) (sym j i) tick) ∙ w.went ∙ ap (λ (l : List Step). l ++ w.steps) is ∙ append_assoc (steps_kept flight kept tick) (Stray packet ∷ []) w.steps;
        serves = w.serves;
      }

  pub all_sent : (packets : List Packet) (flight more : List Flown) (kept : List Kept) → Keeps c part flight kept tick → Turns c fates part flight kept tick to_server to_client
      → Strayed c strays (steps_kept flight kept tick) (world_at part flight tick) packets → map flying_of more ≡ map (flying Stranger tick) packets → AllByRecursion (IsStrangers c) packets
      → Sent flight more kept (strays_kept tick (length flight) (length packets))
  all_sent [] flight more kept k t s sent all =
      subst (λ (l : List Flown). Sent flight l kept []) (sym (no_flight more sent)) (sent_nowhere flight kept k t s)
  all_sent (p ∷ ps) flight more kept k t s sent all =
      let x = split more (flying Stranger tick p) (map (flying Stranger tick) ps) sent in
      let f = x.first in
      let entry : Kept = record { tick = tick; what = what.Strayed (length flight) } in
      let step : steps_kept (flight ++ f ∷ []) (kept ++ entry ∷ []) tick ≡ steps_kept flight kept tick ++ Stray p ∷ [] =
      kept-push flight (f ∷ []) kept tick (what.Strayed (length flight)) k.ids
      ∙ ap (λ (o : Option Flown). steps_kept flight kept tick ++ Stray (packet_or o) ∷ []) (get-last flight f)
      ∙ ap (λ (y : Flying). steps_kept flight kept tick ++ Stray y.packet ∷ []) x.sent in
      let k2 = keep_strayed c part flight kept tick f p k x.sent all.0 in
      let t2 = turn_strayed c fates part flight kept tick f p to_server to_client k t timely (ap (λ (y : Flying). y.tick) x.sent)
      (ap (λ (o : Option Flown). Stray (packet_or o)) (get-last flight f) ∙ ap (λ (y : Flying). Stray y.packet) x.sent) in
      let next : world_at part (flight ++ f ∷ []) tick ≡ sent_by Stranger (world_at part flight tick) (p ∷ []) =
      ap (λ (l : List Flying). let v : World = record (world_at part flight tick) { flight = l } in v) (map_push flight f ∙ ap (λ (y : Flying). map flying_of flight ++ y ∷ []) x.sent) in
      let s2 = one_stray c strays (steps_kept flight kept tick) (steps_kept (flight ++ f ∷ []) (kept ++ entry ∷ []) tick) (world_at part flight tick) (world_at part (flight ++ f ∷ []) tick) p ps step k.world next s in
      let long : length (flight ++ f ∷ []) ≡ length flight + 1 = length-append flight (f ∷ []) in
      subst (λ (l : List Flown). Sent flight l kept (strays_kept tick (length flight) (length (p ∷ ps)))) (sym x.is)
      (sent_then flight f x.left kept entry (strays_kept tick (length flight + 1) (length ps)) p step
      (subst (λ (n : ℕ). Sent (flight ++ f ∷ []) x.left (kept ++ entry ∷ []) (strays_kept tick n (length ps))) long
      (all_sent ps (flight ++ f ∷ []) x.left (kept ++ entry ∷ []) k2 t2 s2 x.then_sent all.1)))
    where
      map_push : (flight : List Flown) (f : Flown) → map flying_of (flight ++ f ∷ []) ≡ map flying_of flight ++ flying_of f ∷ []
      map_push [] f = refl
      map_push (g ∷ gs) f = ap (λ (l : List Flying). flying_of g ∷ l) (map_push gs f)

-- ---- the lines

pub strays_found : (tick : ℕ) (lines : List Line) → flat_map (stray_at tick) lines ≡ map strays_packet (filter (λ line. line.tick == tick) lines)
strays_found tick [] = refl
strays_found tick (x ∷ xs) = of (x.tick == tick) (strays_found tick xs)
  where
    of : (b : Bool) → flat_map (stray_at tick) xs ≡ map strays_packet (filter (λ line. line.tick == tick) xs)
        → cond b (strays_packet x ∷ []) [] ++ flat_map (stray_at tick) xs ≡ map strays_packet (cond b (x ∷ filter (λ line. line.tick == tick) xs) (filter (λ line. line.tick == tick) xs))
    of true rest = ap (λ (l : List Packet). strays_packet x ∷ l) rest
    of false rest = rest

strangers_of : (c : Config) (tick : ℕ) (lines : List Line) → AllByRecursion (IsStranger c.client.ip c.server.ip) lines → AllByRecursion (IsStrangers c) (map strays_packet (filter (λ line. line.tick == tick) lines))
strangers_of c tick [] all = tt
strangers_of c tick (x ∷ xs) all = of (x.tick == tick) (strangers_of c tick xs all.1)
  where
    of : (b : Bool) → AllByRecursion (IsStrangers c) (map strays_packet (filter (λ line. line.tick == tick) xs)) → AllByRecursion (IsStrangers c) (map strays_packet (cond b (x ∷ filter (λ line. line.tick == tick) xs) (filter (λ line. line.tick == tick) xs)))
    of true rest = (all.0.from, rest)
    of false rest = rest

pub are_strangers : (c : Config) (events : Events) (tick : ℕ) → IsEvents c events → AllByRecursion (IsStrangers c) (strays_of events tick)
are_strangers c events tick is = strangers_of c tick events.strangers (all_recursive (IsStranger c.client.ip c.server.ip) events.strangers is.strangers)

none_first : (c : Config) (lines : List Line) → AllByRecursion (IsStranger c.client.ip c.server.ip) lines → map strays_packet (filter (λ line. line.tick == 0) lines) ≡ []
none_first c [] all = refl
none_first c (x ∷ xs) all =
    let later : (x.tick == 0) ≡ false = grind (arith, all.0.tick.0) in
    ap (λ (b : Bool). map strays_packet (cond b (x ∷ filter (λ line. line.tick == 0) xs) (filter (λ line. line.tick == 0) xs))) later ∙ none_first c xs all.1

pub strays_none : (c : Config) (events : Events) → IsEvents c events → Strayed c (strays_of events) [] (start c) []
strays_none c events is = record { named = tt; left = sym (none_first c events.strangers (all_recursive (IsStranger c.client.ip c.server.ip) events.strangers is.strangers)) }
