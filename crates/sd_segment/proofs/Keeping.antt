-- One more thing that a segment keeps.
use Rattle.std.proofs.Common.{◌≡◌, ℕ, zero, suc, ◌+◌, ◌-◌, ◌<◌, ◌≤◌, List, [], ◌∷◌, ◌++◌, length, take, drop, map, replicate, Option, Some, refl, sym, ◌∙◌, ap, subst, arith, append_assoc, length-append}
use Rattle.std.specs.Prelude.{slice_get, IsTrue}
use Rattle.std.specs.Option.{option_map}
use Rattle.std.specs.List.{AllByRecursion}
use Rattle.std.proofs.lemmas.Grind.{flat_map-append}
use Rattle.std.proofs.lemmas.List.{append-nil, drop_at, take_all, map-append, length-map}
use Rattle.sd_outside.specs.declared.packet.Packet.{Packet}
use Rattle.sd_config.specs.declared.config.Config.{Config}
use Rattle.sd_link.specs.World.{World, Flying, Server, Stranger, start, flying}
use Rattle.sd_services.specs.Part.{Session, ServerPart}
use Rattle.sd_services.specs.Sessions.{session_in, with_session, without_session, is_due, sent_again, block_packet}
use Rattle.sd_services.specs.Reply.{out_of, next_of}
use Rattle.sd_link.specs.Steps.{Step, Tick, Send, Stray, Serve, Data, End, Get, Fail, IsStrangers, run, after, served, resent, blocks_again, sent_from, replies_to, entries_of, record_of, AllAllowed, Allowed, goes_to_server, goes_to_client}
use Rattle.sd_link.proofs.Histories.{run-append, allowed-append, record-append}
use Rattle.sd_segment.specs.declared.flown.Origin.TheVariants as origin
use Rattle.sd_segment.specs.declared.flown.Flown.{Flown}
use Rattle.sd_segment.specs.declared.flown.Kept.{Kept}
use Rattle.sd_segment.specs.declared.flown.What.{What}
use Rattle.sd_segment.specs.declared.flown.What.TheVariants.{Sent, Strayed, Served, Again, Ended, Got, Failed}
use Rattle.sd_segment.specs.Flight.{flying_of, packet_or, reply_of, replied}
use Rattle.sd_segment.specs.Kept.{step_of, steps_from, steps_kept, last_kept, sent_entries, entries_of_kept, entries_kept, ids_end}
use Rattle.sd_segment.specs.Segment.{Keeps, world_at}
use Rattle.sd_segment.proofs.Dues.{IsComing}

-- ---- lists

replicate-push : {A : Type 0} (n : ℕ) (x : A) → replicate (suc n) x ≡ replicate n x ++ x ∷ []
replicate-push zero x = refl
replicate-push (suc n) x = ap (λ l. x ∷ l) (replicate-push n x)

get-front : {A : Type 0} (xs ys : List A) (i : ℕ) → i < length xs → slice_get (xs ++ ys) i ≡ slice_get xs i
get-front [] ys i lt = absurd (omega arith)
get-front (x ∷ xs) ys zero lt = refl
get-front (x ∷ xs) ys (suc i) lt = get-front xs ys i (omega arith)

-- a stretch inside the front
stretch-front : {A : Type 0} (xs ys : List A) (at n : ℕ) → at + n ≤ length xs → take n (drop at (xs ++ ys)) ≡ take n (drop at xs)
stretch-front xs ys zero zero le = refl
stretch-front [] ys zero (suc n) le = absurd (omega arith)
stretch-front (x ∷ xs) ys zero (suc n) le = ap (λ l. x ∷ l) (stretch-front xs ys zero n (omega arith))
stretch-front [] ys (suc at) n le = absurd (omega arith)
stretch-front (x ∷ xs) ys (suc at) n le = stretch-front xs ys at n (omega arith)

-- ---- what was kept says the same in a larger flight

step-grow : (flight more : List Flown) (what : What) → ids_end what ≤ length flight → step_of (flight ++ more) what ≡ step_of flight what
step-grow flight more (Sent id) le = ap (λ o. Send (packet_or o)) (get-front flight more id (omega arith))
step-grow flight more (Strayed id) le = ap (λ o. Stray (packet_or o)) (get-front flight more id (omega arith))
step-grow flight more (Served id first count) le = refl
step-grow flight more (Again number id) le = refl
step-grow flight more (Ended number) le = refl
step-grow flight more (Got id) le = ap (λ o. Get id (packet_or o)) (get-front flight more id (omega arith))
step-grow flight more Failed le = refl

entries-grow : (flight more : List Flown) (tick : ℕ) (what : What) → ids_end what ≤ length flight → entries_of_kept (flight ++ more) tick what ≡ entries_of_kept flight tick what
entries-grow flight more tick (Sent id) le = ap (sent_entries tick id) (stretch-front flight more id 1 le)
entries-grow flight more tick (Strayed id) le = ap (sent_entries tick id) (stretch-front flight more id 1 le)
entries-grow flight more tick (Served id first count) le = ap (λ l. Rattle.sd_link.specs.Steps.Served tick id ∷ sent_entries tick first l) (stretch-front flight more first count le)
entries-grow flight more tick (Again number id) le = ap (sent_entries tick id) (stretch-front flight more id 1 le)
entries-grow flight more tick (Ended number) le = refl
entries-grow flight more tick (Got id) le = refl
entries-grow flight more tick Failed le = refl

steps-grow : (flight more : List Flown) (tick : ℕ) (kept : List Kept) → AllByRecursion (λ k. ids_end k.what ≤ length flight) kept → steps_from (flight ++ more) tick kept ≡ steps_from flight tick kept
steps-grow flight more tick [] ids = refl
steps-grow flight more tick (k ∷ ks) ids =
    ap (λ l. replicate (k.tick - tick) Tick ++ (l ∷ steps_from (flight ++ more) k.tick ks)) (step-grow flight more k.what ids.0)
    ∙ ap (λ l. replicate (k.tick - tick) Tick ++ (step_of flight k.what ∷ l)) (steps-grow flight more k.tick ks ids.1)

pub kept-grow : (flight more : List Flown) (kept : List Kept) → AllByRecursion (λ k. ids_end k.what ≤ length flight) kept → entries_kept (flight ++ more) kept ≡ entries_kept flight kept
kept-grow flight more [] ids = refl
kept-grow flight more (k ∷ ks) ids =
    ap (λ l. l ++ entries_kept (flight ++ more) ks) (entries-grow flight more k.tick k.what ids.0) ∙ ap (λ l. entries_of_kept flight k.tick k.what ++ l) (kept-grow flight more ks ids.1)

pub ids-grow : (n m : ℕ) (kept : List Kept) → n ≤ m → AllByRecursion (λ k. ids_end k.what ≤ n) kept → AllByRecursion (λ k. ids_end k.what ≤ m) kept
ids-grow n m [] le ids = tt
ids-grow n m (k ∷ ks) le ids = (omega (arith, ids.0), ids-grow n m ks le ids.1)

-- ---- one more entry at its end

steps-push : (flight : List Flown) (tick : ℕ) (kept : List Kept) (k : Kept)
    → steps_from flight tick (kept ++ k ∷ []) ≡ steps_from flight tick kept ++ (replicate (k.tick - last_kept tick kept) Tick ++ step_of flight k.what ∷ [])
steps-push flight tick [] k = refl
steps-push flight tick (j ∷ js) k =
    let here = replicate (j.tick - tick) Tick in
    let last = replicate (k.tick - last_kept j.tick js) Tick ++ step_of flight k.what ∷ [] in
    ap (λ l. here ++ (step_of flight j.what ∷ l)) (steps-push flight j.tick js k)
    ∙ sym (append_assoc here (step_of flight j.what ∷ steps_from flight j.tick js) last)

last-push : (tick : ℕ) (kept : List Kept) (k : Kept) → last_kept tick (kept ++ k ∷ []) ≡ k.tick
last-push tick [] k = refl
last-push tick (j ∷ js) k = last-push j.tick js k

pub all-push : {A : Type 0} (P : A → Type 0) (xs : List A) (x : A) → AllByRecursion P xs → P x → AllByRecursion P (xs ++ x ∷ [])
all-push P [] x all one = (one, tt)
all-push P (y ∷ ys) x all one = (all.0, all-push P ys x all.1 one)

-- the history has one step more
pub kept-push : (flight more : List Flown) (kept : List Kept) (tick : ℕ) (what : What) → AllByRecursion (λ k. ids_end k.what ≤ length flight) kept
    → steps_kept (flight ++ more) (kept ++ record { tick = tick; what = what } ∷ []) tick ≡ steps_kept flight kept tick ++ step_of (flight ++ more) what ∷ []
kept-push flight more kept tick what ids =
    let k : Kept = record { tick = tick; what = what } in
    let all = flight ++ more in
    let pause = replicate (tick - last_kept 0 kept) Tick in
    let none : tick - last_kept 0 (kept ++ k ∷ []) ≡ 0 = omega (arith, last-push 0 kept k) in
    ap (λ n. steps_from all 0 (kept ++ k ∷ []) ++ replicate n Tick) none
    ∙ append-nil (steps_from all 0 (kept ++ k ∷ []))
    ∙ steps-push all 0 kept k
    ∙ ap (λ l. l ++ (pause ++ step_of all what ∷ [])) (steps-grow flight more 0 kept ids)
    ∙ sym (append_assoc (steps_from flight 0 kept) pause (step_of all what ∷ []))

-- time goes on by one step
pub tick-push : (flight : List Flown) (kept : List Kept) (tick : ℕ) → last_kept 0 kept ≤ tick → steps_kept flight kept (tick + 1) ≡ steps_kept flight kept tick ++ Tick ∷ []
tick-push flight kept tick le =
    let n = tick - last_kept 0 kept in
    let one : tick + 1 - last_kept 0 kept ≡ suc n = omega arith in
    ap (λ m. steps_from flight 0 kept ++ replicate m Tick) one
    ∙ ap (λ l. steps_from flight 0 kept ++ l) (replicate-push n Tick)
    ∙ sym (append_assoc (steps_from flight 0 kept) (replicate n Tick) (Tick ∷ []))

-- ---- each kind of step

-- what is kept stays a history where the step does to the world what was kept
pub keep_step : (c : Config) (part next : ServerPart) (flight more : List Flown) (kept : List Kept) (tick : ℕ) (what : What) (step : Step) → Keeps c part flight kept tick
    → step_of (flight ++ more) what ≡ step → Allowed c (world_at part flight tick) step
    → after c (world_at part flight tick) step ≡ world_at next (flight ++ more) tick
    → entries_of c (world_at part flight tick) step ≡ entries_of_kept (flight ++ more) tick what
    → ids_end what ≤ length (flight ++ more)
    → Keeps c next (flight ++ more) (kept ++ record { tick = tick; what = what } ∷ []) tick
keep_step c part next flight more kept tick what step k is may does writes ends =
    let all = flight ++ more in
    let entry : Kept = record { tick = tick; what = what } in
    let steps = steps_kept flight kept tick in
    let w = world_at part flight tick in
    let push : steps_kept all (kept ++ entry ∷ []) tick ≡ steps ++ step ∷ [] = kept-push flight more kept tick what k.ids ∙ ap (λ s. steps ++ s ∷ []) is in
    record {
      world = ap (λ l. run c (start c) l) push ∙ run-append c (start c) steps (step ∷ []) ∙ ap (λ v. run c v (step ∷ [])) k.world ∙ does;
      allowed =
          subst (λ l. AllAllowed c (start c) l) (sym push)
          (allowed-append c (start c) steps (step ∷ []) k.allowed (subst (λ v. AllAllowed c v (step ∷ [])) (sym k.world) (may, tt)));
      entries =
          ap (λ l. record_of c (start c) l) push
          ∙ record-append c (start c) steps (step ∷ [])
          ∙ ap (λ v. record_of c (start c) steps ++ record_of c v (step ∷ [])) k.world
          ∙ ap (λ l. l ++ (entries_of c w step ++ [])) (k.entries ∙ sym (kept-grow flight more kept k.ids))
          ∙ ap (λ l. entries_kept all kept ++ (l ++ [])) writes
          ∙ sym (flat_map-append (λ j. entries_of_kept all j.tick j.what) kept (entry ∷ []));
      ids = all-push (λ j. ids_end j.what ≤ length all) kept entry (ids-grow (length flight) (length all) kept (omega (arith, length-append flight more)) k.ids) ends;
      ticks = omega (arith, last-push 0 kept entry);
    }

pub keep_tick : (c : Config) (part : ServerPart) (flight : List Flown) (kept : List Kept) (tick : ℕ) → Keeps c part flight kept tick → Keeps c part flight kept (tick + 1)
keep_tick c part flight kept tick k =
    let steps = steps_kept flight kept tick in
    let push = tick-push flight kept tick k.ticks in
    record {
      world = ap (λ l. run c (start c) l) push ∙ run-append c (start c) steps (Tick ∷ []) ∙ ap (λ v. run c v (Tick ∷ [])) k.world;
      allowed =
          subst (λ l. AllAllowed c (start c) l) (sym push) (allowed-append c (start c) steps (Tick ∷ []) k.allowed (tt, tt));
      entries =
          ap (λ l. record_of c (start c) l) push ∙ record-append c (start c) steps (Tick ∷ []) ∙ append-nil (record_of c (start c) steps) ∙ k.entries;
      ids = k.ids;
      ticks = omega (arith, k.ticks);
    }

pub get-last : {A : Type 0} (xs : List A) (x : A) → slice_get (xs ++ x ∷ []) (length xs) ≡ Some x
get-last [] x = refl
get-last (y ∷ ys) x = get-last ys x

get-map : {A B : Type 0} (f : A → B) (xs : List A) (i : ℕ) → slice_get (map f xs) i ≡ option_map f (slice_get xs i)
get-map f [] i = refl
get-map f (x ∷ xs) zero = refl
get-map f (x ∷ xs) (suc i) = get-map f xs i

-- the client sends
pub keep_sent : (c : Config) (part : ServerPart) (flight : List Flown) (kept : List Kept) (tick : ℕ) (packet : Packet) (fate : Option ℕ) → Keeps c part flight kept tick
    → Keeps c part (flight ++ record { from = origin.Client; tick = tick; packet = packet; fate = fate } ∷ []) (kept ++ record { tick = tick; what = Sent (length flight) } ∷ []) tick
keep_sent c part flight kept tick packet fate k =
    let f : Flown = record { from = origin.Client; tick = tick; packet = packet; fate = fate } in
    let w = world_at part flight tick in
    keep_step c part part flight (f ∷ []) kept tick (Sent (length flight)) (Send packet) k
    (ap (λ o. Send (packet_or o)) (get-last flight f))
    tt
    (ap (λ l. record w { flight = l }) (sym (map-append flying_of flight (f ∷ []))))
    (ap (λ n. Rattle.sd_link.specs.Steps.Sent tick n packet ∷ []) (length-map flight flying_of) ∙ ap (λ l. sent_entries tick (length flight) (take 1 l)) (sym (drop_at flight (f ∷ []) (length flight) refl)))
    (omega (arith, length-append flight (f ∷ [])))

replied-flying : (tick : ℕ) (fate : Option ℕ) (packets : List Packet) → map flying_of (replied tick fate packets) ≡ map (λ packet. record { from = Server; tick = tick; packet = packet }) packets
replied-flying tick fate [] = refl
replied-flying tick fate (p ∷ ps) = ap (λ l. record { from = Server; tick = tick; packet = p } ∷ l) (replied-flying tick fate ps)

replied-entries : (tick id : ℕ) (fate : Option ℕ) (packets : List Packet) → sent_from tick id packets ≡ sent_entries tick id (replied tick fate packets)
replied-entries tick id fate [] = refl
replied-entries tick id fate (p ∷ ps) = ap (λ l. Rattle.sd_link.specs.Steps.Sent tick id p ∷ l) (replied-entries tick (id + 1) fate ps)

-- a packet comes to the server
pub keep_served : (c : Config) (part next : ServerPart) (flight : List Flown) (kept : List Kept) (tick id : ℕ) (f : Flown) (fate : Option ℕ) (packets : List Packet) → Keeps c part flight kept tick
    → slice_get flight id ≡ Some f → IsComing c (world_at part flight tick) (goes_to_server c) id
    → packets ≡ out_of c tick part f.packet → next ≡ next_of c tick part f.packet
    → Keeps c next (flight ++ replied tick fate packets) (kept ++ record { tick = tick; what = Served id (length flight) (length packets) } ∷ []) tick
keep_served c part next flight kept tick id f fate packets k at come out becomes =
    let w = world_at part flight tick in
    let more = replied tick fate packets in
    let there : slice_get w.flight id ≡ Some (flying_of f) = get-map flying_of flight id ∙ ap (option_map flying_of) at in
    keep_step c part next flight more kept tick (Served id (length flight) (length packets)) (Serve id) k
    refl
    (come.f, come.here, come.goes_there, λ access. refl)
    (ap (served c w) there
    ∙ ap (λ (n : ServerPart). let v : World = record w { server = n; flight = map flying_of flight ++ map (λ packet. record { from = Server; tick = tick; packet = packet }) (out_of c tick part f.packet) } in v) (sym becomes)
    ∙ ap (λ l. record w { server = next; flight = map flying_of flight ++ map (λ packet. record { from = Server; tick = tick; packet = packet }) l }) (sym out)
    ∙ ap (λ l. record w { server = next; flight = map flying_of flight ++ l }) (sym (replied-flying tick fate packets))
    ∙ ap (λ l. record w { server = next; flight = l }) (sym (map-append flying_of flight more)))
    (ap (λ o. Rattle.sd_link.specs.Steps.Served tick id ∷ sent_from tick (length w.flight) (replies_to c w o)) there
    ∙ ap (λ l. Rattle.sd_link.specs.Steps.Served tick id ∷ sent_from tick (length w.flight) l) (sym out)
    ∙ ap (λ n. Rattle.sd_link.specs.Steps.Served tick id ∷ sent_from tick n packets) (length-map flight flying_of)
    ∙ ap (λ l. Rattle.sd_link.specs.Steps.Served tick id ∷ l) (replied-entries tick (length flight) fate packets)
    ∙ ap (λ l. Rattle.sd_link.specs.Steps.Served tick id ∷ sent_entries tick (length flight) l) (sym (stretch flight more (length packets) (length-map packets _))))
    (omega (arith, length-append flight more, length-map packets (reply_of tick fate)))
  where
    stretch : (xs ys : List Flown) (n : ℕ) → length ys ≡ n → take n (drop (length xs) (xs ++ ys)) ≡ ys
    stretch xs ys n is = ap (λ l. take n l) (drop_at xs ys (length xs) refl) ∙ take_all n ys (omega arith)

-- a packet comes to the client
pub keep_got : (c : Config) (part : ServerPart) (flight : List Flown) (kept : List Kept) (tick id : ℕ) (f : Flown) → Keeps c part flight kept tick
    → slice_get flight id ≡ Some f → id < length flight → IsComing c (world_at part flight tick) (goes_to_client c) id
    → Keeps c part flight (kept ++ record { tick = tick; what = Got id } ∷ []) tick
keep_got c part flight kept tick id f k at inside come =
    let w = world_at part flight tick in
    let there : slice_get w.flight id ≡ Some (flying_of f) = get-map flying_of flight id ∙ ap (option_map flying_of) at in
    let is : come.f ≡ flying_of f = cc (come.here.sent, there) in
    let same : flight ++ [] ≡ flight = append-nil flight in
    subst (λ l. Keeps c part l (kept ++ record { tick = tick; what = Got id } ∷ []) tick) same
    (keep_step c part part flight [] kept tick (Got id) (Get id f.packet) k
    (ap (λ l. Get id (packet_or (slice_get l id))) same ∙ ap (λ o. Get id (packet_or o)) at)
    (come.f, come.here, come.goes_there, ap (λ (x : Flying). x.packet) is)
    (ap (λ l. world_at part l tick) (sym same))
    refl
    (omega (arith, ap length same)))

-- a stranger sends
pub keep_strayed : (c : Config) (part : ServerPart) (flight : List Flown) (kept : List Kept) (tick : ℕ) (f : Flown) (packet : Packet) → Keeps c part flight kept tick → flying_of f ≡ flying Stranger tick packet → IsStrangers c packet
    → Keeps c part (flight ++ f ∷ []) (kept ++ record { tick = tick; what = Strayed (length flight) } ∷ []) tick
keep_strayed c part flight kept tick f packet k sent may =
    let w = world_at part flight tick in
    keep_step c part part flight (f ∷ []) kept tick (Strayed (length flight)) (Stray packet) k
    (ap (λ o. Stray (packet_or o)) (get-last flight f) ∙ ap (λ (x : Flying). Stray x.packet) sent)
    may
    (ap (λ (x : Flying). record w { flight = map flying_of flight ++ x ∷ [] }) (sym sent) ∙ ap (λ l. record w { flight = l }) (sym (map-append flying_of flight (f ∷ []))))
    (ap (λ n. Rattle.sd_link.specs.Steps.Sent tick n packet ∷ []) (length-map flight flying_of)
    ∙ ap (λ (x : Flying). Rattle.sd_link.specs.Steps.Sent tick (length flight) x.packet ∷ []) (sym sent)
    ∙ ap (λ l. sent_entries tick (length flight) (take 1 l)) (sym (drop_at flight (f ∷ []) (length flight) refl)))
    (omega (arith, length-append flight (f ∷ [])))

-- a session sends its present block again
pub keep_again : (c : Config) (part : ServerPart) (flight : List Flown) (kept : List Kept) (tick number : ℕ) (f : Flown) (s : Session) → Keeps c part flight kept tick
    → session_in number part.sessions ≡ Some s → IsTrue (is_due c tick s) → s.sends < c.tries → flying_of f ≡ flying Server tick (block_packet c s)
    → Keeps c (record part { sessions = with_session (sent_again tick s) part.sessions }) (flight ++ f ∷ []) (kept ++ record { tick = tick; what = Again number (length flight) } ∷ []) tick
keep_again c part flight kept tick number f s k found due few sent =
    let w = world_at part flight tick in
    let next : ServerPart = record part { sessions = with_session (sent_again tick s) part.sessions } in
    keep_step c part next flight (f ∷ []) kept tick (Again number (length flight)) (Data number) k
    refl
    (s, record { found = found; due = due }, few)
    (ap (resent c w) found
    ∙ ap (λ (x : Flying). record w { server = next; flight = map flying_of flight ++ x ∷ [] }) (sym sent)
    ∙ ap (λ l. record w { server = next; flight = l }) (sym (map-append flying_of flight (f ∷ []))))
    (ap (λ (o : Option Session). sent_from tick (length w.flight) (blocks_again c o)) found
    ∙ ap (λ n. Rattle.sd_link.specs.Steps.Sent tick n (block_packet c s) ∷ []) (length-map flight flying_of)
    ∙ ap (λ (x : Flying). Rattle.sd_link.specs.Steps.Sent tick (length flight) x.packet ∷ []) (sym sent)
    ∙ ap (λ l. sent_entries tick (length flight) (take 1 l)) (sym (drop_at flight (f ∷ []) (length flight) refl)))
    (omega (arith, length-append flight (f ∷ [])))

-- a session ends
pub keep_ended : (c : Config) (part : ServerPart) (flight : List Flown) (kept : List Kept) (tick number : ℕ) (s : Session) → Keeps c part flight kept tick
    → session_in number part.sessions ≡ Some s → IsTrue (is_due c tick s) → c.tries ≤ s.sends
    → Keeps c (record part { sessions = without_session number part.sessions }) flight (kept ++ record { tick = tick; what = Ended number } ∷ []) tick
keep_ended c part flight kept tick number s k found due enough =
    let next : ServerPart = record part { sessions = without_session number part.sessions } in
    let same : flight ++ [] ≡ flight = append-nil flight in
    subst (λ l. Keeps c next l (kept ++ record { tick = tick; what = Ended number } ∷ []) tick) same
    (keep_step c part next flight [] kept tick (Ended number) (End number) k
    refl
    (s, record { found = found; due = due }, enough)
    (ap (λ l. world_at next l tick) (sym same))
    refl
    (omega arith))

-- a receive fails
pub keep_failed : (c : Config) (part : ServerPart) (flight : List Flown) (kept : List Kept) (tick : ℕ) → Keeps c part flight kept tick
    → Keeps c part flight (kept ++ record { tick = tick; what = Failed } ∷ []) tick
keep_failed c part flight kept tick k =
    let same : flight ++ [] ≡ flight = append-nil flight in
    subst (λ l. Keeps c part l (kept ++ record { tick = tick; what = Failed } ∷ []) tick) same
    (keep_step c part part flight [] kept tick Failed Fail k
    refl
    tt
    (ap (λ l. world_at part l tick) (sym same))
    refl
    (omega arith))

pub keep_none : (c : Config) → Keeps c (start c).server [] [] 0
keep_none c = record { world = refl; allowed = tt; entries = refl; ids = tt; ticks = omega arith }
