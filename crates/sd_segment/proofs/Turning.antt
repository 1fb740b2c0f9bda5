-- Each step comes in its turn.
use Rattle.std.proofs.Common.{◌≡◌, ℕ, ◌+◌, ◌<◌, ◌≤◌, Bool, false, cond, List, [], ◌∷◌, ◌++◌, length, drop, take, map, ◌==◌, Some, refl, sym, ◌∙◌, ap, subst, arith, append_assoc, eq-eqb}
use Rattle.std.specs.Prelude.{slice_get}
use Rattle.std.specs.List.{AllByRecursion}
use Rattle.std.proofs.lemmas.Grind.{flat_map-append}
use Rattle.std.proofs.lemmas.List.{append-nil, map-append}
use Rattle.sd_outside.specs.declared.packet.Packet.{Packet}
use Rattle.sd_config.specs.declared.config.Config.{Config}
use Rattle.sd_config.specs.Events.{Fates}
use Rattle.sd_link.specs.World.{World, Flying, Sender, start}
use Rattle.sd_services.specs.Part.{ServerPart}
use Rattle.sd_link.specs.Steps.{Step, Tick, Send, Stray, Serve, Data, End, Get, Fail, Entry, goes_to_server, goes_to_client, record_of}
use Rattle.sd_outside.specs.Streams.{IsPrefixOf}
use Rattle.sd_link.specs.Lawful.{InTurn, AllInTurn, id_at, served_at, got_at, due, due_to_server, due_to_client, due_sessions, IsNextDue}
use Rattle.sd_link.specs.Lawful as lawful
use Rattle.sd_link.proofs.Histories.{in_turn-append}
use Rattle.sd_segment.specs.declared.flown.Flown.{Flown}
use Rattle.sd_segment.specs.declared.flown.Kept.{Kept}
use Rattle.sd_segment.specs.declared.flown.What.{What}
use Rattle.sd_segment.specs.declared.flown.What.TheVariants.{Sent, Strayed, Served, Again, Ended, Got, Failed}
use Rattle.sd_segment.specs.Flight.{flying_of}
use Rattle.sd_segment.specs.Kept.{step_of, steps_kept, sent_entries, entries_of_kept, entries_kept, ids_end}
use Rattle.sd_segment.specs.Segment.{Keeps, Turns, world_at}
use Rattle.sd_segment.proofs.Fates.{IsTimely}
use Rattle.sd_segment.proofs.Dues.{due-append, due_fresh}
use Rattle.sd_segment.proofs.Keeping.{kept-push, kept-grow, tick-push, all-push}

-- ---- what came at a tick

served-append : (t : ℕ) (xs ys : List Entry) → served_at t (xs ++ ys) ≡ served_at t xs ++ served_at t ys
served-append t xs ys = flat_map-append (λ (e : Entry). id_at t (lawful.to_server e)) xs ys

got-append : (t : ℕ) (xs ys : List Entry) → got_at t (xs ++ ys) ≡ got_at t xs ++ got_at t ys
got-append t xs ys = flat_map-append (λ (e : Entry). id_at t (lawful.to_client e)) xs ys

served-sent : (t tick id : ℕ) (sent : List Flown) → served_at t (sent_entries tick id sent) ≡ []
served-sent t tick id [] = refl
served-sent t tick id (f ∷ fs) = served-sent t tick (id + 1) fs

got-sent : (t tick id : ℕ) (sent : List Flown) → got_at t (sent_entries tick id sent) ≡ []
got-sent t tick id [] = refl
got-sent t tick id (f ∷ fs) = got-sent t tick (id + 1) fs

-- what a kept entry of this tick brings
pub served_here : (flight : List Flown) (tick id first count : ℕ) → served_at tick (entries_of_kept flight tick (Served id first count)) ≡ id ∷ []
served_here flight tick id first count =
    let sent = sent_entries tick first (take count (drop first flight)) in
    ap (λ (b : Bool). cond b (id ∷ []) [] ++ served_at tick sent) (eq-eqb tick tick refl) ∙ ap (λ (l : List ℕ). id ∷ l) (served-sent tick tick first (take count (drop first flight)))

pub got_here : (flight : List Flown) (tick id : ℕ) → got_at tick (entries_of_kept flight tick (Got id)) ≡ id ∷ []
got_here flight tick id = ap (λ (b : Bool). cond b (id ∷ []) [] ++ []) (eq-eqb tick tick refl)

-- what was kept at other ticks brings nothing
served-other : (flight : List Flown) (t tick : ℕ) (what : What) → tick < t → served_at t (entries_of_kept flight tick what) ≡ []
served-other flight t tick (Sent id) lt = served-sent t tick id (take 1 (drop id flight))
served-other flight t tick (Strayed id) lt = served-sent t tick id (take 1 (drop id flight))
served-other flight t tick (Served id first count) lt =
    let sent = sent_entries tick first (take count (drop first flight)) in
    let other : (tick == t) ≡ false = grind (arith, lt) in
    ap (λ (b : Bool). cond b (id ∷ []) [] ++ served_at t sent) other ∙ served-sent t tick first (take count (drop first flight))
served-other flight t tick (Again number id) lt = served-sent t tick id (take 1 (drop id flight))
served-other flight t tick (Ended number) lt = refl
served-other flight t tick (Got id) lt = refl
served-other flight t tick Failed lt = refl

got-other : (flight : List Flown) (t tick : ℕ) (what : What) → tick < t → got_at t (entries_of_kept flight tick what) ≡ []
got-other flight t tick (Sent id) lt = got-sent t tick id (take 1 (drop id flight))
got-other flight t tick (Strayed id) lt = got-sent t tick id (take 1 (drop id flight))
got-other flight t tick (Served id first count) lt = got-sent t tick first (take count (drop first flight))
got-other flight t tick (Again number id) lt = got-sent t tick id (take 1 (drop id flight))
got-other flight t tick (Ended number) lt = refl
got-other flight t tick (Got id) lt =
    let other : (tick == t) ≡ false = grind (arith, lt) in
    ap (λ (b : Bool). cond b (id ∷ []) [] ++ []) other
got-other flight t tick Failed lt = refl

served-past : (flight : List Flown) (tick : ℕ) (kept : List Kept) → AllByRecursion (λ k. k.tick ≤ tick) kept → served_at (tick + 1) (entries_kept flight kept) ≡ []
served-past flight tick [] past = refl
served-past flight tick (k ∷ ks) past =
    served-append (tick + 1) (entries_of_kept flight k.tick k.what) (entries_kept flight ks)
    ∙ ap (λ (l : List ℕ). l ++ served_at (tick + 1) (entries_kept flight ks)) (served-other flight (tick + 1) k.tick k.what (omega (arith, past.0)))
    ∙ served-past flight tick ks past.1

got-past : (flight : List Flown) (tick : ℕ) (kept : List Kept) → AllByRecursion (λ k. k.tick ≤ tick) kept → got_at (tick + 1) (entries_kept flight kept) ≡ []
got-past flight tick [] past = refl
got-past flight tick (k ∷ ks) past =
    got-append (tick + 1) (entries_of_kept flight k.tick k.what) (entries_kept flight ks)
    ∙ ap (λ (l : List ℕ). l ++ got_at (tick + 1) (entries_kept flight ks)) (got-other flight (tick + 1) k.tick k.what (omega (arith, past.0)))
    ∙ got-past flight tick ks past.1

past-later : (tick : ℕ) (kept : List Kept) → AllByRecursion (λ k. k.tick ≤ tick) kept → AllByRecursion (λ k. k.tick ≤ tick + 1) kept
past-later tick [] past = tt
past-later tick (k ∷ ks) past = (omega (arith, past.0), past-later tick ks past.1)

-- ---- one step more

-- what was sent at this tick isn't due at it
due_same : (goes : Sender → Packet → Bool) (life : ℕ) (fates : Fates) (flight more : List Flown) (tick : ℕ) → IsTimely life fates → AllByRecursion (λ x. x.tick ≡ tick) (map flying_of more)
    → due goes fates (map flying_of (flight ++ more)) tick ≡ due goes fates (map flying_of flight) tick
due_same goes life fates flight more tick t fresh =
    let old = due goes fates (map flying_of flight) tick in
    ap (λ (l : List Flying). due goes fates l tick) (map-append flying_of flight more)
    ∙ due-append goes fates (map flying_of flight) (map flying_of more) tick
    ∙ ap (λ (l : List ℕ). old ++ l) (due_fresh goes life (length (map flying_of flight)) fates (map flying_of more) tick t fresh)
    ∙ append-nil old

-- the record with this entry more
entries-push : (flight more : List Flown) (kept : List Kept) (tick : ℕ) (what : What) → AllByRecursion (λ k. ids_end k.what ≤ length flight) kept
    → entries_kept (flight ++ more) (kept ++ record { tick = tick; what = what } ∷ []) ≡ entries_kept flight kept ++ entries_of_kept (flight ++ more) tick what
entries-push flight more kept tick what ids =
    let all = flight ++ more in
    let entry : Kept = record { tick = tick; what = what } in
    flat_map-append (λ j. entries_of_kept all j.tick j.what) kept (entry ∷ [])
    ∙ ap (λ (l : List Entry). entries_kept all kept ++ l) (append-nil (entries_of_kept all tick what))
    ∙ ap (λ (l : List Entry). l ++ entries_of_kept all tick what) (kept-grow flight more kept ids)

-- what came and what is still to come, after one entry more
regroup : (a b : List ℕ) (old new : List ℕ) → b ++ new ≡ old → (a ++ b) ++ new ≡ a ++ old
regroup a b old new is = append_assoc a b new ∙ ap (λ (l : List ℕ). a ++ l) is

pub turn_step : (c : Config) (fates : Fates) (part next : ServerPart) (flight more : List Flown) (kept : List Kept) (tick : ℕ) (what : What) (step : Step) (to_server to_client server_left client_left : List ℕ)
    → Keeps c part flight kept tick → Turns c fates part flight kept tick to_server to_client → IsTimely c.life fates → AllByRecursion (λ x. x.tick ≡ tick) (map flying_of more)
    → step_of (flight ++ more) what ≡ step
    → InTurn c fates (world_at part flight tick) (entries_kept flight kept) step
    → served_at tick (entries_of_kept (flight ++ more) tick what) ++ server_left ≡ to_server
    → got_at tick (entries_of_kept (flight ++ more) tick what) ++ client_left ≡ to_client
    → Turns c fates next (flight ++ more) (kept ++ record { tick = tick; what = what } ∷ []) tick server_left client_left
turn_step c fates part next flight more kept tick what step to_server to_client server_left client_left k t timely fresh is turn brings_server brings_client =
    let all = flight ++ more in
    let entry : Kept = record { tick = tick; what = what } in
    let steps = steps_kept flight kept tick in
    let old = entries_kept flight kept in
    let here = entries_of_kept all tick what in
    let push : steps_kept all (kept ++ entry ∷ []) tick ≡ steps ++ step ∷ [] = kept-push flight more kept tick what k.ids ∙ ap (λ (s : Step). steps ++ s ∷ []) is in
    let lines : entries_kept all (kept ++ entry ∷ []) ≡ old ++ here = entries-push flight more kept tick what k.ids in
    record {
      in_turn =
          subst (λ (l : List Step). AllInTurn c fates (start c) [] l) (sym push)
          (in_turn-append c fates (start c) [] steps (step ∷ []) t.in_turn
          (subst (λ (w : World). AllInTurn c fates w (record_of c (start c) steps) (step ∷ [])) (sym k.world)
          (subst (λ (l : List Entry). AllInTurn c fates (world_at part flight tick) l (step ∷ [])) (sym k.entries) (turn, tt))));
      server =
          ap (λ (l : List Entry). served_at tick l ++ server_left) lines
          ∙ ap (λ (l : List ℕ). l ++ server_left) (served-append tick old here)
          ∙ regroup (served_at tick old) (served_at tick here) to_server server_left brings_server
          ∙ t.server
          ∙ sym (due_same (goes_to_server c) c.life fates flight more tick timely fresh);
      client =
          ap (λ (l : List Entry). got_at tick l ++ client_left) lines
          ∙ ap (λ (l : List ℕ). l ++ client_left) (got-append tick old here)
          ∙ regroup (got_at tick old) (got_at tick here) to_client client_left brings_client
          ∙ t.client
          ∙ sym (due_same (goes_to_client c) c.life fates flight more tick timely fresh);
      past = all-push (λ j. j.tick ≤ tick) kept entry t.past (omega arith);
    }

-- ---- whose turn it is

all_served : (came left whole : List ℕ) → came ++ left ≡ whole → left ≡ [] → came ≡ whole
all_served came left whole is none = sym (append-nil came) ∙ ap (λ (l : List ℕ). came ++ l) (sym none) ∙ is

next_front : (came left whole : List ℕ) (id : ℕ) → came ++ (id ∷ left) ≡ whole → IsPrefixOf (came ++ id ∷ []) whole
next_front came left whole id is = (left, append_assoc came (id ∷ []) left ∙ is)

-- the first and what follows it
pub first_of : (xs : List ℕ) (id : ℕ) → slice_get xs 0 ≡ Some id → id ∷ drop 1 xs ≡ xs
first_of [] id is = absurd (cc)
first_of (x ∷ xs) id is = let same : x ≡ id = cc in ap (λ (y : ℕ). y ∷ xs) (sym same)

-- time goes on
pub turn_tick : (c : Config) (fates : Fates) (part : ServerPart) (flight : List Flown) (kept : List Kept) (tick : ℕ) (to_server to_client server_due client_due : List ℕ)
    → Keeps c part flight kept tick → Turns c fates part flight kept tick to_server to_client → to_server ≡ [] → due_sessions c (world_at part flight tick) ≡ [] → to_client ≡ []
    → server_due ≡ due_to_server c fates (world_at part flight (tick + 1)) → client_due ≡ due_to_client c fates (world_at part flight (tick + 1))
    → Turns c fates part flight kept (tick + 1) server_due client_due
turn_tick c fates part flight kept tick to_server to_client server_due client_due k t no_server rests no_client server_is client_is =
    let steps = steps_kept flight kept tick in
    let old = entries_kept flight kept in
    let turn : InTurn c fates (world_at part flight tick) old Tick =
    ((all_served (served_at tick old) to_server (due_to_server c fates (world_at part flight tick)) t.server no_server, rests), all_served (got_at tick old) to_client (due_to_client c fates (world_at part flight tick)) t.client no_client) in
    record {
      in_turn =
          subst (λ (l : List Step). AllInTurn c fates (start c) [] l) (sym (tick-push flight kept tick k.ticks))
          (in_turn-append c fates (start c) [] steps (Tick ∷ []) t.in_turn
          (subst (λ (w : World). AllInTurn c fates w (record_of c (start c) steps) (Tick ∷ [])) (sym k.world)
          (subst (λ (l : List Entry). AllInTurn c fates (world_at part flight tick) l (Tick ∷ [])) (sym k.entries) (turn, tt))));
      server = ap (λ (l : List ℕ). l ++ server_due) (served-past flight tick kept t.past) ∙ server_is;
      client = ap (λ (l : List ℕ). l ++ client_due) (got-past flight tick kept t.past) ∙ client_is;
      past = past-later tick kept t.past;
    }

-- the client sends
pub turn_sent : (c : Config) (fates : Fates) (part : ServerPart) (flight : List Flown) (kept : List Kept) (tick : ℕ) (f : Flown) (packet : Packet) (to_server to_client : List ℕ)
    → Keeps c part flight kept tick → Turns c fates part flight kept tick to_server to_client → IsTimely c.life fates → f.tick ≡ tick → to_server ≡ [] → due_sessions c (world_at part flight tick) ≡ []
    → step_of (flight ++ f ∷ []) (Sent (length flight)) ≡ Send packet
    → Turns c fates part (flight ++ f ∷ []) (kept ++ record { tick = tick; what = Sent (length flight) } ∷ []) tick to_server to_client
turn_sent c fates part flight kept tick f packet to_server to_client k t timely now none rests is =
    let all = flight ++ f ∷ [] in
    let id = length flight in
    turn_step c fates part part flight (f ∷ []) kept tick (Sent id) (Send packet) to_server to_client to_server to_client k t timely (now, tt) is
    (all_served (served_at tick (entries_kept flight kept)) to_server (due_to_server c fates (world_at part flight tick)) t.server none, rests)
    (ap (λ (l : List ℕ). l ++ to_server) (served-sent tick tick id (take 1 (drop id all))))
    (ap (λ (l : List ℕ). l ++ to_client) (got-sent tick tick id (take 1 (drop id all))))

-- the server is given a packet
pub turn_served : (c : Config) (fates : Fates) (part next : ServerPart) (flight more : List Flown) (kept : List Kept) (tick id first count : ℕ) (to_server to_client : List ℕ)
    → Keeps c part flight kept tick → Turns c fates part flight kept tick to_server to_client → IsTimely c.life fates → AllByRecursion (λ x. x.tick ≡ tick) (map flying_of more)
    → slice_get to_server 0 ≡ Some id
    → Turns c fates next (flight ++ more) (kept ++ record { tick = tick; what = Served id first count } ∷ []) tick (drop 1 to_server) to_client
turn_served c fates part next flight more kept tick id first count to_server to_client k t timely fresh first_is =
    let all = flight ++ more in
    let parts : id ∷ drop 1 to_server ≡ to_server = first_of to_server id first_is in
    turn_step c fates part next flight more kept tick (Served id first count) (Serve id) to_server to_client (drop 1 to_server) to_client k t timely fresh refl
    (next_front (served_at tick (entries_kept flight kept)) (drop 1 to_server) (due_to_server c fates (world_at part flight tick)) id (ap (λ (l : List ℕ). served_at tick (entries_kept flight kept) ++ l) parts ∙ t.server))
    (ap (λ (l : List ℕ). l ++ drop 1 to_server) (served_here all tick id first count) ∙ parts)
    (ap (λ (l : List ℕ). l ++ to_client) (got-sent tick tick first (take count (drop first all))))

-- the client gets a packet
pub turn_got : (c : Config) (fates : Fates) (part : ServerPart) (flight : List Flown) (kept : List Kept) (tick id : ℕ) (packet : Packet) (to_server to_client : List ℕ)
    → Keeps c part flight kept tick → Turns c fates part flight kept tick to_server to_client → IsTimely c.life fates → to_server ≡ [] → due_sessions c (world_at part flight tick) ≡ [] → slice_get to_client 0 ≡ Some id
    → step_of (flight ++ []) (Got id) ≡ Get id packet
    → Turns c fates part flight (kept ++ record { tick = tick; what = Got id } ∷ []) tick to_server (drop 1 to_client)
turn_got c fates part flight kept tick id packet to_server to_client k t timely none rests next is =
    let parts : id ∷ drop 1 to_client ≡ to_client = first_of to_client id next in
    subst (λ (l : List Flown). Turns c fates part l (kept ++ record { tick = tick; what = Got id } ∷ []) tick to_server (drop 1 to_client)) (append-nil flight)
    (turn_step c fates part part flight [] kept tick (Got id) (Get id packet) to_server to_client to_server (drop 1 to_client) k t timely tt is (
      (all_served (served_at tick (entries_kept flight kept)) to_server (due_to_server c fates (world_at part flight tick)) t.server none, rests),
      next_front (got_at tick (entries_kept flight kept)) (drop 1 to_client) (due_to_client c fates (world_at part flight tick)) id (ap (λ (l : List ℕ). got_at tick (entries_kept flight kept) ++ l) parts ∙ t.client),
    )
    refl
    (ap (λ (l : List ℕ). l ++ drop 1 to_client) (got_here (flight ++ []) tick id) ∙ parts))

-- a session sends its present block again
pub turn_again : (c : Config) (fates : Fates) (part next : ServerPart) (flight : List Flown) (kept : List Kept) (tick number : ℕ) (f : Flown) (to_server to_client : List ℕ)
    → Keeps c part flight kept tick → Turns c fates part flight kept tick to_server to_client → IsTimely c.life fates → f.tick ≡ tick → to_server ≡ [] → IsNextDue c (world_at part flight tick) number
    → Turns c fates next (flight ++ f ∷ []) (kept ++ record { tick = tick; what = Again number (length flight) } ∷ []) tick to_server to_client
turn_again c fates part next flight kept tick number f to_server to_client k t timely now none due_next =
    let all = flight ++ f ∷ [] in
    let id = length flight in
    turn_step c fates part next flight (f ∷ []) kept tick (Again number id) (Data number) to_server to_client to_server to_client k t timely (now, tt) refl
    (all_served (served_at tick (entries_kept flight kept)) to_server (due_to_server c fates (world_at part flight tick)) t.server none, due_next)
    (ap (λ (l : List ℕ). l ++ to_server) (served-sent tick tick id (take 1 (drop id all))))
    (ap (λ (l : List ℕ). l ++ to_client) (got-sent tick tick id (take 1 (drop id all))))

-- a session ends
pub turn_ended : (c : Config) (fates : Fates) (part next : ServerPart) (flight : List Flown) (kept : List Kept) (tick number : ℕ) (to_server to_client : List ℕ)
    → Keeps c part flight kept tick → Turns c fates part flight kept tick to_server to_client → IsTimely c.life fates → to_server ≡ [] → IsNextDue c (world_at part flight tick) number
    → Turns c fates next flight (kept ++ record { tick = tick; what = Ended number } ∷ []) tick to_server to_client
turn_ended c fates part next flight kept tick number to_server to_client k t timely none due_next =
    subst (λ (l : List Flown). Turns c fates next l (kept ++ record { tick = tick; what = Ended number } ∷ []) tick to_server to_client) (append-nil flight)
    (turn_step c fates part next flight [] kept tick (Ended number) (End number) to_server to_client to_server to_client k t timely tt refl
    (all_served (served_at tick (entries_kept flight kept)) to_server (due_to_server c fates (world_at part flight tick)) t.server none, due_next)
    refl
    refl)

-- a stranger sends
pub turn_strayed : (c : Config) (fates : Fates) (part : ServerPart) (flight : List Flown) (kept : List Kept) (tick : ℕ) (f : Flown) (packet : Packet) (to_server to_client : List ℕ)
    → Keeps c part flight kept tick → Turns c fates part flight kept tick to_server to_client → IsTimely c.life fates → f.tick ≡ tick
    → step_of (flight ++ f ∷ []) (Strayed (length flight)) ≡ Stray packet
    → Turns c fates part (flight ++ f ∷ []) (kept ++ record { tick = tick; what = Strayed (length flight) } ∷ []) tick to_server to_client
turn_strayed c fates part flight kept tick f packet to_server to_client k t timely now is =
    let all = flight ++ f ∷ [] in
    let id = length flight in
    turn_step c fates part part flight (f ∷ []) kept tick (Strayed id) (Stray packet) to_server to_client to_server to_client k t timely (now, tt) is
    tt
    (ap (λ (l : List ℕ). l ++ to_server) (served-sent tick tick id (take 1 (drop id all))))
    (ap (λ (l : List ℕ). l ++ to_client) (got-sent tick tick id (take 1 (drop id all))))

-- a receive fails
pub turn_failed : (c : Config) (fates : Fates) (part : ServerPart) (flight : List Flown) (kept : List Kept) (tick : ℕ) (to_server to_client : List ℕ)
    → Keeps c part flight kept tick → Turns c fates part flight kept tick to_server to_client → IsTimely c.life fates → to_server ≡ [] → due_sessions c (world_at part flight tick) ≡ []
    → Turns c fates part flight (kept ++ record { tick = tick; what = Failed } ∷ []) tick to_server to_client
turn_failed c fates part flight kept tick to_server to_client k t timely none rests =
    subst (λ (l : List Flown). Turns c fates part l (kept ++ record { tick = tick; what = Failed } ∷ []) tick to_server to_client) (append-nil flight)
    (turn_step c fates part part flight [] kept tick Failed Fail to_server to_client to_server to_client k t timely tt refl
    (all_served (served_at tick (entries_kept flight kept)) to_server (due_to_server c fates (world_at part flight tick)) t.server none, rests)
    refl
    refl)

pub turn_none : (c : Config) (fates : Fates) → Turns c fates (start c).server [] [] 0 [] []
turn_none c fates = record { in_turn = tt; server = refl; client = refl; past = tt }
