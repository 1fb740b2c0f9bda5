-- What the network owes a script: each packet comes at the ticks that its fate says, once for each, in order.
-- Within a tick strangers send first, then the server is given what is due to it, then each session whose block is due sends it
-- again or ends, and then the client sends and gets.
use Rattle.std.specs.Prelude.{◌≡◌, ℕ, ◌+◌, ◌≤◌, ◌&&◌, List, [], ◌∷◌, ◌++◌, length, map, filter, Option, Some, None, Bool, true, false, ◌==◌, if◌then◌else◌, slice_get}
use Rattle.std.specs.List.{flat_map, enumerate_from}
use Rattle.sd_outside.specs.declared.packet.Packet.{Packet}
use Rattle.sd_config.specs.declared.config.Config.{Config}
use Rattle.sd_config.specs.Events.{Fates}
use Rattle.sd_config.specs.Plan.{Crashes, Strays, FailingSends, Plan}
use Rattle.sd_link.specs.World.{World, Flying, Sender, Stranger, start}
use Rattle.sd_services.specs.Sessions.{is_due}
use Rattle.sd_link.specs.Steps.{Step, Tick, Send, Stray, Serve, Crash, Fault, Settle, Data, End, Get, Fail, Entry, Served, Crashed, Faulted, Got, after, entries_of, run, record_of, AllAllowed, goes_to_server, goes_to_client}
use Rattle.sd_outside.specs.Streams.{IsPrefixOf}
use Rattle.sd_link.specs.Parts.{fails_in, faults_in}

-- a copy for each delay that ends at this tick
abbrev pub copies_at : ℕ → List ℕ → ℕ × Flying → List ℕ
copies_at tick delays e = map (λ d. e.0) (filter (λ d. e.1.tick + d == tick) delays)

-- the ids of the copies that are due at a tick, in order of the ids and then of the fates
abbrev pub due : (Sender → Packet → Bool) → Fates → List Flying → ℕ → List ℕ
due goes fates flight tick = flat_map (λ e. if goes e.1.from e.1.packet then copies_at tick (fates e.0) e else []) (enumerate_from 0 flight)

-- the tick and the id of what came to the server, be it that it crashed or that its disk failed, and to the client
abbrev pub to_server : Entry → Option (ℕ × ℕ)
to_server (Served tick id) = Some (tick, id)
to_server (Crashed tick id) = Some (tick, id)
to_server (Faulted tick id) = Some (tick, id)
to_server others = None

abbrev pub to_client : Entry → Option (ℕ × ℕ)
to_client (Got tick id) = Some (tick, id)
to_client others = None

abbrev pub id_at : ℕ → Option (ℕ × ℕ) → List ℕ
id_at tick None = []
id_at tick (Some came) = if came.0 == tick then came.1 ∷ [] else []

-- the ids that came at a tick
abbrev pub served_at : ℕ → List Entry → List ℕ
served_at tick entries = flat_map (λ entry. id_at tick (to_server entry)) entries

abbrev pub got_at : ℕ → List Entry → List ℕ
got_at tick entries = flat_map (λ entry. id_at tick (to_client entry)) entries

-- what is due at the present tick
abbrev pub due_to_server : Config → Fates → World → List ℕ
due_to_server c fates w = due (goes_to_server c) fates w.flight w.tick

abbrev pub due_to_client : Config → Fates → World → List ℕ
due_to_client c fates w = due (goes_to_client c) fates w.flight w.tick

-- the numbers of the sessions whose present block is due, in their order
abbrev pub due_sessions : Config → World → List ℕ
due_sessions c w = map (λ s. s.number) (filter (is_due c w.tick) w.server.sessions)

-- this session is the next whose block is due
abbrev pub IsNextDue : Config → World → ℕ → Type 0
IsNextDue c w number = (later : List ℕ) × (due_sessions c w ≡ number ∷ later)

-- all that is due has come
abbrev pub AllServed : Config → Fates → World → List Entry → Type 0
AllServed c fates w entries = served_at w.tick entries ≡ due_to_server c fates w

abbrev pub AllGot : Config → Fates → World → List Entry → Type 0
AllGot c fates w entries = got_at w.tick entries ≡ due_to_client c fates w

-- the server is done with this tick
abbrev pub ServerRests : Config → Fates → World → List Entry → Type 0
ServerRests c fates w entries = AllServed c fates w entries × (due_sessions c w ≡ [])

-- all that is due to the client has come to it at the end of these steps
abbrev pub Settles : Config → Fates → World → List Entry → List Step → Type 0
Settles c fates w entries steps = AllGot c fates (run c w steps) (entries ++ record_of c w steps)

-- the client sends only where all that is due to it has come
abbrev pub SendsSettled : Config → Fates → World → List Entry → List Step → Type 0
SendsSettled c fates w entries [] = Unit {0}
SendsSettled c fates w entries (Send packet ∷ steps) = AllGot c fates w entries × SendsSettled c fates (after c w (Send packet)) (entries ++ entries_of c w (Send packet)) steps
SendsSettled c fates w entries (step ∷ steps) = SendsSettled c fates (after c w step) (entries ++ entries_of c w step) steps

-- the last step is one in which the client gets a packet
abbrev pub EndsWithGet : List Step → Type 0
EndsWithGet steps = (before : List Step) × (id : ℕ) × (packet : Packet) × (steps ≡ before ++ Get id packet ∷ [])

-- this id is the next that is given to the server
abbrev pub IsNextServed : Config → Fates → World → List Entry → ℕ → Type 0
IsNextServed c fates w entries id = IsPrefixOf (served_at w.tick entries ++ id ∷ []) (due_to_server c fates w)

-- Whether it is the turn of a step, after the record so far. When strangers send is said below.
abbrev pub InTurn : Config → Fates → World → List Entry → Step → Type 0
-- time goes on once the server is done and all that is due has come
InTurn c fates w entries Tick = ServerRests c fates w entries × AllGot c fates w entries
-- the server is given the next that is due
InTurn c fates w entries (Serve id) = IsNextServed c fates w entries id
InTurn c fates w entries (Crash id done) = IsNextServed c fates w entries id
InTurn c fates w entries (Fault id doubts) = IsNextServed c fates w entries id
-- the doubtful change is settled where the server is to be given something
InTurn c fates w entries (Settle done) = (id : ℕ) × IsNextServed c fates w entries id
-- once it was given all, the sessions have their turns in order of their numbers
InTurn c fates w entries (Data number) = AllServed c fates w entries × IsNextDue c w number
InTurn c fates w entries (End number) = AllServed c fates w entries × IsNextDue c w number
-- the client sends, and gets the next that is due, once the server is done
InTurn c fates w entries (Send packet) = ServerRests c fates w entries
InTurn c fates w entries (Get id packet) = ServerRests c fates w entries × IsPrefixOf (got_at w.tick entries ++ id ∷ []) (due_to_client c fates w)
InTurn c fates w entries Fail = ServerRests c fates w entries
InTurn c fates w entries (Stray packet) = Unit {0}

abbrev pub AllInTurn : Config → Fates → World → List Entry → List Step → Type 0
AllInTurn c fates w entries [] = Unit {0}
AllInTurn c fates w entries (step ∷ steps) = InTurn c fates w entries step × AllInTurn c fates (after c w step) (entries ++ entries_of c w step) steps

-- ---- which deliveries are stopped by a crash

-- the copies of a packet that are due at a tick, each with the place, from 1, of its delay
abbrev pub placed_copies : ℕ → List ℕ → ℕ × Flying → List (ℕ × ℕ)
placed_copies tick delays e = map (λ d. (e.0, d.0)) (filter (λ d. e.1.tick + d.1 == tick) (enumerate_from 1 delays))

-- those of all packets to the server, in the order of `due`
abbrev pub due_copies : Config → Fates → World → List (ℕ × ℕ)
due_copies c fates w = flat_map (λ e. if goes_to_server c e.1.from e.1.packet then placed_copies w.tick (fates e.0) e else []) (enumerate_from 0 w.flight)

-- the copy that is given to the server next
abbrev pub next_copy : Config → Fates → World → List Entry → Option (ℕ × ℕ)
next_copy c fates w entries = slice_get (due_copies c fates w) (length (served_at w.tick entries))

abbrev pub is_stopped : Crashes → Option (ℕ × ℕ) → Bool
is_stopped crashes None = false
is_stopped crashes (Some copy) = crashes copy.0 copy.1

abbrev pub StopsAsNamed : Config → Fates → Crashes → World → List Entry → Step → Type 0
StopsAsNamed c fates crashes w entries (Serve id) = is_stopped crashes (next_copy c fates w entries) ≡ false
StopsAsNamed c fates crashes w entries (Fault id doubts) = is_stopped crashes (next_copy c fates w entries) ≡ false
StopsAsNamed c fates crashes w entries (Crash id done) = is_stopped crashes (next_copy c fates w entries) ≡ true
StopsAsNamed c fates crashes w entries others = Unit {0}

-- A delivery is stopped by a crash exactly where a crash line names that packet and copy.
abbrev pub AllStopAsNamed : Config → Fates → Crashes → World → List Entry → List Step → Type 0
AllStopAsNamed c fates crashes w entries [] = Unit {0}
AllStopAsNamed c fates crashes w entries (step ∷ steps) = StopsAsNamed c fates crashes w entries step × AllStopAsNamed c fates crashes (after c w step) (entries ++ entries_of c w step) steps

-- ---- when strangers send

abbrev pub is_strangers : Sender → Bool
is_strangers Stranger = true
is_strangers others = false

-- what strangers have sent at the present tick
abbrev pub strayed : World → List Packet
strayed w = map (λ f. f.packet) (filter (λ f. is_strangers f.from && f.tick == w.tick) w.flight)

-- they have sent all that they send at it
abbrev pub AllStrayed : Strays → World → Type 0
AllStrayed strays w = strayed w ≡ strays w.tick

-- Strangers send what they send at a tick, in order, before anything else happens in it.
abbrev pub StraysAsNamed : Strays → World → Step → Type 0
StraysAsNamed strays w (Stray packet) = IsPrefixOf (strayed w ++ packet ∷ []) (strays w.tick)
StraysAsNamed strays w others = AllStrayed strays w

abbrev pub AllStrayAsNamed : Strays → Config → World → List Step → Type 0
AllStrayAsNamed strays c w [] = Unit {0}
AllStrayAsNamed strays c w (step ∷ steps) = StraysAsNamed strays w step × AllStrayAsNamed strays c (after c w step) steps

-- ---- which sends fail

-- the next step is a failure
abbrev pub FailsNext : List Step → Type 0
FailsNext steps = (rest : List Step) × (steps ≡ Fail ∷ rest)

-- The client's send of a packet fails, though the packet goes out, where a line names it.
abbrev pub AllFailAsNamed : FailingSends → Config → World → List Step → Type 0
AllFailAsNamed sends c w [] = Unit {0}
AllFailAsNamed sends c w (Send packet ∷ steps) = (sends (length w.flight) ≡ true → FailsNext steps) × AllFailAsNamed sends c (after c w (Send packet)) steps
AllFailAsNamed sends c w (step ∷ steps) = AllFailAsNamed sends c (after c w step) steps

-- how many packets of the client were sent that a line names
abbrev pub named_sends : FailingSends → Config → World → List Step → ℕ
named_sends sends c w [] = 0
named_sends sends c w (Send packet ∷ steps) =
    if sends (length w.flight) then named_sends sends c (after c w (Send packet)) steps + 1 else named_sends sends c (after c w (Send packet)) steps
named_sends sends c w (step ∷ steps) = named_sends sends c (after c w step) steps

-- ---- whole runs

-- Each step may happen, and comes in its turn; the server crashes where it is to, and strangers send what they are to. A send fails
-- where it is to, and the disk fails no more often than there are lines.
pub record IsOrderly (c : Config) (plan : Plan) (steps : List Step) : Type 0 where
  pub allowed : AllAllowed c (start c) steps
  pub in_turn : AllInTurn c plan.fates (start c) [] steps
  pub stops : AllStopAsNamed c plan.fates plan.crashes (start c) [] steps
  pub strays : AllStrayAsNamed plan.strays c (start c) steps
  pub sends : AllFailAsNamed plan.sends c (start c) steps
  pub faults : faults_in steps ≤ plan.accesses

-- Each failure that isn't a send's is that of a receive, of which no more fail than there are lines.
abbrev pub FailsAsPlanned : Config → Plan → List Step → Type 0
FailsAsPlanned c plan steps = fails_in steps ≤ named_sends plan.sends c (start c) steps + plan.receives

pub record IsLawful (c : Config) (plan : Plan) (steps : List Step) : Type 0 where
  pub orderly : IsOrderly c plan steps
  pub receives : FailsAsPlanned c plan steps

-- The server is done with the present tick, and strangers have sent what they send at it.
pub record Rests (c : Config) (plan : Plan) (w : World) (entries : List Entry) : Type 0 where
  pub server : ServerRests c plan.fates w entries
  pub strangers : AllStrayed plan.strays w

-- A whole run ends so at the last tick. What waits for the client may be left.
abbrev pub EndsAtRest : Config → Plan → List Step → Type 0
EndsAtRest c plan steps = Rests c plan (run c (start c) steps) (record_of c (start c) steps)
