-- The entries of steps that may happen follow each other.
use Rattle.std.proofs.Common.{◌≡◌, ℕ, ◌+◌, ◌<◌, ◌≤◌, List, [], ◌∷◌, ◌++◌, length, map, Option, Some, None, refl, sym, ap, subst, arith, length-append}
use Rattle.std.specs.Prelude.{slice_get}
use Rattle.std.proofs.lemmas.List.{length-map}
use Rattle.std.proofs.lemmas.Option.{slice_get_within}
use Rattle.std.proofs.lemmas.List.Sums.{fold-append}
use Rattle.sd_outside.specs.declared.packet.Packet.{Packet}
use Rattle.sd_config.specs.declared.config.Config.{Config}
use Rattle.sd_services.specs.Sessions.{session_in, block_packet}
use Rattle.sd_services.specs.Part.{Session}
use Rattle.sd_services.specs.Reply.{out_of}
use Rattle.sd_services.specs.Failing.{failure_out}
use Rattle.sd_script.specs.Answers.{answer_text}
use Rattle.sd_link.specs.World.{World, Flying, Sender, Client, Server, Stranger, flying}
use Rattle.sd_link.specs.Steps.{Step, Tick, Send, Stray, Serve, Crash, Fault, Settle, Data, End, Get, Fail, Entry, Served, Crashed, Faulted, Got, Failed, Allowed, IsDeliverable, after, served, crashed, faulted, resent, sent_from, replies_to, failures_of, blocks_again, entries_of, run, AllAllowed, record_of}
use Rattle.sd_link.proofs.Histories.{allowed-split}
use Rattle.sd_claims.specs.Session.{parts_of}
use Rattle.sd_claims.specs.Transcript.{Done}
use Rattle.sd_view.specs.declared.lines.Line.{Line}
use Rattle.sd_view.specs.declared.lines.Line.TheVariants as lines
use Rattle.sd_view.specs.declared.order.SoFar.{SoFar}
use Rattle.sd_view.specs.Order.{after_all, MayFollow, AllFollow}
use Rattle.sd_view.specs.Order as order
use Rattle.sd_view_laws.specs.Written.{line_of, run_of}

-- what is known lags behind this tick, and counts so many packets
abbrev Knows : ℕ → ℕ → SoFar → Type 0
Knows tick sent known = (known.tick ≤ tick) × (known.sent ≡ sent)

-- these lines follow what is known, and lead to this
record Leads (known : SoFar) (run : List Line) (tick sent : ℕ) : Type 0 where
  follow : AllFollow known run
  known_then : Knows tick sent (after_all known run)

leads_nowhere : (known : SoFar) (old tick sent : ℕ) → Knows old sent known → old ≤ tick → Leads known [] tick sent
leads_nowhere known old tick sent k le = record { follow = tt; known_then = (omega (arith, k.0, le), k.1) }

follow_then : (known : SoFar) (a b : List Line) → AllFollow known a → AllFollow (after_all known a) b → AllFollow known (a ++ b)
follow_then known [] b x y = y
follow_then known (line ∷ a) b x y = (x.0, follow_then (order.after known line) a b x.1 y)

leads_then : (known : SoFar) (a b : List Line) (tick sent end all : ℕ) → Leads known a tick sent → Leads (after_all known a) b end all → Leads known (a ++ b) end all
leads_then known a b tick sent end all x y = record {
  follow = follow_then known a b x.follow y.follow;
  known_then = subst (λ (k : SoFar). Knows end all k) (sym (fold-append order.after known a b)) y.known_then;
}

-- packets that are sent
sent_leads : (known : SoFar) (tick id all : ℕ) (packets : List Packet) → Knows tick id known → all ≡ id + length packets → Leads known (map line_of (sent_from tick id packets)) tick all
sent_leads known tick id all [] k e = record { follow = tt; known_then = (k.0, omega (arith, k.1, e)) }
sent_leads known tick id all (packet ∷ packets) k e =
    let next : SoFar = record { tick = tick; sent = known.sent + 1 } in
    let rest = sent_leads next tick (id + 1) all packets (omega arith, omega (arith, k.1)) (omega (arith, e)) in
    record { follow = ((k.0, sym k.1), rest.follow); known_then = rest.known_then }

-- a packet that came, and those that are sent for it
came_leads : (known : SoFar) (tick sent all : ℕ) (line : Line) (run : List Line) → MayFollow known line → order.after known line ≡ record { tick = tick; sent = known.sent } → Knows tick sent known
    → Leads record { tick = tick; sent = known.sent } run tick all → Leads known (line ∷ run) tick all
came_leads known tick sent all line run may is k rest = record {
  follow = (may, subst (λ (s : SoFar). AllFollow s run) (sym is) rest.follow);
  known_then = subst (λ (s : SoFar). Knows tick all (after_all s run)) (sym is) rest.known_then;
}

-- more packets are in flight
more_fly : (flight : List Flying) (from : Sender) (tick : ℕ) (packets : List Packet) → length (flight ++ map (flying from tick) packets) ≡ length flight + length packets
more_fly flight from tick packets = omega (arith, length-append flight (map (flying from tick) packets), length-map packets (flying from tick))

-- ---- steps

abbrev StepLeads : Config → World → Step → Type 0
StepLeads c w step = (known : SoFar) → Knows w.tick (length w.flight) known → Leads known (map line_of (entries_of c w step)) (after c w step).tick (length (after c w step).flight)

-- the packet with this id was sent
was_sent : (c : Config) (w : World) (id : ℕ) (f : Flying) (known : SoFar) → IsDeliverable c w id f → Knows w.tick (length w.flight) known → id < known.sent
was_sent c w id f known is k = omega (arith, slice_get_within w.flight id f is.sent, k.1)

serve_leads : (c : Config) (w : World) (id : ℕ) (o : Option Flying) (known : SoFar) → Knows w.tick (length w.flight) known → id < known.sent
    → Leads known (map line_of (Served w.tick id ∷ sent_from w.tick (length w.flight) (replies_to c w o))) (served c w o).tick (length (served c w o).flight)
serve_leads c w id None known k sent =
    came_leads known w.tick (length w.flight) (length w.flight) (line_of (Served w.tick id)) [] (k.0, sent) refl k (record { follow = tt; known_then = (omega arith, k.1) })
serve_leads c w id (Some f) known k sent =
    let packets = out_of c w.tick w.server f.packet in
    came_leads known w.tick (length w.flight) _ (line_of (Served w.tick id)) (map line_of (sent_from w.tick (length w.flight) packets)) (k.0, sent) refl k
    (sent_leads _ w.tick (length w.flight) _ packets (omega arith, k.1) (more_fly w.flight Server w.tick packets))

crash_leads : (c : Config) (w : World) (id : ℕ) (done : _) (o : Option Flying) (known : SoFar) → Knows w.tick (length w.flight) known → id < known.sent
    → Leads known (map line_of (Crashed w.tick id ∷ [])) (crashed c done w o).tick (length (crashed c done w o).flight)
crash_leads c w id done None known k sent =
    came_leads known w.tick (length w.flight) (length w.flight) (line_of (Crashed w.tick id)) [] (k.0, sent) refl k (record { follow = tt; known_then = (omega arith, k.1) })
crash_leads c w id done (Some f) known k sent =
    came_leads known w.tick (length w.flight) (length w.flight) (line_of (Crashed w.tick id)) [] (k.0, sent) refl k (record { follow = tt; known_then = (omega arith, k.1) })

fault_leads : (c : Config) (w : World) (id : ℕ) (doubts : _) (o : Option Flying) (known : SoFar) → Knows w.tick (length w.flight) known → id < known.sent
    → Leads known (map line_of (Faulted w.tick id ∷ sent_from w.tick (length w.flight) (failures_of c o))) (faulted c doubts w o).tick (length (faulted c doubts w o).flight)
fault_leads c w id doubts None known k sent =
    came_leads known w.tick (length w.flight) (length w.flight) (line_of (Faulted w.tick id)) [] (k.0, sent) refl k (record { follow = tt; known_then = (omega arith, k.1) })
fault_leads c w id doubts (Some f) known k sent =
    let packets = failure_out c f.packet in
    came_leads known w.tick (length w.flight) _ (line_of (Faulted w.tick id)) (map line_of (sent_from w.tick (length w.flight) packets)) (k.0, sent) refl k
    (sent_leads _ w.tick (length w.flight) _ packets (omega arith, k.1) (more_fly w.flight Server w.tick packets))

data_leads : (c : Config) (w : World) (o : Option Session) (known : SoFar) → Knows w.tick (length w.flight) known
    → Leads known (map line_of (sent_from w.tick (length w.flight) (blocks_again c o))) (resent c w o).tick (length (resent c w o).flight)
data_leads c w None known k = record { follow = tt; known_then = k }
data_leads c w (Some session) known k =
    sent_leads known w.tick (length w.flight) _ (block_packet c session ∷ []) k (more_fly w.flight Server w.tick (block_packet c session ∷ []))

one_step : (c : Config) (w : World) (step : Step) → Allowed c w step → StepLeads c w step
one_step c w Tick a known k = record { follow = tt; known_then = (omega (arith, k.0), k.1) }
one_step c w (Send packet) a known k = sent_leads known w.tick (length w.flight) _ (packet ∷ []) k (more_fly w.flight Client w.tick (packet ∷ []))
one_step c w (Stray packet) a known k = sent_leads known w.tick (length w.flight) _ (packet ∷ []) k (more_fly w.flight Stranger w.tick (packet ∷ []))
one_step c w (Serve id) a known k = serve_leads c w id (slice_get w.flight id) known k (was_sent c w id a.0 known a.1 k)
one_step c w (Crash id done) a known k = crash_leads c w id done (slice_get w.flight id) known k (was_sent c w id a.0 known a.1 k)
one_step c w (Fault id doubts) a known k = fault_leads c w id doubts (slice_get w.flight id) known k (was_sent c w id a.0 known a.1 k)
one_step c w (Settle done) a known k = record { follow = tt; known_then = k }
one_step c w (Data number) a known k = data_leads c w (session_in number w.server.sessions) known k
one_step c w (End number) a known k = record { follow = tt; known_then = k }
one_step c w (Get id packet) a known k =
    came_leads known w.tick (length w.flight) (length w.flight) (line_of (Got w.tick id)) [] (k.0, was_sent c w id a.0 known a.1 k) refl k (record { follow = tt; known_then = (omega arith, k.1) })
one_step c w Fail a known k =
    came_leads known w.tick (length w.flight) (length w.flight) (line_of (Failed w.tick)) [] k.0 refl k (record { follow = tt; known_then = (omega arith, k.1) })

map_then : (a b : List Entry) → map line_of (a ++ b) ≡ map line_of a ++ map line_of b
map_then [] b = refl
map_then (e ∷ a) b = ap (λ (l : List Line). line_of e ∷ l) (map_then a b)

-- the entries of some steps
steps_lead : (c : Config) (w : World) (steps : List Step) → AllAllowed c w steps → (known : SoFar) → Knows w.tick (length w.flight) known
    → Leads known (map line_of (record_of c w steps)) (run c w steps).tick (length (run c w steps).flight)
steps_lead c w [] a known k = record { follow = tt; known_then = k }
steps_lead c w (step ∷ steps) a known k =
    let first = one_step c w step a.0 known k in
    let new = after c w step in
    let rest = steps_lead c new steps a.1 (after_all known (map line_of (entries_of c w step))) first.known_then in
    subst (λ (l : List Line). Leads known l (run c new steps).tick (length (run c new steps).flight)) (sym (map_then (entries_of c w step) (record_of c new steps)))
    (leads_then known (map line_of (entries_of c w step)) (map line_of (record_of c new steps)) new.tick (length new.flight) (run c new steps).tick (length (run c new steps).flight) first rest)

-- those of commands, and their answers
pub commands_follow : (c : Config) (w : World) (done : List Done) → AllAllowed c w (parts_of done) → (known : SoFar) → known.tick ≤ w.tick → known.sent ≡ length w.flight → AllFollow known (run_of c w done)
commands_follow c w [] a known late count = tt
commands_follow c w (d ∷ others) a known late count =
    let parts = allowed-split c w d.part (parts_of others) a in
    let here = steps_lead c w d.part parts.0 known (late, count) in
    let told = map line_of (record_of c w d.part) in
    follow_then known told (lines.Answer (answer_text d.answer) ∷ run_of c (run c w d.part) others) here.follow
    (tt, commands_follow c (run c w d.part) others parts.1 (after_all known told) here.known_then.0 here.known_then.1)
