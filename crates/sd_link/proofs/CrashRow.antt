-- Crashes by example, and that the copies of a tick are those that are due.
use Rattle.std.proofs.Common.{◌≡◌, ℕ, ◌+◌, ◌≤◌, Bool, true, false, cond, List, [], ◌∷◌, ◌++◌, map, Option, Some, refl, sym, ◌∙◌, ap, arith}
use Rattle.std.specs.Prelude.{◌==◌, ◌&&◌, filter, slice_get}
use Rattle.std.specs.List.{flat_map, enumerate_from}
use Rattle.std.proofs.lemmas.List.{map-append}
use Rattle.sd_outside.specs.declared.packet.Packet.{Packet}
use Rattle.sd_outside.specs.declared.packet.Packet.TheVariants.{Frame}
use Rattle.sd_rarp.specs.Frame.{reading}
use Rattle.sd_config.specs.declared.config.Config.{Config}
use Rattle.sd_config.specs.Events.{Fates, plain_fates}
use Rattle.sd_config.specs.Plan.{Plan}
use Rattle.sd_link.specs.World.{World, Flying, Client, flying, start}
use Rattle.sd_services.specs.NfsCalls.{is_swap_access}
use Rattle.sd_link.specs.Steps.{Step, Tick, Send, Serve, Crash, after, crashed, goes_to_server}
use Rattle.sd_link.specs.Lawful.{IsLawful, AllStopAsNamed, copies_at, placed_copies, due_to_server, due_copies}

-- ---- which copies

placed : (tick n : ℕ) (delays : List ℕ) (e : ℕ × Flying) → copies_at tick delays e ≡ map (λ (p : ℕ × ℕ). p.0) (map (λ (d : ℕ × ℕ). (e.0, d.0)) (filter (λ (d : ℕ × ℕ). e.1.tick + d.1 == tick) (enumerate_from n delays)))
placed tick n [] e = refl
placed tick n (d ∷ delays) e = of (e.1.tick + d == tick) (placed tick (n + 1) delays e)
  where
    of : (b : Bool) → copies_at tick delays e ≡ map (λ (p : ℕ × ℕ). p.0) (map (λ (q : ℕ × ℕ). (e.0, q.0)) (filter (λ (q : ℕ × ℕ). e.1.tick + q.1 == tick) (enumerate_from (n + 1) delays)))
        → map (λ (x : ℕ). e.0) (cond b (d ∷ filter (λ (x : ℕ). e.1.tick + x == tick) delays) (filter (λ (x : ℕ). e.1.tick + x == tick) delays))
        ≡ map (λ (p : ℕ × ℕ). p.0) (map (λ (q : ℕ × ℕ). (e.0, q.0)) (cond b ((n, d) ∷ filter (λ (q : ℕ × ℕ). e.1.tick + q.1 == tick) (enumerate_from (n + 1) delays)) (filter (λ (q : ℕ × ℕ). e.1.tick + q.1 == tick) (enumerate_from (n + 1) delays))))
    of true more = ap (λ (l : List ℕ). e.0 ∷ l) more
    of false more = more

-- the copies of a tick are those of the deliveries that are due
pub copies_are_due : (c : Config) (fates : Fates) (w : World) → due_to_server c fates w ≡ map (λ (p : ℕ × ℕ). p.0) (due_copies c fates w)
copies_are_due c fates w = of (enumerate_from 0 w.flight)
  where
    one : (e : ℕ × Flying) (b : Bool) → cond b (copies_at w.tick (fates e.0) e) [] ≡ map (λ (p : ℕ × ℕ). p.0) (cond b (placed_copies w.tick (fates e.0) e) [])
    one e true = placed w.tick 1 (fates e.0) e
    one e false = refl

    of : (es : List (ℕ × Flying)) → flat_map (λ (e : ℕ × Flying). cond (goes_to_server c e.1.from e.1.packet) (copies_at w.tick (fates e.0) e) []) es
        ≡ map (λ (p : ℕ × ℕ). p.0) (flat_map (λ (e : ℕ × Flying). cond (goes_to_server c e.1.from e.1.packet) (placed_copies w.tick (fates e.0) e) []) es)
    of [] = refl
    of (e ∷ es) =
        let deep = of es in
        let here = one e (goes_to_server c e.1.from e.1.packet) in
        let rest = flat_map (λ (x : ℕ × Flying). cond (goes_to_server c x.1.from x.1.packet) (placed_copies w.tick (fates x.0) x) []) es in
        (λ i. here i ++ deep i) ∙ sym (map-append (λ (p : ℕ × ℕ). p.0) (cond (goes_to_server c e.1.from e.1.packet) (placed_copies w.tick (fates e.0) e) []) rest)

-- ---- a frame comes in a crash, and comes again

abbrev frame : Packet
frame = Frame []

-- the first delivery of packet 0 is stopped
abbrev first_stops : ℕ → ℕ → Bool
first_stops id copy = (id == 0) && (copy == 1)

abbrev row : Bool → List Step
row done = Send frame ∷ Tick ∷ Crash 0 done ∷ Send frame ∷ Tick ∷ Serve 1 ∷ []

abbrev sent : ℕ → Flying
sent tick = flying Client tick frame

-- no stranger sends, and no call fails
abbrev row_plan : Plan
row_plan = record { fates = plain_fates; crashes = first_stops; strays = λ tick. []; sends = λ id. false; receives = 0; accesses = 0 }

pub crash_row : (c : Config) → 2 ≤ c.life → (done : Bool) → IsLawful c row_plan (row done)
unfolding reading is_swap_access
crash_row c life done = record {
  orderly = record {
    allowed = (tt, (tt, ((sent 0, record { sent = refl; young = omega (arith, life) }, refl, refl), (tt, (tt, ((sent 1, record { sent = refl; young = omega (arith, life) }, refl, λ is. refl), tt))))));
    in_turn = ((refl, refl), (((refl, refl), refl), (([], refl), ((refl, refl), (((refl, refl), refl), (([], refl), tt))))));
    stops = (tt, (tt, (refl, (tt, (tt, (refl, tt))))));
    strays = (refl, (refl, (refl, (refl, (refl, (refl, tt))))));
    sends = (λ named. absurd cc, (λ named. absurd cc, tt));
    faults = omega arith;
  };
  receives = omega arith;
}

-- it can't be served
pub not_served : (c : Config) → AllStopAsNamed c plain_fates first_stops (start c) [] (Send frame ∷ Tick ∷ Serve 0 ∷ []) → ⊥
unfolding reading is_swap_access
not_served c stops = let no : true ≡ false = stops.1.1.0 in cc

-- nothing goes out, and the server that is opened again knows no session and no mount
pub crash_forgets : (c : Config) (w : World) (id : ℕ) (f : Flying) (done : Bool) → slice_get w.flight id ≡ Some f
    → ((after c w (Crash id done)).flight ≡ w.flight) × ((after c w (Crash id done)).server.sessions ≡ []) × ((after c w (Crash id done)).server.mounts ≡ [])
crash_forgets c w id f done here =
    let is : after c w (Crash id done) ≡ crashed c done w (Some f) = ap (λ (o : Option Flying). crashed c done w o) here in
    (ap (λ (v : World). v.flight) is, ap (λ (v : World). v.server.sessions) is, ap (λ (v : World). v.server.mounts) is)
