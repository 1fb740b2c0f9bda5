-- The packets in flight stand in the order in which they were sent.
use Rattle.std.proofs.Common.{◌≡◌, ℕ, zero, suc, ◌+◌, ◌-◌, ◌<◌, ◌≤◌, Bool, List, [], ◌∷◌, ◌++◌, length, get_or, map, Option, Some, None, refl, sym, ap, subst, arith, append_assoc}
use Rattle.std.proofs.lemmas.List.{append-nil}
use Rattle.std.proofs.lemmas.List.Sorted.{IsNonDecreasingBy-push}
use Rattle.std.specs.Prelude.{slice_get}
use Rattle.std.specs.List.{AllByRecursion}
use Rattle.std.specs.List.Sorted.{IsNonDecreasingBy}
use Rattle.sd_outside.specs.declared.packet.Packet.{Packet}
use Rattle.sd_config.specs.declared.config.Config.{Config}
use Rattle.sd_link.specs.World.{World, Flying, Sender, Client, Server, Stranger, start}
use Rattle.sd_services.specs.Part.{Session}
use Rattle.sd_services.specs.Sessions.{session_in, block_packet}
use Rattle.sd_services.specs.Reply.{out_of}
use Rattle.sd_services.specs.Failing.{failure_out}
use Rattle.sd_link.specs.Steps.{Step, Tick, Send, Stray, Serve, Crash, Fault, Settle, Data, End, Get, Fail, after, served, crashed, faulted, resent, run}
use Rattle.sd_segment.specs.declared.flown.Flown.{Flown}
use Rattle.sd_segment.specs.Flight.{flying_of}

-- none was sent later than this, and each no earlier than those before it
record Ordered (tick : ℕ) (flight : List Flying) : Type 0 where
  pub until : AllByRecursion (λ f. f.tick ≤ tick) flight
  pub ascends : IsNonDecreasingBy (λ (f : Flying). f.tick) flight

all_push : {A : Type 0} (P : A → Type 0) (xs : List A) (x : A) → AllByRecursion P xs → P x → AllByRecursion P (xs ++ x ∷ [])
all_push P [] x all one = (one, tt)
all_push P (y ∷ ys) x all one = (all.0, all_push P ys x all.1 one)

all_get : {A : Type 0} (P : A → Type 0) (xs : List A) (i : ℕ) (d : A) → AllByRecursion P xs → i < length xs → P (get_or xs i d)
all_get P [] i d all lt = absurd (omega (arith, lt))
all_get P (x ∷ xs) zero d all lt = all.0
all_get P (x ∷ xs) (suc i) d all lt = all_get P xs i d all.1 (omega (arith, lt))

later_too : (tick : ℕ) (flight : List Flying) → AllByRecursion (λ f. f.tick ≤ tick) flight → AllByRecursion (λ f. f.tick ≤ tick + 1) flight
later_too tick [] all = tt
later_too tick (f ∷ fs) all = (omega (arith, all.0), later_too tick fs all.1)

-- packets that are sent now stand at the end
sent_now : (from : Sender) (tick : ℕ) (flight : List Flying) (packets : List Packet) → Ordered tick flight → Ordered tick (flight ++ map (λ packet. record { from = from; tick = tick; packet = packet }) packets)
sent_now from tick flight [] o = subst (λ (l : List Flying). Ordered tick l) (sym (append-nil flight)) o
sent_now from tick flight (packet ∷ packets) o =
    let f : Flying = record { from = from; tick = tick; packet = packet } in
    let more = map (λ (p : Packet). record { from = from; tick = tick; packet = p }) packets in
    subst (λ (l : List Flying). Ordered tick l) (append_assoc flight (f ∷ []) more)
    (sent_now from tick (flight ++ f ∷ []) packets (record {
      until = all_push (λ g. g.tick ≤ tick) flight f o.until (omega arith);
      ascends = IsNonDecreasingBy-push (λ (g : Flying). g.tick) flight f o.ascends (λ d some. all_get (λ g. g.tick ≤ tick) flight (length flight - 1) d o.until (omega (arith, some)));
    }))

ordered_served : (c : Config) (w : World) (f : Option Flying) → Ordered w.tick w.flight → Ordered (served c w f).tick (served c w f).flight
ordered_served c w None o = o
ordered_served c w (Some f) o = sent_now Server w.tick w.flight (out_of c w.tick w.server f.packet) o

ordered_resent : (c : Config) (w : World) (s : Option Session) → Ordered w.tick w.flight → Ordered (resent c w s).tick (resent c w s).flight
ordered_resent c w None o = o
ordered_resent c w (Some s) o = sent_now Server w.tick w.flight (block_packet c s ∷ []) o

ordered_crashed : (c : Config) (done : Bool) (w : World) (f : Option Flying) → Ordered w.tick w.flight → Ordered (crashed c done w f).tick (crashed c done w f).flight
ordered_crashed c done w None o = o
ordered_crashed c done w (Some f) o = o

ordered_faulted : (c : Config) (doubts : Bool) (w : World) (f : Option Flying) → Ordered w.tick w.flight → Ordered (faulted c doubts w f).tick (faulted c doubts w f).flight
ordered_faulted c doubts w None o = o
ordered_faulted c doubts w (Some f) o = sent_now Server w.tick w.flight (failure_out c f.packet) o

ordered_after : (c : Config) (w : World) (step : Step) → Ordered w.tick w.flight → Ordered (after c w step).tick (after c w step).flight
ordered_after c w Tick o = record { until = later_too w.tick w.flight o.until; ascends = o.ascends }
ordered_after c w (Send packet) o = sent_now Client w.tick w.flight (packet ∷ []) o
ordered_after c w (Serve id) o = ordered_served c w (slice_get w.flight id) o
ordered_after c w (Data number) o = ordered_resent c w (session_in number w.server.sessions) o
ordered_after c w (End number) o = o
ordered_after c w (Get id packet) o = o
ordered_after c w (Stray packet) o = sent_now Stranger w.tick w.flight (packet ∷ []) o
ordered_after c w (Crash id done) o = ordered_crashed c done w (slice_get w.flight id) o
ordered_after c w (Fault id doubts) o = ordered_faulted c doubts w (slice_get w.flight id) o
ordered_after c w (Settle done) o = o
ordered_after c w Fail o = o

ordered_run : (c : Config) (w : World) (steps : List Step) → Ordered w.tick w.flight → Ordered (run c w steps).tick (run c w steps).flight
ordered_run c w [] o = o
ordered_run c w (step ∷ steps) o = ordered_run c (after c w step) steps (ordered_after c w step o)

get_or-map : {A B : Type 0} (f : A → B) (xs : List A) (i : ℕ) (d : A) → get_or (map f xs) i (f d) ≡ f (get_or xs i d)
get_or-map f [] i d = refl
get_or-map f (x ∷ xs) zero d = refl
get_or-map f (x ∷ xs) (suc i) d = get_or-map f xs i d

length-map : {A B : Type 0} (f : A → B) (xs : List A) → length (map f xs) ≡ length xs
length-map f [] = refl
length-map f (x ∷ xs) = ap suc (length-map f xs)

-- where these packets are those in flight after a run
pub flight_ascends : (c : Config) (steps : List Step) (flight : List Flown) → (run c (start c) steps).flight ≡ map flying_of flight → IsNonDecreasingBy (λ (f : Flown). f.tick) flight
flight_ascends c steps flight is i j d le lt =
    let first : Ordered 0 [] = record { until = tt; ascends = λ a b e low within. absurd (omega (arith, within)) } in
    let o = ordered_run c (start c) steps first in
    let up = subst (λ (l : List Flying). IsNonDecreasingBy (λ (f : Flying). f.tick) l) is o.ascends i j (flying_of d) le (omega (arith, lt, length-map flying_of flight)) in
    let at = λ (k : ℕ). ap (λ (f : Flying). f.tick) (get_or-map flying_of flight k d) in
    omega (arith, up, at i, at j)

-- and none was sent later than the tick of that world
pub flight_until : (c : Config) (steps : List Step) (flight : List Flown) (tick : ℕ) → (run c (start c) steps).flight ≡ map flying_of flight → (run c (start c) steps).tick ≡ tick → AllByRecursion (λ f. f.tick ≤ tick) (map flying_of flight)
flight_until c steps flight tick is now =
    let first : Ordered 0 [] = record { until = tt; ascends = λ a b e low within. absurd (omega (arith, within)) } in
    let o = ordered_run c (start c) steps first in
    subst (λ (n : ℕ). AllByRecursion (λ f. f.tick ≤ n) (map flying_of flight)) now (subst (λ (l : List Flying). AllByRecursion (λ f. f.tick ≤ (run c (start c) steps).tick) l) is o.until)
