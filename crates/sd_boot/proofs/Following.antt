-- A lawful run over a network that loses, delays and repeats nothing, followed by its stages.
use Rattle.std.proofs.Common.{◌≡◌, ℕ, zero, suc, ◌+◌, ◌==◌, ◌<◌, ◌≤◌, Bool, true, false, cond, List, [], ◌∷◌, ◌++◌, length, map, Option, Some, None, Result, refl, sym, ◌∙◌, ap, subst, arith, append_assoc, length-append}
use Rattle.std.proofs.lemmas.Grind.{flat_map-append}
use Rattle.std.proofs.lemmas.List.{append-nil, take-append-le, take_all}
use Rattle.std.proofs.lemmas.Slice.Eq.{bytes_eq-Decides}
use Rattle.std.specs.Prelude.{slice_get, take, replicate}
use Rattle.std.specs.Int.{w32, to_be_bytes}
use Rattle.std.specs.Option.{option_map}
use Rattle.std.specs.List.{flat_map, enumerate_from, AllByRecursion}
use Rattle.sd_outside.specs.declared.packet.Mac.{Mac}
use Rattle.sd_outside.specs.declared.packet.Packet.{Packet}
use Rattle.sd_outside.specs.declared.packet.Packet.TheVariants.{Frame}
use Rattle.sd_rarp.specs.declared.frame.RarpFrame.{RarpFrame}
use Rattle.sd_rarp.specs.declared.frame.RarpFrame.TheVariants.{Reply}
use Rattle.sd_rarp.specs.declared.frame.RarpError.{RarpError}
use Rattle.sd_rarp.specs.Frame.{frame_bytes, fixed_part}
use Rattle.sd_rarp.specs.Answer.{is_mac, reply_with}
use Rattle.sd_rarp.proofs.RoundTrip.{reading-reply, reading-request}
use Rattle.sd_config.specs.declared.config.Config.{Config}
use Rattle.sd_config.specs.Config.{IsConfig}
use Rattle.sd_config.specs.Events.{Fates, fate_in}
use Rattle.sd_link.specs.World.{World, Flying, Sender, Client, Server, Stranger, start, sent_by}
use Rattle.sd_services.specs.Part.{Session, ServerPart}
use Rattle.sd_services.specs.Sessions.{session_in}
use Rattle.sd_services.specs.NfsCalls.{change_of}
use Rattle.sd_services.specs.Reply.{rarp_answer, as_frame, out_of, next_of}
use Rattle.sd_link.specs.Steps.{Step, Tick, Send, Serve, Settle, Data, End, Get, Entry, Sent, Served, Got, after, served, replies_to, sent_from, entries_of, run, record_of, Allowed, AllAllowed, goes_to_server, goes_to_client, reaches_server, reaches_client}
use Rattle.sd_link.specs.Parts.{sends_in, got_in}
use Rattle.sd_outside.specs.Streams.{IsPrefixOf}
use Rattle.sd_link.specs.Lawful.{InTurn, AllInTurn, AllGot, SendsSettled, to_server, to_client, id_at, served_at, got_at, due, due_to_server, due_to_client, copies_at}
use Rattle.sd_claims.specs.Rarp.{Learned, rarp_request, learned_from, learned_in, broadcast_mac}
use Rattle.sd_boot.proofs.Stages.{Stages, Goes, AllGo}
use Rattle.sd_boot.proofs.Unplanned.{IsCalmStep}

-- without fates each packet comes once, a tick after it was sent
abbrev pub plain : Fates
plain = fate_in []

same-tick : (t : ℕ) → (t == t) ≡ true
same-tick t = grind arith

-- ---- how many packets are due

abbrev one : (Sender → Packet → Bool) → ℕ → Flying → ℕ
one goes tick f = cond (goes f.from f.packet) (cond (f.tick + 1 == tick) 1 0) 0

abbrev pub count : (Sender → Packet → Bool) → ℕ → List Flying → ℕ
count goes tick [] = 0
count goes tick (f ∷ fs) = one goes tick f + count goes tick fs

count-append : (goes : Sender → Packet → Bool) (tick : ℕ) (xs ys : List Flying) → count goes tick (xs ++ ys) ≡ count goes tick xs + count goes tick ys
count-append goes tick [] ys = omega arith
count-append goes tick (x ∷ xs) ys = omega (arith, count-append goes tick xs ys)

due_counts : (goes : Sender → Packet → Bool) (tick id : ℕ) (flight : List Flying)
    → length (flat_map (λ e. cond (goes e.1.from e.1.packet) (copies_at tick (plain e.0) e) []) (enumerate_from id flight)) ≡ count goes tick flight
due_counts goes tick id [] = refl
due_counts goes tick id (f ∷ fs) =
    let rest = flat_map (λ e. cond (goes e.1.from e.1.packet) (copies_at tick (plain e.0) e) []) (enumerate_from (id + 1) fs) in
    length-append (cond (goes f.from f.packet) (copies_at tick (plain id) (id, f)) []) rest
    ∙ ap (λ (n : ℕ). n + length rest) (of (goes f.from f.packet) (f.tick + 1 == tick))
    ∙ ap (λ (n : ℕ). one goes tick f + n) (due_counts goes tick (id + 1) fs)
  where
    of : (a b : Bool) → length (cond a (map (λ (d : ℕ). id) (cond b (1 ∷ []) [])) []) ≡ cond a (cond b 1 0) 0
    of true true = refl
    of true false = refl
    of false true = refl
    of false false = refl

pub due_length : (goes : Sender → Packet → Bool) (tick : ℕ) (flight : List Flying) → length (due goes plain flight tick) ≡ count goes tick flight
due_length goes tick flight = due_counts goes tick 0 flight

-- what was sent until a tick isn't due two ticks later
none_later : (goes : Sender → Packet → Bool) (tick later : ℕ) (flight : List Flying) → AllByRecursion (λ f. f.tick ≤ tick) flight → tick + 1 < later → count goes later flight ≡ 0
none_later goes tick later [] all lt = refl
none_later goes tick later (f ∷ fs) all lt =
    let no : (f.tick + 1 == later) ≡ false = grind (arith, all.0) in
    let none : one goes later f ≡ 0 = ap (λ (b : Bool). cond (goes f.from f.packet) (cond b 1 0) 0) no ∙ of (goes f.from f.packet) in
    omega (arith, none, none_later goes tick later fs all.1 lt)
  where
    of : (a : Bool) → ◌≡◌ {A = ℕ} (cond a 0 0) 0
    of true = refl
    of false = refl

one_now : (goes : Sender → Packet → Bool) (f : Flying) → goes f.from f.packet ≡ true → one goes (f.tick + 1) f ≡ 1
one_now goes f is = ap (λ (a : Bool). cond a (cond (f.tick + 1 == f.tick + 1) 1 0) 0) is ∙ ap (λ (b : Bool). cond b 1 0) (same-tick (f.tick + 1))

one_early : (goes : Sender → Packet → Bool) (f : Flying) → one goes f.tick f ≡ 0
one_early goes f = let no : (f.tick + 1 == f.tick) ≡ false = grind arith in ap (λ (b : Bool). cond (goes f.from f.packet) (cond b 1 0) 0) no ∙ of (goes f.from f.packet)
  where
    of : (a : Bool) → ◌≡◌ {A = ℕ} (cond a 0 0) 0
    of true = refl
    of false = refl

one_other : (goes : Sender → Packet → Bool) (tick : ℕ) (f : Flying) → goes f.from f.packet ≡ false → one goes tick f ≡ 0
one_other goes tick f is = ap (λ (a : Bool). cond a (cond (f.tick + 1 == tick) 1 0) 0) is

-- ---- what came at a tick

served-more : (t : ℕ) (xs ys : List Entry) → length (served_at t (xs ++ ys)) ≡ length (served_at t xs) + length (served_at t ys)
served-more t xs ys = ap length (flat_map-append (λ (e : Entry). id_at t (to_server e)) xs ys) ∙ length-append (served_at t xs) (served_at t ys)

got-more : (t : ℕ) (xs ys : List Entry) → length (got_at t (xs ++ ys)) ≡ length (got_at t xs) + length (got_at t ys)
got-more t xs ys = ap length (flat_map-append (λ (e : Entry). id_at t (to_client e)) xs ys) ∙ length-append (got_at t xs) (got_at t ys)

-- ---- the one request and its reply

abbrev pub request_of : Config → Packet
request_of c = rarp_request c.client.mac

abbrev pub reply_of : Config → Packet
reply_of c = Frame (frame_bytes (Reply c.client.mac c.server.mac c.server.mac c.server.ip c.client.mac c.client.ip))

-- the client sends its request, the server its reply, and nobody else sends
abbrev pub IsFrom : Config → Sender → Packet → Type 0
IsFrom c Client packet = packet ≡ request_of c
IsFrom c Server packet = packet ≡ reply_of c
IsFrom c Stranger packet = ⊥

its_own : (a : Mac) → is_mac a a ≡ true
its_own a = (bytes_eq-Decides a.0 a.0).1 refl

-- the first six of these bytes
abbrev Starts : List ℕ → List ℕ → Type 0
Starts six bytes = (take 6 bytes ≡ six) × (6 ≤ length bytes)

starts_more : (six xs ys : List ℕ) → Starts six xs → Starts six (xs ++ ys)
starts_more six xs ys s = (take-append-le 6 xs ys s.1 ∙ s.0, omega (arith, length-append xs ys, s.1))

module _ (c : Config) (is : IsConfig c) where
  -- the request is answered
  answered : (tick : ℕ) (w : World) → out_of c tick w.server (request_of c) ≡ reply_of c ∷ []
  answered tick w =
      let mac = c.client.mac in
      let wide = is.client.mac.wide in
      ap (λ (r : Result RarpFrame RarpError). as_frame (rarp_answer c r)) (reading-request broadcast_mac mac mac mac refl wide wide wide)
      ∙ ap (λ (t : Bool). as_frame (reply_with (c.server.mac, c.server.ip) mac mac (option_map (λ (entry : Mac × ℕ). entry.1) (cond t (Some (mac, c.client.ip)) None)))) (its_own mac)

  -- the reply comes to the client
  reaches : reaches_client c (reply_of c) ≡ true
  reaches =
      let mac = c.client.mac.0 in
      let server = c.server.mac.0 in
      let none : Starts mac mac = (take_all 6 mac (omega (arith, is.client.mac.wide)), omega (arith, is.client.mac.wide)) in
      let all =
      starts_more mac _ (replicate 18 0) (starts_more mac _ (to_be_bytes w32 c.client.ip) (starts_more mac _ mac (starts_more mac _ (to_be_bytes w32 c.server.ip)
      (starts_more mac _ server (starts_more mac _ (fixed_part 4) (starts_more mac mac server none)))))) in
      (bytes_eq-Decides (take 6 (frame_bytes (Reply c.client.mac c.server.mac c.server.mac c.server.ip c.client.mac c.client.ip))) mac).1 all.0

  -- and tells it its address
  pub tells : learned_from c.client.mac (reply_of c) ≡ Some (record { address = c.client.ip; responder = c.server.ip })
  tells =
      let mac = c.client.mac in
      let told : Learned = record { address = c.client.ip; responder = c.server.ip } in
      ap (learned_in mac) (reading-reply mac c.server.mac c.server.mac c.server.ip mac c.client.ip is.client.mac.wide is.server.mac.wide is.server.mac.wide is.client.mac.wide (omega (arith, is.server.ip.1)) (omega (arith, is.client.ip.1)))
      ∙ ap (λ (t : Bool). cond t (Some told) None) (its_own mac)

  -- ---- the stages of a world and its record

  pub record Stands (w : World) (entries : List Entry) (s : Stages) : Type 0 where
    pub no_sessions : w.server.sessions ≡ []
    -- every packet is the request or its reply, and was sent
    pub packets : AllByRecursion (λ f. IsFrom c f.from f.packet) w.flight
    pub flown : AllByRecursion (λ f. f.tick ≤ w.tick) w.flight
    -- nothing came at a later tick
    pub past : (later : ℕ) → w.tick < later → (length (served_at later entries) ≡ 0) × (length (got_at later entries) ≡ 0)
    pub sent : count (goes_to_server c) (w.tick + 1) w.flight ≡ s.sent
    pub asked : length (served_at w.tick entries) + s.asked ≡ count (goes_to_server c) w.tick w.flight
    pub replied : count (goes_to_client c) (w.tick + 1) w.flight ≡ s.replied
    pub waiting : length (got_at w.tick entries) + s.waiting ≡ count (goes_to_client c) w.tick w.flight

  pub stands_start : Stands (start c) [] (record { sent = 0; asked = 0; replied = 0; waiting = 0 })
  stands_start = record { no_sessions = refl; packets = tt; flown = tt; past = λ later lt. (refl, refl); sent = refl; asked = refl; replied = refl; waiting = refl }

  all-append : {A : Type 0} (P : A → Type 0) (xs ys : List A) → AllByRecursion P xs → AllByRecursion P ys → AllByRecursion P (xs ++ ys)
  all-append P [] ys first second = second
  all-append P (x ∷ xs) ys first second = (first.0, all-append P xs ys first.1 second)

  later_too : (tick : ℕ) (flight : List Flying) → AllByRecursion (λ f. f.tick ≤ tick) flight → AllByRecursion (λ f. f.tick ≤ tick + 1) flight
  later_too tick [] all = tt
  later_too tick (f ∷ fs) all = (omega (arith, all.0), later_too tick fs all.1)

  found : {A : Type 0} (P : A → Type 0) (xs : List A) (i : ℕ) (x : A) → AllByRecursion P xs → slice_get xs i ≡ Some x → P x
  found P [] i x all e = absurd cc
  found P (y ∷ ys) zero x all e = subst P (the y x e) all.0
    where
      the : {A : Type 0} (y x : A) → Some y ≡ Some x → y ≡ x
      the y x e = cc
  found P (y ∷ ys) (suc i) x all e = found P ys i x all.1 e

  -- all that is due has come
  pub none_waits : (w : World) (entries : List Entry) (s : Stages) → Stands w entries s → AllGot c plain w entries → s.waiting ≡ 0
  none_waits w entries s at all = omega (arith, at.waiting, ap length all, due_length (goes_to_client c) w.tick w.flight)

  none_asked : (w : World) (entries : List Entry) (s : Stages) → Stands w entries s → served_at w.tick entries ≡ due_to_server c plain w → s.asked ≡ 0
  none_asked w entries s at all = omega (arith, at.asked, ap length all, due_length (goes_to_server c) w.tick w.flight)

  -- ---- one step

  -- the stages after a step, and how they came about
  pub record Stepped (w new : World) (entries more : List Entry) (step : Step) (s : Stages) : Type 0 where
    pub t : Stages
    pub goes : Goes s step t
    pub stands : Stands new (entries ++ more) t

  tick_stands : (w : World) (entries : List Entry) (s : Stages) → Stands w entries s → InTurn c plain w entries Tick → Stepped w (after c w Tick) entries [] Tick s
  tick_stands w entries s at turn =
      let t : Stages = record { sent = 0; asked = s.sent; replied = 0; waiting = s.replied } in
      let past = at.past (w.tick + 1) (omega arith) in
      record {
        t = t;
        goes = record { served = none_asked w entries s at turn.0.0; got = none_waits w entries s at turn.1; new_sent = refl; new_asked = refl; new_replied = refl; new_waiting = refl };
        stands =
            subst (λ (l : List Entry). Stands (after c w Tick) l t) (sym (append-nil entries))
            (record {
              no_sessions = at.no_sessions;
              packets = at.packets;
              flown = later_too w.tick w.flight at.flown;
              past = λ later lt. at.past later (omega (arith, lt));
              sent = none_later (goes_to_server c) w.tick (w.tick + 1 + 1) w.flight at.flown (omega arith);
              asked = omega (arith, past.0, at.sent);
              replied = none_later (goes_to_client c) w.tick (w.tick + 1 + 1) w.flight at.flown (omega arith);
              waiting = omega (arith, past.1, at.replied);
            });
      }

  send_stands : (w : World) (entries : List Entry) (s : Stages) (packet : Packet) → Stands w entries s → InTurn c plain w entries (Send packet) → AllGot c plain w entries → packet ≡ request_of c
      → Stepped w (after c w (Send packet)) entries (entries_of c w (Send packet)) (Send packet) s
  send_stands w entries s packet at turn settled is_request =
      let t : Stages = record { sent = s.sent + 1; asked = s.asked; replied = s.replied; waiting = s.waiting } in
      let f : Flying = record { from = Client; tick = w.tick; packet = packet } in
      let more = entries_of c w (Send packet) in
      let goes : goes_to_server c Client packet ≡ true = ap (λ (p : Packet). reaches_server c p) is_request in
      record {
        t = t;
        goes = record { served = none_asked w entries s at turn.0; got = none_waits w entries s at settled; new_sent = refl; new_asked = refl; new_replied = refl; new_waiting = refl };
        stands = record {
          no_sessions = at.no_sessions;
          packets = all-append (λ (g : Flying). IsFrom c g.from g.packet) w.flight (f ∷ []) at.packets (is_request, tt);
          flown = all-append (λ g. g.tick ≤ w.tick) w.flight (f ∷ []) at.flown (omega arith, tt);
          past = λ later lt. (
            omega (arith, served-more later entries more, (at.past later lt).0),
            omega (arith, got-more later entries more, (at.past later lt).1),
          );
          sent = omega (arith, count-append (goes_to_server c) (w.tick + 1) w.flight (f ∷ []), one_now (goes_to_server c) f goes, at.sent);
          asked = omega (arith, served-more w.tick entries more, count-append (goes_to_server c) w.tick w.flight (f ∷ []), one_early (goes_to_server c) f, at.asked);
          replied = omega (arith, count-append (goes_to_client c) (w.tick + 1) w.flight (f ∷ []), one_other (goes_to_client c) (w.tick + 1) f refl, at.replied);
          waiting = omega (arith, got-more w.tick entries more, count-append (goes_to_client c) w.tick w.flight (f ∷ []), one_early (goes_to_client c) f, at.waiting);
        };
      }

  -- a packet that goes to the server is the request
  asks_it : (from : Sender) (packet : Packet) → goes_to_server c from packet ≡ true → IsFrom c from packet → packet ≡ request_of c
  asks_it Client packet goes so = so
  asks_it Server packet goes so = absurd cc
  asks_it Stranger packet goes so = absurd so

  -- and one that goes to the client its reply
  replies_it : (from : Sender) (packet : Packet) → goes_to_client c from packet ≡ true → IsFrom c from packet → packet ≡ reply_of c
  replies_it Client packet goes so = absurd cc
  replies_it Server packet goes so = so
  replies_it Stranger packet goes so = absurd so

  served_one : (tick id n : ℕ) (packet : Packet) → length (served_at tick (Served tick id ∷ Sent tick n packet ∷ [])) ≡ 1
  served_one tick id n packet = ap (λ (b : Bool). length (cond b (id ∷ []) [] ++ [])) (same-tick tick)

  served_past : (later tick id n : ℕ) (packet : Packet) → tick < later → length (served_at later (Served tick id ∷ Sent tick n packet ∷ [])) ≡ 0
  served_past later tick id n packet lt = let no : (tick == later) ≡ false = grind arith in ap (λ (b : Bool). length (cond b (id ∷ []) [] ++ [])) no

  got_one : (tick id : ℕ) → length (got_at tick (Got tick id ∷ [])) ≡ 1
  got_one tick id = ap (λ (b : Bool). length (cond b (id ∷ []) [] ++ [])) (same-tick tick)

  got_past : (later tick id : ℕ) → tick < later → length (got_at later (Got tick id ∷ [])) ≡ 0
  got_past later tick id lt = let no : (tick == later) ≡ false = grind arith in ap (λ (b : Bool). length (cond b (id ∷ []) [] ++ [])) no

  -- the next in turn is one of those that are left
  one_left : (xs due : List ℕ) (id n count : ℕ) → IsPrefixOf (xs ++ id ∷ []) due → length xs + n ≡ count → length due ≡ count → (left : ℕ) × (left + 1 ≡ n)
  one_left xs due id n count front is wide =
      (length front.0, omega (arith, ap length front.1, length-append (xs ++ id ∷ []) front.0, length-append xs (id ∷ []), is, wide))

  -- a reply goes into flight
  reply_stands : (w : World) (entries : List Entry) (s : Stages) (id left : ℕ) → Stands w entries s → left + 1 ≡ s.asked
      → Stepped w (sent_by Server w (reply_of c ∷ [])) entries (Served w.tick id ∷ Sent w.tick (length w.flight) (reply_of c) ∷ []) (Serve id) s
  reply_stands w entries s id left at is_left =
      let t : Stages = record { sent = s.sent; asked = left; replied = s.replied + 1; waiting = s.waiting } in
      let f : Flying = record { from = Server; tick = w.tick; packet = reply_of c } in
      let more = Served w.tick id ∷ Sent w.tick (length w.flight) (reply_of c) ∷ [] in
      record {
        t = t;
        goes = record { new_sent = refl; new_asked = is_left; new_replied = refl; new_waiting = refl };
        stands = record {
          no_sessions = at.no_sessions;
          packets = all-append (λ (g : Flying). IsFrom c g.from g.packet) w.flight (f ∷ []) at.packets (refl, tt);
          flown = all-append (λ g. g.tick ≤ w.tick) w.flight (f ∷ []) at.flown (omega arith, tt);
          past = λ later lt. (
            omega (arith, served-more later entries more, (at.past later lt).0, served_past later w.tick id (length w.flight) (reply_of c) lt),
            omega (arith, got-more later entries more, (at.past later lt).1),
          );
          sent = omega (arith, count-append (goes_to_server c) (w.tick + 1) w.flight (f ∷ []), one_other (goes_to_server c) (w.tick + 1) f refl, at.sent);
          asked = omega (arith, is_left, served-more w.tick entries more, served_one w.tick id (length w.flight) (reply_of c), count-append (goes_to_server c) w.tick w.flight (f ∷ []), one_early (goes_to_server c) f, at.asked);
          replied = omega (arith, count-append (goes_to_client c) (w.tick + 1) w.flight (f ∷ []), one_now (goes_to_client c) f reaches, at.replied);
          waiting = omega (arith, got-more w.tick entries more, count-append (goes_to_client c) w.tick w.flight (f ∷ []), one_early (goes_to_client c) f, at.waiting);
        };
      }

  serve_stands : (w : World) (entries : List Entry) (s : Stages) (id : ℕ) → Stands w entries s → Allowed c w (Serve id) → InTurn c plain w entries (Serve id)
      → Stepped w (after c w (Serve id)) entries (entries_of c w (Serve id)) (Serve id) s
  unfolding change_of
  serve_stands w entries s id at allowed turn =
      let f = allowed.0 in
      let here = allowed.1.sent in
      let is_request : f.packet ≡ request_of c = asks_it f.from f.packet allowed.2 (found (λ (g : Flying). IsFrom c g.from g.packet) w.flight id f at.packets here) in
      let out : out_of c w.tick w.server f.packet ≡ reply_of c ∷ [] = ap (λ (p : Packet). out_of c w.tick w.server p) is_request ∙ answered w.tick w in
      let same : next_of c w.tick w.server f.packet ≡ w.server = ap (λ (p : Packet). next_of c w.tick w.server p) is_request in
      let new : sent_by Server w (reply_of c ∷ []) ≡ after c w (Serve id) =
      sym
      (ap (λ (o : Option Flying). served c w o) here
      ∙ ap (λ (part : ServerPart). sent_by Server (record w { server = part }) (out_of c w.tick w.server f.packet)) same
      ∙ ap (λ (l : List Packet). sent_by Server w l) out) in
      let more : Served w.tick id ∷ Sent w.tick (length w.flight) (reply_of c) ∷ [] ≡ entries_of c w (Serve id) =
      sym (ap (λ (o : Option Flying). Served w.tick id ∷ sent_from w.tick (length w.flight) (replies_to c w o)) here ∙ ap (λ (l : List Packet). Served w.tick id ∷ sent_from w.tick (length w.flight) l) out) in
      let left = one_left (served_at w.tick entries) (due_to_server c plain w) id s.asked (count (goes_to_server c) w.tick w.flight) turn at.asked (due_length (goes_to_server c) w.tick w.flight) in
      subst (λ (v : World). Stepped w v entries (entries_of c w (Serve id)) (Serve id) s) new
      (subst (λ (l : List Entry). Stepped w (sent_by Server w (reply_of c ∷ [])) entries l (Serve id) s) more
      (reply_stands w entries s id left.0 at left.1))

  -- nothing that the two ends send or await is changed
  settle_stands : (w : World) (entries : List Entry) (s : Stages) (done : Bool) → Stands w entries s → Stepped w (after c w (Settle done)) entries [] (Settle done) s
  settle_stands w entries s done at = record {
    t = s;
    goes = record { new_sent = refl; new_asked = refl; new_replied = refl; new_waiting = refl };
    stands =
        subst (λ (l : List Entry). Stands (after c w (Settle done)) l s) (sym (append-nil entries))
        (record {
          no_sessions = at.no_sessions;
          packets = at.packets;
          flown = at.flown;
          past = at.past;
          sent = at.sent;
          asked = at.asked;
          replied = at.replied;
          waiting = at.waiting;
        });
  }

  get_stands : (w : World) (entries : List Entry) (s : Stages) (id : ℕ) (packet : Packet) → Stands w entries s → InTurn c plain w entries (Get id packet)
      → Stepped w w entries (Got w.tick id ∷ []) (Get id packet) s
  get_stands w entries s id packet at turn =
      let left = one_left (got_at w.tick entries) (due_to_client c plain w) id s.waiting (count (goes_to_client c) w.tick w.flight) turn.1 at.waiting (due_length (goes_to_client c) w.tick w.flight) in
      let t : Stages = record { sent = s.sent; asked = s.asked; replied = s.replied; waiting = left.0 } in
      let more = Got w.tick id ∷ [] in
      record {
        t = t;
        goes = record { served = none_asked w entries s at turn.0.0; new_sent = refl; new_asked = refl; new_replied = refl; new_waiting = left.1 };
        stands = record {
          no_sessions = at.no_sessions;
          packets = at.packets;
          flown = at.flown;
          past = λ later lt. (
            omega (arith, served-more later entries more, (at.past later lt).0),
            omega (arith, got-more later entries more, (at.past later lt).1, got_past later w.tick id lt),
          );
          sent = at.sent;
          asked = omega (arith, served-more w.tick entries more, at.asked);
          replied = at.replied;
          waiting = omega (arith, left.1, got-more w.tick entries more, got_one w.tick id, at.waiting);
        };
      }

  -- ---- all steps

  -- the stages at the end of these steps; and what the client got is the reply
  pub record Followed (w : World) (entries : List Entry) (s : Stages) (steps : List Step) : Type 0 where
    pub t : Stages
    pub goes : AllGo s steps t
    pub stands : Stands (run c w steps) (entries ++ record_of c w steps) t
    pub replies : AllByRecursion (λ p. p ≡ reply_of c) (got_in steps)

  -- a step before others
  then_followed : (w : World) (entries : List Entry) (s : Stages) (step : Step) (steps : List Step) (o : Stepped w (after c w step) entries (entries_of c w step) step s)
      → Followed (after c w step) (entries ++ entries_of c w step) o.t steps → AllByRecursion (λ p. p ≡ reply_of c) (got_in (step ∷ steps)) → Followed w entries s (step ∷ steps)
  then_followed w entries s step steps o r replies = record {
    t = r.t;
    goes = (o.t, o.goes, r.goes);
    stands = subst (λ (l : List Entry). Stands (run c (after c w step) steps) l r.t) (append_assoc entries (entries_of c w step) (record_of c (after c w step) steps)) r.stands;
    replies = replies;
  }

  -- where there are no sessions, none is found
  no_session : (w : World) (number : ℕ) (session : Session) → w.server.sessions ≡ [] → session_in number w.server.sessions ≡ Some session → ⊥
  no_session w number session none found = never (sym (ap (session_in number) none) ∙ found)
    where
      never : None ≡ Some session → ⊥
      never is = cc

  pub follow : (w : World) (entries : List Entry) (s : Stages) (steps : List Step) → Stands w entries s → AllByRecursion IsCalmStep steps → AllAllowed c w steps → AllInTurn c plain w entries steps
      → SendsSettled c plain w entries steps → AllByRecursion (λ p. p ≡ request_of c) (sends_in steps) → Followed w entries s steps
  follow w entries s [] at calm allowed turns settled asks =
      record { t = s; goes = refl; stands = subst (λ (l : List Entry). Stands w l s) (sym (append-nil entries)) at; replies = tt }
  follow w entries s (Tick ∷ steps) at calm allowed turns settled asks =
      let o = tick_stands w entries s at turns.0 in
      let r = follow (after c w Tick) (entries ++ entries_of c w Tick) o.t steps o.stands calm.1 allowed.1 turns.1 settled asks in
      then_followed w entries s Tick steps o r r.replies
  follow w entries s (Send packet ∷ steps) at calm allowed turns settled asks =
      let o = send_stands w entries s packet at turns.0 settled.0 asks.0 in
      let r = follow (after c w (Send packet)) (entries ++ entries_of c w (Send packet)) o.t steps o.stands calm.1 allowed.1 turns.1 settled.1 asks.1 in
      then_followed w entries s (Send packet) steps o r r.replies
  follow w entries s (Serve id ∷ steps) at calm allowed turns settled asks =
      let o = serve_stands w entries s id at allowed.0 turns.0 in
      let r = follow (after c w (Serve id)) (entries ++ entries_of c w (Serve id)) o.t steps o.stands calm.1 allowed.1 turns.1 settled asks in
      then_followed w entries s (Serve id) steps o r r.replies
  follow w entries s (Settle done ∷ steps) at calm allowed turns settled asks =
      let o = settle_stands w entries s done at in
      let r = follow (after c w (Settle done)) (entries ++ entries_of c w (Settle done)) o.t steps o.stands calm.1 allowed.1 turns.1 settled asks in
      then_followed w entries s (Settle done) steps o r r.replies
  follow w entries s (Data number ∷ steps) at calm allowed turns settled asks = absurd (no_session w number allowed.0.0 at.no_sessions allowed.0.1.found)
  follow w entries s (End number ∷ steps) at calm allowed turns settled asks = absurd (no_session w number allowed.0.0 at.no_sessions allowed.0.1.found)
  follow w entries s (Get id packet ∷ steps) at calm allowed turns settled asks =
      let o = get_stands w entries s id packet at turns.0 in
      let r = follow w (entries ++ entries_of c w (Get id packet)) o.t steps o.stands calm.1 allowed.1 turns.1 settled asks in
      let f = allowed.0.0 in
      let is_reply : packet ≡ reply_of c = sym allowed.0.3 ∙ replies_it f.from f.packet allowed.0.2 (found (λ (g : Flying). IsFrom c g.from g.packet) w.flight id f at.packets allowed.0.1.sent) in
      then_followed w entries s (Get id packet) steps o r (is_reply, r.replies)
  follow w entries s (step ∷ steps) at calm allowed turns settled asks = absurd calm.0
