-- What holds of every packet in flight and of every session, where it holds of what each step adds.
use Rattle.std.proofs.Common.{◌≡◌, ℕ, zero, suc, ◌-◌, ◌<◌, ◌≤◌, ◌^◌, Bool, true, false, cond, List, [], ◌∷◌, ◌++◌, length, map, drop, filter, Option, Some, None, Result, Ok, Err, refl, sym, ◌∙◌, ap, subst, arith, inl, inr, ◌⊎◌}
use Rattle.std.proofs.lemmas.Bool.{ltb-false, ltb-true, leb-true}
use Rattle.std.proofs.lemmas.List.{append-nil}
use Rattle.std.specs.Prelude.{slice_get, not, nat_lt, nat_le, ◌==◌, ◌&&◌}
use Rattle.std.specs.List.{All, AllByRecursion, find}
use Rattle.sd_outside.specs.declared.packet.Addr.{Addr}
use Rattle.sd_outside.specs.declared.packet.Packet.{Packet}
use Rattle.sd_outside.specs.declared.packet.Packet.TheVariants.{Frame, Udp}
use Rattle.sd_tftp.specs.declared.packet.TftpPacket.{TftpPacket}
use Rattle.sd_tftp.specs.declared.packet.TftpPacket.TheVariants.{Rrq, Wrq, Block, Ack, Error}
use Rattle.sd_tftp.specs.declared.packet.TftpError.{TftpError}
use Rattle.sd_tftp.specs.Reading.{reading}
use Rattle.sd_config.specs.declared.config.Config.{Config}
use Rattle.sd_config.specs.Config.{IsWithin}
use Rattle.sd_config.specs.Program.{boot_file}
use Rattle.sd_link.specs.World.{World, Flying, Sender, Client, Server, Stranger, flying, sent_by}
use Rattle.sd_services.specs.Part.{Session, ServerPart, Replied, silence}
use Rattle.sd_tftp.specs.Grammar.{tftp_port}
use Rattle.sd_services.specs.Sessions.{is_session_port, tftp_packet, tftp_error, block_packet, present_block, session_in, with_session, sent_again, next_block, new_session, is_octet, is_session_of, asked_for, requested, ended, acknowledged, heard, not_known, heard_by, transferred, tftp_reply}
use Rattle.sd_nfs_msg.specs.Layout.{nfs_port}
use Rattle.sd_services.specs.NfsCalls.{is_swap_access}
use Rattle.sd_services.specs.RpcReply.{is_rpc_port, rpc_out, rpc_reply}
use Rattle.sd_services.specs.Failing.{failures_to, failure_out}
use Rattle.sd_services.specs.Reply.{rarp_out, is_heard, reply, out_of}
use Rattle.sd_link.specs.Steps.{Step, Send, Stray, Serve, Crash, Fault, Data, End, Get, Allowed, after, served, crashed, faulted, resent, run, AllAllowed, goes_to_client, IsStrangers}
use Rattle.sd_link.specs.Parts.{sends_in, got_in}
use Rattle.sd_link.specs.Requests.{AsksOnlyFor, KeepsOffRpc}
use Rattle.sd_config.proofs.Lists.{all_append, all_drop, all_filter, all_map, all_found, all_at, all_split}
use Rattle.sd_services.proofs.SwapAccess.{is_to_nfs_port}
use Rattle.sd_link.proofs.Histories.{sends-append}

-- ---- lists

get_front : {A : Type 0} (xs ys : List A) (i : ℕ) (x : A) → slice_get xs i ≡ Some x → slice_get (xs ++ ys) i ≡ Some x
get_front [] ys i x e = absurd (cc)
get_front (y ∷ xs) ys zero x e = e
get_front (y ∷ xs) ys (suc i) x e = get_front xs ys i x e

-- ---- nothing leaves the flight

abbrev Grown : World → World → Type 0
Grown w v = (more : List Flying) × (v.flight ≡ w.flight ++ more)

grown_not : (w : World) → Grown w w
grown_not w = ([], sym (append-nil w.flight))

grown_by : (w : World) (from : Sender) (packets : List Packet) → Grown w (sent_by from w packets)
grown_by w from packets = (map (flying from w.tick) packets, refl)

grown_served : (c : Config) (w : World) (f : Option Flying) → Grown w (served c w f)
grown_served c w None = grown_not w
grown_served c w (Some f) = (map (flying Server w.tick) (out_of c w.tick w.server f.packet), refl)

grown_crashed : (c : Config) (done : Bool) (w : World) (f : Option Flying) → Grown w (crashed c done w f)
grown_crashed c done w None = grown_not w
grown_crashed c done w (Some f) = grown_not w

grown_faulted : (c : Config) (doubts : Bool) (w : World) (f : Option Flying) → Grown w (faulted c doubts w f)
grown_faulted c doubts w None = grown_not w
grown_faulted c doubts w (Some f) = (map (flying Server w.tick) (failure_out c f.packet), refl)

grown_resent : (c : Config) (w : World) (s : Option Session) → Grown w (resent c w s)
grown_resent c w None = grown_not w
grown_resent c w (Some s) = (record { from = Server; tick = w.tick; packet = block_packet c s } ∷ [], refl)

grown_after : (c : Config) (w : World) (step : Step) → Grown w (after c w step)
grown_after c w (Send packet) = grown_by w Client (packet ∷ [])
grown_after c w (Stray packet) = grown_by w Stranger (packet ∷ [])
grown_after c w (Serve id) = grown_served c w (slice_get w.flight id)
grown_after c w (Crash id done) = grown_crashed c done w (slice_get w.flight id)
grown_after c w (Fault id doubts) = grown_faulted c doubts w (slice_get w.flight id)
grown_after c w (Data number) = grown_resent c w (session_in number w.server.sessions)
grown_after c w step = grown_not w

stays_after : (c : Config) (w : World) (step : Step) (id : ℕ) (f : Flying) → slice_get w.flight id ≡ Some f → slice_get (after c w step).flight id ≡ Some f
stays_after c w step id f e =
    let g = grown_after c w step in
    ap (λ (l : List Flying). slice_get l id) g.1 ∙ get_front w.flight g.0 id f e

-- What was sent stays in flight.
pub stays_in_flight : (c : Config) (w : World) (steps : List Step) (id : ℕ) (f : Flying) → slice_get w.flight id ≡ Some f → slice_get (run c w steps).flight id ≡ Some f
stays_in_flight c w [] id f e = e
stays_in_flight c w (step ∷ steps) id f e = stays_in_flight c (after c w step) steps id f (stays_after c w step id f e)

-- Who asks only for one file has asked for no other before.
pub asked_before : (c : Config) (w : World) (steps : List Step) (me : Addr) (name : List ℕ) → AsksOnlyFor me name (run c w steps) → AsksOnlyFor me name w
asked_before c w steps me name asks id f to body asked mode e = asks id f to body asked mode (stays_in_flight c w steps id f e)

-- Who keeps off the RPC ports has kept off before.
pub kept_off_before : (c : Config) (w : World) (steps : List Step) (me : Addr) → KeepsOffRpc me (run c w steps) → KeepsOffRpc me w
kept_off_before c w steps me keeps id f to body e = keeps id f to body (stays_in_flight c w steps id f e)

-- ---- what the server adds

-- the ports from which the server answers
abbrev pub IsTftpPort : ℕ → Type 0
IsTftpPort port = (port ≡ 69) ⊎ IsWithin 4096 8191 port

-- P holds of each packet that the server sends and Q of each session, where R holds of who asked and for which name, and O of who
-- called at which port and with which body.
pub record Rules (c : Config) (P : Packet → Type 0) (Q : Session → Type 0) (R : Addr → List ℕ → Type 0) (O : Addr → ℕ → List ℕ → Type 0) : Type 0 where
  pub frames : (bytes : List ℕ) → AllByRecursion P (rarp_out c bytes)
  pub errors : (port : ℕ) (to : Addr) (code : ℕ) → IsTftpPort port → code < 2 ^ 16 → P (tftp_packet c port to (Error code []))
  pub replies : (part : ServerPart) (from : Addr) (port : ℕ) (body : List ℕ) → is_rpc_port port ≡ true → O from port body → AllByRecursion P (rpc_out c part from port body)
  pub failures : (from : Addr) (body : List ℕ) → O from nfs_port body → AllByRecursion P (failures_to c from body)
  pub blocks : (s : Session) → Q s → P (block_packet c s)
  pub first : (part : ServerPart) (tick : ℕ) (from : Addr) (name bytes : List ℕ) → R from name → boot_file c name ≡ Some bytes → Q (new_session part tick from name)
  pub again : (tick : ℕ) (s : Session) → Q s → Q (sent_again tick s)
  pub onward : (tick : ℕ) (s : Session) → Q s → 512 ≤ length (present_block c s) → Q (next_block tick s)

-- a request for a file is such
abbrev pub Requests : (Addr → List ℕ → Type 0) → Packet → Type 0
Requests R packet = (from to : Addr) (body name mode : List ℕ) → packet ≡ Udp from to body → reading body ≡ Ok (Rrq name mode) → R from name

-- a call of an RPC program is such
abbrev pub Calls : (Addr → ℕ → List ℕ → Type 0) → Packet → Type 0
Calls O packet = (from to : Addr) (body : List ℕ) → packet ≡ Udp from to body → is_rpc_port to.port ≡ true → O from to.port body

-- what the packet asks is such
pub record Asks (R : Addr → List ℕ → Type 0) (O : Addr → ℕ → List ℕ → Type 0) (packet : Packet) : Type 0 where
  pub requests : Requests R packet
  pub calls : Calls O packet

-- each packet in flight asks so
abbrev pub AllAsk : (Addr → List ℕ → Type 0) → (Addr → ℕ → List ℕ → Type 0) → World → Type 0
AllAsk R O w = (id : ℕ) (f : Flying) → slice_get w.flight id ≡ Some f → Asks R O f.packet

-- what is sent, and the sessions then
abbrev pub Fine : (Packet → Type 0) → (Session → Type 0) → Replied → Type 0
Fine P Q r = AllByRecursion P r.out × AllByRecursion Q r.next.sessions

-- what was sent by the client, by the server, and by a stranger
abbrev pub SentFine : Config → (Packet → Type 0) → (Packet → Type 0) → Sender → Packet → Type 0
SentFine c S P Client packet = S packet
SentFine c S P Server packet = P packet
SentFine c S P Stranger packet = IsStrangers c packet

abbrev pub FlyingFine : Config → (Packet → Type 0) → (Packet → Type 0) → Flying → Type 0
FlyingFine c S P f = SentFine c S P f.from f.packet

-- what comes to the client is of the server or of a stranger
abbrev pub GotFine : Config → (Packet → Type 0) → Packet → Type 0
GotFine c P packet = P packet ⊎ IsStrangers c packet

-- S holds of each packet of the client in flight, P of each of the server, and Q of each session.
abbrev pub Keeps : Config → (Packet → Type 0) → (Packet → Type 0) → (Session → Type 0) → World → Type 0
Keeps c S P Q w = AllByRecursion (FlyingFine c S P) w.flight × AllByRecursion Q w.server.sessions

module _ (c : Config) (P : Packet → Type 0) (Q : Session → Type 0) (R : Addr → List ℕ → Type 0) (O : Addr → ℕ → List ℕ → Type 0) (k : Rules c P Q R O) where
  erred : (part : ServerPart) (port : ℕ) (to : Addr) (code : ℕ) → IsTftpPort port → code < 2 ^ 16 → AllByRecursion Q part.sessions → Fine P Q (record { out = tftp_error c port to code; next = part })
  erred part port to code is lt q = ((k.errors port to code is lt, tt), q)

  -- ---- port 69

  asked_fine : (tick : ℕ) (part : ServerPart) (from : Addr) (name : List ℕ) (o : Option (List ℕ)) → R from name → boot_file c name ≡ o → AllByRecursion Q part.sessions → Fine P Q (asked_for c tick part from name o)
  asked_fine tick part from name None r is q = erred part tftp_port from 1 (inl refl) (omega arith) q
  asked_fine tick part from name (Some bytes) r is q =
      let s = k.first part tick from name bytes r is in
      ((k.blocks (new_session part tick from name) s, tt), all_append Q (drop (length part.sessions - 15) part.sessions) (new_session part tick from name ∷ []) (all_drop Q (length part.sessions - 15) part.sessions q) (s, tt))

  read_fine : (tick : ℕ) (part : ServerPart) (from : Addr) (name : List ℕ) (octet : Bool) → R from name → AllByRecursion Q part.sessions
      → Fine P Q (cond octet (asked_for c tick part from name (boot_file c name)) (record { out = tftp_error c tftp_port from 4; next = part }))
  read_fine tick part from name true r q = asked_fine tick part from name (boot_file c name) r refl q
  read_fine tick part from name false r q = erred part tftp_port from 4 (inl refl) (omega arith) q

  requested_fine : (tick : ℕ) (part : ServerPart) (from : Addr) (o : Result TftpPacket TftpError) → ((name mode : List ℕ) → o ≡ Ok (Rrq name mode) → R from name) → AllByRecursion Q part.sessions
      → Fine P Q (requested c tick part from o)
  requested_fine tick part from (Ok (Rrq name mode)) r q = read_fine tick part from name (is_octet mode) (r name mode refl) q
  requested_fine tick part from (Ok (Wrq name mode)) r q = erred part tftp_port from 2 (inl refl) (omega arith) q
  requested_fine tick part from (Ok (Block n body)) r q = (tt, q)
  requested_fine tick part from (Ok (Ack n)) r q = (tt, q)
  requested_fine tick part from (Ok (Error code message)) r q = (tt, q)
  requested_fine tick part from (Err why) r q = (tt, q)

  -- ---- a session's port

  put_fine : (new : Session) (sessions : List Session) → Q new → AllByRecursion Q sessions → AllByRecursion Q (with_session new sessions)
  put_fine new sessions n q = all_map Q Q (λ s. cond (s.number == new.number) new s) sessions (λ s h. of s (s.number == new.number) h) q
    where
      of : (s : Session) (b : Bool) → Q s → Q (cond b new s)
      of s true h = n
      of s false h = h

  ended_fine : (part : ServerPart) (s : Session) → AllByRecursion Q part.sessions → Fine P Q (ended part s)
  ended_fine part s q = (tt, all_filter Q (λ r. not (r.number == s.number)) part.sessions q)

  acknowledged_fine : (tick : ℕ) (part : ServerPart) (s : Session) → Q s → AllByRecursion Q part.sessions → Fine P Q (acknowledged c tick part s)
  acknowledged_fine tick part s h q = of (nat_lt (length (present_block c s)) 512) refl
    where
      of : (b : Bool) → nat_lt (length (present_block c s)) 512 ≡ b
          → Fine P Q (cond b (ended part s) (record { out = block_packet c (next_block tick s) ∷ []; next = record part { sessions = with_session (next_block tick s) part.sessions } }))
      of true e = ended_fine part s q
      of false e =
          let n = k.onward tick s h (ltb-false (length (present_block c s)) 512 e) in
          ((k.blocks (next_block tick s) n, tt), put_fine (next_block tick s) part.sessions n q)

  heard_fine : (tick : ℕ) (part : ServerPart) (s : Session) (packet : TftpPacket) → Q s → AllByRecursion Q part.sessions → Fine P Q (heard c tick part s packet)
  heard_fine tick part s (Ack n) h q = of (n == s.block)
    where
      of : (b : Bool) → Fine P Q (cond b (acknowledged c tick part s) (silence part))
      of true = acknowledged_fine tick part s h q
      of false = (tt, q)
  heard_fine tick part s (Error code message) h q = ended_fine part s q
  heard_fine tick part s (Block n body) h q = (tt, q)
  heard_fine tick part s (Rrq name mode) h q = (tt, q)
  heard_fine tick part s (Wrq name mode) h q = (tt, q)

  not_known_fine : (part : ServerPart) (port : ℕ) (from : Addr) (packet : TftpPacket) → IsTftpPort port → AllByRecursion Q part.sessions → Fine P Q (not_known c part port from packet)
  not_known_fine part port from (Error code message) is q = (tt, q)
  not_known_fine part port from (Ack n) is q = erred part port from 5 is (omega arith) q
  not_known_fine part port from (Block n body) is q = erred part port from 5 is (omega arith) q
  not_known_fine part port from (Rrq name mode) is q = erred part port from 5 is (omega arith) q
  not_known_fine part port from (Wrq name mode) is q = erred part port from 5 is (omega arith) q

  heard_by_fine : (tick : ℕ) (part : ServerPart) (port : ℕ) (from : Addr) (packet : TftpPacket) (o : Option Session) → find (is_session_of port from) part.sessions ≡ o → IsTftpPort port → AllByRecursion Q part.sessions
      → Fine P Q (heard_by c tick part port from packet o)
  heard_by_fine tick part port from packet (Some s) e is q = heard_fine tick part s packet (all_found Q (is_session_of port from) part.sessions s q e) q
  heard_by_fine tick part port from packet None e is q = not_known_fine part port from packet is q

  transferred_fine : (tick : ℕ) (part : ServerPart) (port : ℕ) (from : Addr) (o : Result TftpPacket TftpError) → IsTftpPort port → AllByRecursion Q part.sessions → Fine P Q (transferred c tick part port from o)
  transferred_fine tick part port from (Ok packet) is q = heard_by_fine tick part port from packet (find (is_session_of port from) part.sessions) refl is q
  transferred_fine tick part port from (Err why) is q = (tt, q)

  and_first : (a b : Bool) → a && b ≡ true → a ≡ true
  and_first true b e = refl
  and_first false b e = absurd (cc)

  and_second : (a b : Bool) → a && b ≡ true → b ≡ true
  and_second true b e = e
  and_second false b e = absurd (cc)

  session_port_is : (port : ℕ) → is_session_port port ≡ true → IsTftpPort port
  session_port_is port e =
      let low = leb-true 4096 port (and_first (nat_le 4096 port) (nat_lt port 8192) e) in
      let high = ltb-true port 8192 (and_second (nat_le 4096 port) (nat_lt port 8192) e) in
      inr (low, omega (arith, high))

  tftp_fine : (tick : ℕ) (part : ServerPart) (from : Addr) (port : ℕ) (body : List ℕ) → ((name mode : List ℕ) → reading body ≡ Ok (Rrq name mode) → R from name) → AllByRecursion Q part.sessions
      → Fine P Q (tftp_reply c tick part from port body)
  tftp_fine tick part from port body r q = of (port == tftp_port)
    where
      other : (b : Bool) → is_session_port port ≡ b → Fine P Q (cond b (transferred c tick part port from (reading body)) (silence part))
      other true e = transferred_fine tick part port from (reading body) (session_port_is port e) q
      other false e = (tt, q)

      of : (b : Bool) → Fine P Q (cond b (requested c tick part from (reading body)) (cond (is_session_port port) (transferred c tick part port from (reading body)) (silence part)))
      of true = requested_fine tick part from (reading body) r q
      of false = other (is_session_port port) refl

  -- what the server does with a packet
  pub reply_fine : (tick : ℕ) (part : ServerPart) (packet : Packet) → Asks R O packet → AllByRecursion Q part.sessions → Fine P Q (reply c tick part packet)
  reply_fine tick part (Frame bytes) a q = (k.frames bytes, q)
  reply_fine tick part (Udp src dst body) a q = of (is_heard c dst)
    where
      at : (b : Bool) → is_rpc_port dst.port ≡ b → Fine P Q (cond b (rpc_reply c part src dst.port body) (tftp_reply c tick part src dst.port body))
      at true e = (k.replies part src dst.port body e (a.calls src dst body refl e), q)
      at false e = tftp_fine tick part src dst.port body (λ name mode e. a.requests src dst body name mode refl e) q

      of : (b : Bool) → Fine P Q (cond b (cond (is_rpc_port dst.port) (rpc_reply c part src dst.port body) (tftp_reply c tick part src dst.port body)) (silence part))
      of true = at (is_rpc_port dst.port) refl
      of false = (tt, q)

  -- ---- steps

  -- what the server answers where its disk fails
  failed_fine : (packet : Packet) → is_swap_access c packet ≡ true → Asks R O packet → AllByRecursion P (failure_out c packet)
  failed_fine (Frame bytes) swap a = tt
  failed_fine (Udp src dst body) swap a =
      let at = is_to_nfs_port c src dst body swap in
      k.failures src body (subst (λ (n : ℕ). O src n body) at (a.calls src dst body refl (ap is_rpc_port at)))

  module _ (S : Packet → Type 0) where
    flown_fine : (tick : ℕ) (packets : List Packet) → AllByRecursion P packets → AllByRecursion (FlyingFine c S P) (map (flying Server tick) packets)
    flown_fine tick [] all = tt
    flown_fine tick (p ∷ ps) all = (all.0, flown_fine tick ps all.1)

    keeps_served : (w : World) (id : ℕ) (o : Option Flying) → slice_get w.flight id ≡ o → AllAsk R O w → Keeps c S P Q w → Keeps c S P Q (served c w o)
    keeps_served w id None e r h = h
    keeps_served w id (Some f) e r h =
        let fine = reply_fine w.tick w.server f.packet (r id f e) h.1 in
        (all_append (FlyingFine c S P) w.flight _ h.0 (flown_fine w.tick (out_of c w.tick w.server f.packet) fine.0), fine.1)

    -- a server that is opened again has no session
    keeps_crashed : (w : World) (done : Bool) (o : Option Flying) → Keeps c S P Q w → Keeps c S P Q (crashed c done w o)
    keeps_crashed w done None h = h
    keeps_crashed w done (Some f) h = (h.0, tt)

    keeps_faulted : (w : World) (id : ℕ) (doubts : Bool) (f : Flying) → slice_get w.flight id ≡ Some f → is_swap_access c f.packet ≡ true → AllAsk R O w → Keeps c S P Q w → Keeps c S P Q (faulted c doubts w (Some f))
    keeps_faulted w id doubts f e swap r h =
        (all_append (FlyingFine c S P) w.flight _ h.0 (flown_fine w.tick (failure_out c f.packet) (failed_fine f.packet swap (r id f e))), h.1)

    keeps_resent : (w : World) (number : ℕ) (o : Option Session) → session_in number w.server.sessions ≡ o → Keeps c S P Q w → Keeps c S P Q (resent c w o)
    keeps_resent w number None e h = h
    keeps_resent w number (Some s) e h =
        let q = all_found Q (λ r. r.number == number) w.server.sessions s h.1 e in
        (all_append (FlyingFine c S P) w.flight _ h.0 (k.blocks s q, tt), put_fine (sent_again w.tick s) w.server.sessions (k.again w.tick s q) h.1)

    keeps_step : (w : World) (step : Step) → Keeps c S P Q w → AllByRecursion S (sends_in (step ∷ [])) → AllAsk R O w → Allowed c w step → Keeps c S P Q (after c w step)
    keeps_step w (Send packet) h s r ok = (all_append (FlyingFine c S P) w.flight _ h.0 (s.0, tt), h.1)
    keeps_step w (Stray packet) h s r ok = (all_append (FlyingFine c S P) w.flight _ h.0 (ok, tt), h.1)
    keeps_step w (Serve id) h s r ok = keeps_served w id (slice_get w.flight id) refl r h
    keeps_step w (Crash id done) h s r ok = keeps_crashed w done (slice_get w.flight id) h
    keeps_step w (Fault id doubts) h s r ok =
        subst (λ (o : Option Flying). Keeps c S P Q (faulted c doubts w o)) (sym ok.1.sent) (keeps_faulted w id doubts ok.0 ok.1.sent ok.3 r h)
    keeps_step w (Data number) h s r ok = keeps_resent w number (session_in number w.server.sessions) refl h
    keeps_step w (End number) h s r ok = (h.0, all_filter Q (λ s. not (s.number == number)) w.server.sessions h.1)
    keeps_step w step h s r ok = h

    -- what comes to the client
    comes : (from : Sender) (packet : Packet) → goes_to_client c from packet ≡ true → SentFine c S P from packet → GotFine c P packet
    comes Client packet goes h = absurd (cc)
    comes Server packet goes h = inl h
    comes Stranger packet goes h = inr h

    -- K holds of a world and of the steps to come. It tells what the packets in flight ask, and holds further on.
    record Knows (K : World → List Step → Type 0) : Type 0 where
      known : (w : World) (steps : List Step) → K w steps → Keeps c S P Q w → AllAsk R O w
      onward : (w : World) (step : Step) (steps : List Step) → K w (step ∷ steps) → K (after c w step) steps

    -- what is sent in a step and then
    sent_apart : (step : Step) (steps : List Step) → AllByRecursion S (sends_in (step ∷ steps)) → AllByRecursion S (sends_in (step ∷ [])) × AllByRecursion S (sends_in steps)
    sent_apart step steps s = all_split S (sends_in (step ∷ [])) (sends_in steps) (subst (AllByRecursion S) (sends-append (step ∷ []) steps) s)

    module _ (K : World → List Step → Type 0) (n : Knows K) where
      keeps_on : (w : World) (steps : List Step) → Keeps c S P Q w → AllByRecursion S (sends_in steps) → K w steps → AllAllowed c w steps → Keeps c S P Q (run c w steps)
      keeps_on w [] h s r all = h
      keeps_on w (step ∷ steps) h s r all =
          let sent = sent_apart step steps s in
          keeps_on (after c w step) steps (keeps_step w step h sent.0 (n.known w (step ∷ steps) r h) all.0) sent.1 (n.onward w step steps r) all.1

      got_on : (w : World) (steps : List Step) → Keeps c S P Q w → AllByRecursion S (sends_in steps) → K w steps → AllAllowed c w steps → AllByRecursion (GotFine c P) (got_in steps)
      got_on w [] h s r all = tt
      got_on w (Get id packet ∷ steps) h s r all =
          let a = all.0 in
          let f = a.0 in
          (subst (GotFine c P) a.3 (comes f.from f.packet a.2 (all_at (FlyingFine c S P) w.flight id f h.0 a.1.sent)), got_on w steps h s (n.onward w (Get id packet) steps r) all.1)
      got_on w (step ∷ steps) h s r all =
          let sent = sent_apart step steps s in
          got_on (after c w step) steps (keeps_step w step h sent.0 (n.known w (step ∷ steps) r h) all.0) sent.1 (n.onward w step steps r) all.1

    -- what is asked until the steps' end
    by_end : Knows (λ w steps. AllAsk R O (run c w steps))
    by_end = record { known = λ w steps r h id f e. r id f (stays_in_flight c w steps id f e); onward = λ w step steps r. r }

    -- It holds after steps in which the client sends such packets.
    pub keeps_run : (w : World) (steps : List Step) → Keeps c S P Q w → AllByRecursion S (sends_in steps) → AllAsk R O (run c w steps) → AllAllowed c w steps → Keeps c S P Q (run c w steps)
    keeps_run w steps h s r all = keeps_on (λ v more. AllAsk R O (run c v more)) by_end w steps h s r all

    -- And what the client gets in them is such, or a stranger's.
    pub keeps_got : (w : World) (steps : List Step) → Keeps c S P Q w → AllByRecursion S (sends_in steps) → AllAsk R O (run c w steps) → AllAllowed c w steps → AllByRecursion (GotFine c P) (got_in steps)
    keeps_got w steps h s r all = got_on (λ v more. AllAsk R O (run c v more)) by_end w steps h s r all

    -- The same where the packets themselves tell what they ask.
    module _ (tells : (from : Sender) (packet : Packet) → SentFine c S P from packet → Asks R O packet) where
      by_packets : Knows (λ w steps. Unit {0})
      by_packets = record { known = λ w steps r h id f e. tells f.from f.packet (all_at (FlyingFine c S P) w.flight id f h.0 e); onward = λ w step steps r. tt }

      pub told_run : (w : World) (steps : List Step) → Keeps c S P Q w → AllByRecursion S (sends_in steps) → AllAllowed c w steps → Keeps c S P Q (run c w steps)
      told_run w steps h s all = keeps_on (λ v more. Unit {0}) by_packets w steps h s tt all

      pub told_got : (w : World) (steps : List Step) → Keeps c S P Q w → AllByRecursion S (sends_in steps) → AllAllowed c w steps → AllByRecursion (GotFine c P) (got_in steps)
      told_got w steps h s all = got_on (λ v more. Unit {0}) by_packets w steps h s tt all
