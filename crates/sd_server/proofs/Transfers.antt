-- What a server does with a packet to its ports of TFTP.
use Rattle.std.proofs.Common.{◌≡◌, ℕ, ◌+◌, ◌≤◌, Bool, true, false, cond, List, [], ◌∷◌, map, Option, Some, None, Result, Ok, Err, refl, sym, ◌∙◌, ap, subst, arith}
use Rattle.std.specs.Prelude.{◌==◌, ◌||◌}
use Rattle.std.proofs.lemmas.Bool.{false≢true}
use Rattle.sd_tftp.specs.Reading.{reading}
use Rattle.std.specs.Option.{option_map}
use Rattle.std.specs.List.{find}
use Rattle.sd_outside.specs.declared.packet.Addr.{Addr}
use Rattle.sd_outside.specs.declared.packet.Packet.{Packet}
use Rattle.sd_tftp.specs.Transfer.{Transfer, begun}
use Rattle.sd_tftp.specs.declared.packet.TftpPacket.{TftpPacket}
use Rattle.sd_tftp.specs.declared.packet.TftpPacket.TheVariants.{Rrq}
use Rattle.sd_tftp.specs.declared.packet.TftpError.{TftpError}
use Rattle.sd_config.specs.declared.config.Config.{Config}
use Rattle.sd_services.specs.Part.{Session, ServerPart, Replied, silence}
use Rattle.sd_config.specs.Program.{boot_file}
use Rattle.sd_tftp.specs.Grammar.{tftp_port}
use Rattle.sd_services.specs.Sessions.{is_session_of, is_session_port, file_of, bytes_or_none, new_session, asked_for, is_octet, requested, tftp_error, heard_by, not_known, transferred, tftp_reply, block_packet}
use Rattle.sd_services.specs.Sessions as world
use Rattle.sd_server.specs.declared.sessions.Sending.{Sending}
use Rattle.sd_server.specs.declared.replies.Answer.{Answer}
use Rattle.sd_server.specs.declared.replies.Change.TheVariants.{Begins}
use Rattle.sd_server.specs.Sessions.{session_of, name_at, bytes_at, IsSending, Answers}
use Rattle.sd_server.specs.Stepping.{begins_with, begun_with}
use Rattle.sd_server.proofs.Found.{find-map}

-- ---- a request

-- the session that is made is the one that begins
pub begins_so : (c : Config) (part : ServerPart) (made tick file : ℕ) (from : Addr) (sender : Transfer) (packet : Packet) → sender ≡ begun from tick → part.made ≡ made
    → file_of c (begins_with c made tick from file) ≡ bytes_at c file
    → packet ≡ block_packet c (session_of c (record { number = made; file = file; peer = from; sender = sender }))
    → Answers c part (record { out = Some packet; change = Begins (record { number = made; file = file; peer = from; sender = sender }) }) (begun_with c part (begins_with c made tick from file))
begins_so c part made tick file from sender packet new number filed sent =
    let s : Sending = record { number = made; file = file; peer = from; sender = sender } in
    let same : session_of c s ≡ begins_with c made tick from file = ap (λ (t : Transfer). session_of c (record { number = made; file = file; peer = from; sender = t })) new in
    record {
      out = ap (λ (p : Packet). p ∷ []) sent ∙ ap (λ (x : Session). block_packet c x ∷ []) same;
      next = ap (world.begun part) same;
      fit = (
        sym number,
        record {
          peer = ap (λ (t : Transfer). t.peer) new;
          going = ap (λ (t : Transfer). t.ended) new;
          block = subst (λ (t : Transfer). 1 ≤ t.block) (sym new) (omega arith);
          filed = filed;
        },
      );
    }

-- the file at the place of its name
pub filed_by : (c : Config) (made tick place : ℕ) (from : Addr) (name : List ℕ) → boot_file c name ≡ Some (bytes_at c place) → name_at c place ≡ name → file_of c (begins_with c made tick from place) ≡ bytes_at c place
filed_by c made tick place from name found named = ap (λ (n : List ℕ). bytes_or_none (boot_file c n)) named ∙ ap bytes_or_none found

pub asked_none : (c : Config) (tick : ℕ) (part : ServerPart) (from : Addr) (name : List ℕ) (a : Answer) → boot_file c name ≡ None
    → Answers c part a (record { out = tftp_error c tftp_port from 1; next = part }) → Answers c part a (asked_for c tick part from name (boot_file c name))
asked_none c tick part from name a none h = subst (λ (o : Option (List ℕ)). Answers c part a (asked_for c tick part from name o)) (sym none) h

pub asked_some : (c : Config) (made tick place : ℕ) (part : ServerPart) (from : Addr) (name : List ℕ) (a : Answer) → part.made ≡ made → boot_file c name ≡ Some (bytes_at c place) → name_at c place ≡ name
    → Answers c part a (begun_with c part (begins_with c made tick from place)) → Answers c part a (asked_for c tick part from name (boot_file c name))
asked_some c made tick place part from name a number found named h =
    let same : begins_with c made tick from place ≡ new_session part tick from name = (λ i. record { number = sym number i; peer = from; name = named i; block = 1; sent = tick; sends = 1 }) in
    subst (λ (o : Option (List ℕ)). Answers c part a (asked_for c tick part from name o)) (sym found) (subst (λ (s : Session). Answers c part a (begun_with c part s)) same h)

pub rrq_so : (c : Config) (tick : ℕ) (part : ServerPart) (from : Addr) (packet : TftpPacket) (name mode : List ℕ) (a : Answer) (b : Bool) → packet ≡ Rrq name mode → is_octet mode ≡ b
    → Answers c part a (cond b (asked_for c tick part from name (boot_file c name)) (record { out = tftp_error c tftp_port from 4; next = part })) → Answers c part a (requested c tick part from (Ok packet))
rrq_so c tick part from packet name mode a b is test h =
    subst (λ (p : TftpPacket). Answers c part a (requested c tick part from (Ok p))) (sym is)
    (subst (λ (x : Bool). Answers c part a (cond x (asked_for c tick part from name (boot_file c name)) (record { out = tftp_error c tftp_port from 4; next = part }))) (sym test) h)

pub requested_as : (c : Config) (tick : ℕ) (part : ServerPart) (from : Addr) (p packet : TftpPacket) (a : Answer) → packet ≡ p → Answers c part a (requested c tick part from (Ok p)) → Answers c part a (requested c tick part from (Ok packet))
requested_as c tick part from p packet a is h = subst (λ (q : TftpPacket). Answers c part a (requested c tick part from (Ok q))) (sym is) h

-- ---- a session's port

pub not_known_as : (c : Config) (part : ServerPart) (port : ℕ) (from : Addr) (p packet : TftpPacket) (a : Answer) → packet ≡ p → Answers c part a (not_known c part port from p) → Answers c part a (not_known c part port from packet)
not_known_as c part port from p packet a is h = subst (λ (q : TftpPacket). Answers c part a (not_known c part port from q)) (sym is) h

pub heard_at : (c : Config) (tick port : ℕ) (part : ServerPart) (from : Addr) (packet : TftpPacket) (sessions : List Sending) (a : Answer) (found : Option Sending)
    → part.sessions ≡ map (session_of c) sessions
    → find (λ s. is_session_of port from (session_of c s)) sessions ≡ found
    → Answers c part a (heard_by c tick part port from packet (option_map (session_of c) found))
    → Answers c part a (heard_by c tick part port from packet (find (is_session_of port from) part.sessions))
heard_at c tick port part from packet sessions a found are is h =
    subst (λ (o : Option Session). Answers c part a (heard_by c tick part port from packet o))
    (sym (ap (find (is_session_of port from)) are ∙ find-map (session_of c) (is_session_of port from) sessions ∙ ap (option_map (session_of c)) is)) h

-- ---- by the port

pub by_test : (c : Config) (part : ServerPart) (a : Answer) (test b : Bool) (x y : Replied) → test ≡ b → Answers c part a (cond b x y) → Answers c part a (cond test x y)
by_test c part a test b x y is h = subst (λ (t : Bool). Answers c part a (cond t x y)) (sym is) h

-- a packet that reads
pub at_port : (c : Config) (tick : ℕ) (part : ServerPart) (from : Addr) (port : ℕ) (body : List ℕ) (packet : TftpPacket) (a : Answer) → ((port == tftp_port) || is_session_port port) ≡ true → reading body ≡ Ok packet
    → Answers c part a (cond (port == tftp_port) (requested c tick part from (Ok packet)) (transferred c tick part port from (Ok packet)))
    → Answers c part a (tftp_reply c tick part from port body)
at_port c tick part from port body packet a there is h =
    subst (λ (r : Result TftpPacket TftpError). Answers c part a (cond (port == tftp_port) (requested c tick part from r) (cond (is_session_port port) (transferred c tick part port from r) (silence part)))) (sym is)
    (of (port == tftp_port) (is_session_port port) there h)
  where
    of : (u v : Bool) → (u || v) ≡ true → Answers c part a (cond u (requested c tick part from (Ok packet)) (transferred c tick part port from (Ok packet)))
        → Answers c part a (cond u (requested c tick part from (Ok packet)) (cond v (transferred c tick part port from (Ok packet)) (silence part)))
    of true v e k = k
    of false true e k = k
    of false false e k = absurd (false≢true e)

-- what doesn't read is ignored
pub unread : (c : Config) (tick : ℕ) (part : ServerPart) (from : Addr) (port : ℕ) (body : List ℕ) (why : TftpError) (a : Answer) → reading body ≡ Err why → Answers c part a (silence part) → Answers c part a (tftp_reply c tick part from port body)
unread c tick part from port body why a is h =
    subst (λ (r : Result TftpPacket TftpError). Answers c part a (cond (port == tftp_port) (requested c tick part from r) (cond (is_session_port port) (transferred c tick part port from r) (silence part)))) (sym is)
    (of (port == tftp_port) (is_session_port port))
  where
    of : (u v : Bool) → Answers c part a (cond u (silence part) (cond v (silence part) (silence part)))
    of true v = h
    of false true = h
    of false false = h

-- to a port that is none of TFTP
pub elsewhere : (c : Config) (tick : ℕ) (part : ServerPart) (from : Addr) (port : ℕ) (body : List ℕ) → ((port == tftp_port) || is_session_port port) ≡ false → tftp_reply c tick part from port body ≡ silence part
elsewhere c tick part from port body not_there = of (port == tftp_port) (is_session_port port) not_there
  where
    of : (u v : Bool) → (u || v) ≡ false → cond u (requested c tick part from (reading body)) (cond v (transferred c tick part port from (reading body)) (silence part)) ≡ silence part
    of true v e = absurd (false≢true (sym e))
    of false true e = absurd (false≢true (sym e))
    of false false e = refl
