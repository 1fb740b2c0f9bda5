-- A line that is read says a packet within the limits, and no other packet has its text.
use Rattle.std.proofs.Common.{◌≡◌, ◌⊎◌, ℕ, ◌<◌, ◌≤◌, ◌^◌, List, length, Some, None, Result, Ok, Err, refl, sym, ap, subst, ◌∙◌, arith, inl, inr}
use Rattle.sd_outside.specs.declared.packet.Addr.{Addr}
use Rattle.sd_outside.specs.declared.packet.Packet.{Packet}
use Rattle.sd_outside.specs.declared.packet.Packet.TheVariants.{Frame, Udp}
use Rattle.sd_xdr.specs.Kind.{Value, ◌⊗◌, second}
use Rattle.sd_xdr.specs.Grammar.{writes}
use Rattle.sd_bootparams.specs.Layout.{ip_value}
use Rattle.sd_rarp.specs.declared.frame.RarpFrame.{RarpFrame}
use Rattle.sd_rarp.specs.declared.frame.RarpFrame.TheVariants as frames
use Rattle.sd_rarp.specs.Frame.{frame_bytes}
use Rattle.sd_rpc_msg.specs.declared.message.OpaqueAuth.{OpaqueAuth}
use Rattle.sd_rpc_msg.specs.declared.message.Outcome.{Outcome}
use Rattle.sd_rpc_msg.specs.declared.message.Outcome.TheVariants.{Success, ProgUnavail, ProgMismatch, ProcUnavail, GarbageArgs, RpcMismatch, AuthError}
use Rattle.sd_rpc_msg.specs.declared.message.Message.{Message}
use Rattle.sd_rpc_msg.specs.declared.message.Message.TheVariants.{Asked, Answered}
use Rattle.sd_rpc_msg.specs.Layout as rpc
use Rattle.sd_rpc_msg.specs.Layout.{auth_value, message_value, OutcomeFits, MessageFits}
use Rattle.sd_rpc_msg.specs.Laws.{IsAuth, IsOutcome, IsMessage}
use Rattle.sd_tftp.specs.declared.packet.TftpPacket.{TftpPacket}
use Rattle.sd_tftp.specs.declared.packet.TftpPacket.TheVariants as tftp
use Rattle.sd_tftp.specs.Grammar as files
use Rattle.sd_text.specs.declared.error.LineError.{LineError}
use Rattle.sd_text.specs.declared.error.LineError.TheVariants.{Outside, NoMemory}
use Rattle.sd_text.specs.Answers as answers
use Rattle.sd_text.specs.Texts.{Text}
use Rattle.sd_text.specs.Kind.{Kind, ip, addr, addr_value}
use Rattle.sd_text.specs.Grammar.{Reads, HasText}
use Rattle.sd_text.specs.Reading.{whole_reading}
use Rattle.sd_text.specs.Packets.{AddrFits}
use Rattle.sd_text.proofs.ReadFits.{read_has_text}
use Rattle.sd_text.proofs.Whole.{whole_sound}
use Rattle.sd_show.specs.declared.procedures.Procedure.{Procedure}
use Rattle.sd_show.specs.declared.lines.Carried.{Carried}
use Rattle.sd_show.specs.declared.lines.Carried.TheVariants.{File, Rpc}
use Rattle.sd_show.specs.declared.lines.Line.{Line}
use Rattle.sd_show.specs.declared.lines.Line.TheVariants.{Datagram, Rarp}
use Rattle.sd_show.specs.Calls.{procedure_of}
use Rattle.sd_show.specs.Messages.{Body, bare, read_as, AreWrittenArgs, IsWrittenBody}
use Rattle.sd_show.specs.Shown.{is_tftp, IsFrame, PacksFile, PacksMessage, Packs}
use Rattle.sd_show.specs.Lines.{frame, frame_value, file, file_value, auth, asked, asked_value, outcome, outcome_value, carried, line, carries_file, carries_message, datagram_line, frame_line}
use Rattle.sd_show.specs.Packing.{message_body, carried_told, line_told, IsCarriedWritten, IsLineWritten, carried_bytes, is_file, IsPacketOf, CarriedFits, LineFits}
use Rattle.sd_show.proofs.Knowing.{AreNumbers, numbered_words, answer_back}
use Rattle.sd_show.proofs.Lined.{no_zeros}
use Rattle.sd_show.proofs.OneLine.{line_bounded, same_value, same_file, same_message, same_frame, same_datagram, apart, not_a_frame, none_spelled}

-- ---- what is read is within the limits

ip_small : (n : ℕ) → HasText ip (ip_value n) → n < 2 ^ 32
ip_small n h = omega (arith, h.1.1.2)

addr_small : (a : Addr) → HasText addr (addr_value a) → AddrFits a
addr_small a h = record { ip = ip_small a.ip h.1; port = omega (arith, h.2.2) }

frame_small : (f : RarpFrame) → HasText frame (frame_value f) → IsFrame f
frame_small (frames.Request dst src sender target) h =
    let a = h.2.1 in
    let b = h.2.2 in
    (record { wide = a.1.2; bytes = a.1.1 }, record { wide = a.2.2; bytes = a.2.1 }, record { wide = b.1.2; bytes = b.1.1 }, record { wide = b.2.2; bytes = b.2.1 })
frame_small (frames.Reply dst src sender sender_ip target target_ip) h =
    let a = h.2.1 in
    let b = h.2.2.1 in
    let c = h.2.2.2 in (
      record { wide = a.1.2; bytes = a.1.1 },
      record { wide = a.2.2; bytes = a.2.1 },
      record { wide = b.1.2; bytes = b.1.1 },
      ip_small sender_ip b.2,
      record { wide = c.1.2; bytes = c.1.1 },
      ip_small target_ip c.2,
    )

file_small : (p : TftpPacket) → HasText file (file_value p) → files.IsInRange p × files.HasSpelling p
file_small (tftp.Rrq name mode) h = (tt, (no_zeros name h.2.1.1, no_zeros mode h.2.2.1))
file_small (tftp.Wrq name mode) h = (tt, (no_zeros name h.2.1.1, no_zeros mode h.2.2.1))
file_small (tftp.Block n body) h = (omega (arith, h.2.1.2), h.2.2.3)
file_small (tftp.Ack n) h = (omega (arith, h.2.2), tt)
file_small (tftp.Error n message) h = (omega (arith, h.2.1.2), no_zeros message h.2.2.1)

auth_small : (a : OpaqueAuth) → HasText auth (auth_value a) → IsAuth a
auth_small a h = (omega (arith, h.1.2), h.2.3)

asked_small : (p : Procedure) (bs : List ℕ) (b : Body) → HasText asked (asked_value p b) → AreWrittenArgs p bs b → AreNumbers p
asked_small p bs (bare content) h w =
    let n = h.1.1.0 in
    record { prog = omega (arith, n.1.2); vers = omega (arith, n.2.1.2); proc_no = omega (arith, n.2.2.2) }
asked_small p bs (read_as k x) h w = subst AreNumbers w.0 (numbered_words k)

outcome_small : (o : Outcome) (b : Body) → HasText outcome (outcome_value o b) → IsOutcome o
outcome_small (Success verf bs) (bare content) h = auth_small verf h.2.1
outcome_small (Success verf bs) (read_as k x) h = let d = subst (λ (K : Kind). HasText K (auth_value verf ⊗ x)) (answer_back k) h.2 in auth_small verf d.1
outcome_small (ProgUnavail verf) b h = auth_small verf h.2.1
outcome_small (ProgMismatch verf low high) b h = let r = h.2.2.2 in (auth_small verf h.2.1, omega (arith, r.1.2), omega (arith, r.2.2))
outcome_small (ProcUnavail verf) b h = auth_small verf h.2.1
outcome_small (GarbageArgs verf) b h = auth_small verf h.2.1
outcome_small (RpcMismatch low high) b h = (omega (arith, h.2.1.2), omega (arith, h.2.2.2))
outcome_small (AuthError stat) b h = (h.2.1, h.2.2)

message_small : (m : Message) (b : Body) → HasText carried (carries_message m b) → IsWrittenBody m b → IsMessage m
message_small (Asked c) b h w =
    let s = h.2.2 in
    let n = asked_small (procedure_of c) c.args b s.1 w in
    (omega (arith, h.2.1.2), n.prog, n.vers, n.proc_no, auth_small c.cred s.2.1, auth_small c.verf s.2.2)
message_small (Answered r) b h w = (omega (arith, h.2.1.2), outcome_small r.outcome b h.2.2)

-- ---- what has room

outcome_room : (o : Outcome) → IsOutcome o → OutcomeFits o
outcome_room (Success verf bs) h = h.1
outcome_room (ProgUnavail verf) h = h.1
outcome_room (ProgMismatch verf low high) h = h.0.1
outcome_room (ProcUnavail verf) h = h.1
outcome_room (GarbageArgs verf) h = h.1
outcome_room (RpcMismatch low high) h = tt
outcome_room (AuthError stat) h = tt

message_room : (m : Message) → IsMessage m → MessageFits m
message_room (Asked c) h = (h.4.1, h.5.1)
message_room (Answered r) h = outcome_room r.outcome h.1

carried_room : (c : Carried) → HasText carried (carried_told c) → IsCarriedWritten c → CarriedFits c
carried_room (File p) h w = (file_small p h.2).1
carried_room (Rpc t) h w = message_room t.message (message_small t.message (message_body t.known t.message) h w)

line_room : (l : Line) → HasText line (line_told l) → IsLineWritten l → LineFits l
line_room (Datagram src dst c) h w = carried_room c h.2.2.2 w
line_room (Rarp f) h w = tt

-- what a text that was read says has a text
has_text : (text : Text) (l : Line) → whole_reading line text ≡ Some (line_told l) → HasText line (line_told l)
has_text text l e = read_has_text line text (line_told l) line_bounded (whole_sound line text (line_told l) e)

pub read_room : (text : Text) (l : Line) → whole_reading line text ≡ Some (line_told l) → IsLineWritten l → LineFits l
read_room text l e w = line_room l (has_text text l e) w

-- ---- the packet of a line

carried_packs : (text : Text) (src dst : Addr) (c : Carried) → AddrFits src → AddrFits dst → HasText carried (carried_told c) → IsCarriedWritten c → Reads line text (datagram_line src dst (carried_told c))
    → is_tftp src dst ≡ is_file c → length (carried_bytes c) ≤ 9216 → Packs text (Udp src dst (carried_bytes c))
carried_packs text src dst (File p) from to h w r port few =
    let s = file_small p h.2 in (from, to, few, inl record { p = p; port = port; range = s.0; fits = s.1; written = refl; reads = r })
carried_packs text src dst (Rpc t) from to h w r port few =
    let b = message_body t.known t.message in
    (from, to, few, inr record { m = t.message; b = b; other = port; is = message_small t.message b h w; body = w; written = refl; reads = r })

line_packs : (text : Text) (l : Line) (packet : Packet) → HasText line (line_told l) → IsLineWritten l → Reads line text (line_told l) → IsPacketOf l packet → Packs text packet
line_packs text (Datagram src dst c) packet h w r p =
    let s = h.2 in
    subst (Packs text) (sym p.2) (carried_packs text src dst c (addr_small src s.1) (addr_small dst s.2.1) s.2.2 w r p.0 p.1)
line_packs text (Rarp f) packet h w r p = subst (Packs text) (sym p) (f, record { is = frame_small f h.2; written = refl; reads = r })

-- ---- no other packet

file_only : (text : Text) (src dst : Addr) (c : Carried) (bs : List ℕ) → IsCarriedWritten c → length bs ≤ 9216 → (h : PacksFile text src dst bs) → carries_file h.p ≡ carried_told c → IsPacketOf (Datagram src dst c) (Udp src dst bs)
file_only text src dst (File p) bs w few h e =
    let same : bs ≡ files.packet_bytes p = h.written ∙ ap files.packet_bytes (same_file h.p p (ap second e)) in
    (h.port, subst (λ (l : List ℕ). length l ≤ 9216) same few, ap (Udp src dst) same)
file_only text src dst (Rpc t) bs w few h e = absurd (apart h.p t.message (message_body t.known t.message) e)

message_only : (text : Text) (src dst : Addr) (c : Carried) (bs : List ℕ) → IsCarriedWritten c → length bs ≤ 9216 → (h : PacksMessage text src dst bs) → carries_message h.m h.b ≡ carried_told c → IsPacketOf (Datagram src dst c) (Udp src dst bs)
message_only text src dst (File p) bs w few h e = absurd (apart p h.m h.b (sym e))
message_only text src dst (Rpc t) bs w few h e =
    let same : bs ≡ writes rpc.message (message_value t.message) =
    h.written ∙ ap (λ (m : Message). writes rpc.message (message_value m)) (same_message h.m t.message h.b (message_body t.known t.message) h.body w e) in
    (h.other, subst (λ (l : List ℕ). length l ≤ 9216) same few, ap (Udp src dst) same)

datagram_only : (text : Text) (src dst a b : Addr) (c : Carried) (bs : List ℕ) → AddrFits src → AddrFits dst → IsCarriedWritten c → Reads line text (datagram_line src dst (carried_told c)) → Packs text (Udp a b bs) → IsPacketOf (Datagram src dst c) (Udp a b bs)
datagram_only text src dst a b c bs from to w r p = of p.3
  where
    moved : (x : Value) → Reads line text (datagram_line a b x) → (x ≡ carried_told c → IsPacketOf (Datagram a b c) (Udp a b bs)) → IsPacketOf (Datagram src dst c) (Udp a b bs)
    moved x s then_is =
        let e = same_datagram a b src dst x (carried_told c) p.0 p.1 from to (same_value text (datagram_line a b x) (datagram_line src dst (carried_told c)) s r) in
        subst (λ (y : Addr). IsPacketOf (Datagram src y c) (Udp a b bs)) e.dst (subst (λ (y : Addr). IsPacketOf (Datagram y b c) (Udp a b bs)) e.src (then_is e.carries))

    of : PacksFile text a b bs ⊎ PacksMessage text a b bs → IsPacketOf (Datagram src dst c) (Udp a b bs)
    of (inl h) = moved (carries_file h.p) h.reads (λ e. file_only text a b c bs w p.2 h e)
    of (inr h) = moved (carries_message h.m h.b) h.reads (λ e. message_only text a b c bs w p.2 h e)

line_only : (text : Text) (l : Line) (packet : Packet) → HasText line (line_told l) → IsLineWritten l → Reads line text (line_told l) → Packs text packet → IsPacketOf l packet
line_only text (Datagram src dst c) (Udp a b bs) h w r p = datagram_only text src dst a b c bs (addr_small src h.2.1) (addr_small dst h.2.2.1) w r p
line_only text (Datagram src dst c) (Frame bs) h w r p = absurd (not_a_frame src dst (carried_told c) p.0 (same_value text (datagram_line src dst (carried_told c)) (frame_line p.0) r p.1.reads))
line_only text (Rarp f) (Udp a b bs) h w r p = of p.3
  where
    of : PacksFile text a b bs ⊎ PacksMessage text a b bs → Udp a b bs ≡ Frame (frame_bytes f)
    of (inl k) = absurd (not_a_frame a b (carries_file k.p) f (same_value text (datagram_line a b (carries_file k.p)) (frame_line f) k.reads r))
    of (inr k) = absurd (not_a_frame a b (carries_message k.m k.b) f (same_value text (datagram_line a b (carries_message k.m k.b)) (frame_line f) k.reads r))
line_only text (Rarp f) (Frame bs) h w r p =
    ap Frame (p.1.written ∙ ap frame_bytes (same_frame p.0 f p.1.is (frame_small f h.2) (ap second (same_value text (frame_line p.0) (frame_line f) p.1.reads r))))

-- ---- what is answered

pub text_read : (text : Text) (l : Line) (r : Result Packet LineError) → whole_reading line text ≡ Some (line_told l) → IsLineWritten l → answers.Reads (IsPacketOf l) r → answers.Reads (Packs text) r
text_read text l (Ok packet) e w h = line_packs text l packet (has_text text l e) w (whole_sound line text (line_told l) e) h
text_read text l (Err Outside) e w h = λ packet p. h packet (line_only text l packet (has_text text l e) w (whole_sound line text (line_told l) e) p)
text_read text l (Err NoMemory) e w h = tt

pub text_refused : (text : Text) (e : LineError) → answers.OnOutside e (whole_reading line text ≡ None) → answers.Reads (Packs text) (Err e)
text_refused text Outside h = none_spelled text h
text_refused text NoMemory h = tt
