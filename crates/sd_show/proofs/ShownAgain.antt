-- The text of a packet is one of its written form, and a text of a packet is the one that it has, but for how its byte runs are split.
use Rattle.std.proofs.Common.{◌≡◌, ◌⊎◌, ℕ, ◌≤◌, true, List, [], ◌∷◌, ◌++◌, length, replicate, Option, Some, None, refl, sym, ap, subst, ◌∙◌, arith, inl, inr, cond}
use Rattle.std.specs.Int.{w32, to_be_bytes}
use Rattle.std.proofs.lemmas.Bool.{false≢true, eq-eqb}
use Rattle.sd_outside.specs.Bytes.{IsBytes, IsMac}
use Rattle.sd_outside.specs.declared.packet.Mac.{Mac}
use Rattle.sd_outside.specs.declared.packet.Addr.{Addr}
use Rattle.sd_outside.specs.declared.packet.Packet.TheVariants.{Frame, Udp}
use Rattle.sd_xdr.specs.Kind.{whole, Value}
use Rattle.sd_xdr.specs.Grammar.{Reads, writes}
use Rattle.sd_xdr.proofs.Writes.{written_is_read}
use Rattle.sd_rpc_msg.specs.declared.message.Reply as rpc
use Rattle.sd_rpc_msg.specs.declared.message.Outcome.{Outcome}
use Rattle.sd_rpc_msg.specs.declared.message.Outcome.TheVariants.{Success, ProgUnavail, ProgMismatch, ProcUnavail, GarbageArgs, RpcMismatch, AuthError}
use Rattle.sd_rpc_msg.specs.declared.message.Message.{Message}
use Rattle.sd_rpc_msg.specs.declared.message.Message.TheVariants.{Asked, Answered}
use Rattle.sd_rpc_msg.specs.Layout.{message, message_value}
use Rattle.sd_rpc_msg.proofs.Told.{one_spelling_of, written_is_read_again}
use Rattle.sd_tftp.specs.declared.packet.TftpPacket.{TftpPacket}
use Rattle.sd_tftp.specs.Grammar as tftp
use Rattle.sd_tftp.proofs.Whole as file_laws
use Rattle.sd_tftp.proofs.Written as files
use Rattle.sd_rarp.specs.declared.frame.RarpFrame.{RarpFrame}
use Rattle.sd_rarp.specs.declared.frame.RarpFrame.TheVariants.{Request, Reply}
use Rattle.sd_rarp.specs.Frame.{fixed_part, Spells, frame_bytes, IsLaidOut}
use Rattle.sd_rarp.proofs.Spelling.{nested, length-nested}
use Rattle.sd_text.specs.Texts.{Text}
use Rattle.sd_text.specs.Grammar as texts
use Rattle.sd_text.proofs.Writes as text_laws
use Rattle.sd_text.specs.Packets.{AddrFits}
use Rattle.sd_show.specs.declared.procedures.Procedure.{Procedure}
use Rattle.sd_show.specs.declared.procedures.Known.{Known}
use Rattle.sd_show.specs.declared.calls.Heard.{Heard}
use Rattle.sd_show.specs.Lines.{line, carries_file, carries_message, datagram_line, frame_line}
use Rattle.sd_show.specs.Programs.{numbers, args_kind, results_kind}
use Rattle.sd_show.specs.Calls.{procedure_of, is_answered, answered}
use Rattle.sd_show.specs.Messages.{Body, bare, read_as, AreArgs, IsOutcomeBody, IsBody, AreWrittenArgs, IsWrittenOutcome, IsWrittenBody, with_body}
use Rattle.sd_show.specs.Shown.{ShowsFile, ShowsMessage, Shows, IsFrame, PacksFile, PacksMessage, Packs, IsWrittenFile, IsWrittenMessage}
use Rattle.sd_show.specs.Laws.{ShownIsPacked, IsSplitOf, PackedIsShown}
use Rattle.sd_show.proofs.OneShown.{one_body, one_message, one_frame}
use Rattle.sd_show.proofs.ValuesFit.{Sound, front_bytes, back_bytes}
use Rattle.sd_show.proofs.WrittenForm.{written_body, is_message, same_text, message_long, file_short}
use Rattle.sd_show.proofs.TextsFit.{frame_line_fits, file_line_fits, message_line_fits}

-- ---- frames

-- the hardware addresses of a frame that bytes spell
laid_macs : (opcode : ℕ) (dst src sender : Mac) (sender_ip : List ℕ) (target : Mac) (target_ip bytes : List ℕ) → IsBytes bytes → IsLaidOut opcode dst src sender sender_ip target target_ip bytes
    → IsMac dst × IsMac src × IsMac sender × IsMac target
laid_macs opcode dst src sender sender_ip target target_ip bytes fits h =
    let f = fixed_part opcode in
    let all : IsBytes (dst.0 ++ (src.0 ++ (f ++ (sender.0 ++ (sender_ip ++ (target.0 ++ (target_ip ++ h.tail))))))) = subst IsBytes (h.whole ∙ nested dst.0 src.0 f sender.0 sender_ip target.0 target_ip h.tail) fits in
    let from_target = target.0 ++ (target_ip ++ h.tail) in
    let from_sender = sender.0 ++ (sender_ip ++ from_target) in
    let from_src = src.0 ++ (f ++ from_sender) in
    let src_on : IsBytes from_src = back_bytes dst.0 from_src all in
    let sender_on : IsBytes from_sender = back_bytes f from_sender (back_bytes src.0 (f ++ from_sender) src_on) in
    let target_on : IsBytes from_target = back_bytes sender_ip from_target (back_bytes sender.0 (sender_ip ++ from_target) sender_on) in (
      record { wide = h.dst_wide; bytes = front_bytes dst.0 from_src all },
      record { wide = h.src_wide; bytes = front_bytes src.0 (f ++ from_sender) src_on },
      record { wide = h.sender_wide; bytes = front_bytes sender.0 (sender_ip ++ from_target) sender_on },
      record { wide = h.target_wide; bytes = front_bytes target.0 (target_ip ++ h.tail) target_on },
    )

frame_is : (bytes : List ℕ) (f : RarpFrame) → IsBytes bytes → Spells bytes f → IsFrame f
frame_is bytes (Request dst src sender target) fits h = laid_macs 3 dst src sender h.0 target h.1 bytes fits h.2
frame_is bytes (Reply dst src sender sender_ip target target_ip) fits h =
    let m = laid_macs 4 dst src sender (to_be_bytes w32 sender_ip) target (to_be_bytes w32 target_ip) bytes fits h.2 in
    (m.0, m.1, m.2, h.0, m.3, h.1)

-- the written form spells the frame
frame_spells : (f : RarpFrame) → IsFrame f → Spells (frame_bytes f) f
frame_spells (Request dst src sender target) is = (
  replicate 4 0,
  replicate 4 0,
  record {
    tail = replicate 18 0;
    whole = refl;
    dst_wide = is.0.wide;
    src_wide = is.1.wide;
    sender_wide = is.2.wide;
    target_wide = is.3.wide;
    sender_ip_wide = refl;
    target_ip_wide = refl;
    short_enough = omega (arith, is.0.wide, is.1.wide, is.2.wide, is.3.wide, length-nested dst.0 src.0 (fixed_part 3) sender.0 (replicate 4 0) target.0 (replicate 4 0) (replicate 18 0));
  },
)
frame_spells (Reply dst src sender sender_ip target target_ip) is = (
  is.3,
  is.5,
  record {
    tail = replicate 18 0;
    whole = refl;
    dst_wide = is.0.wide;
    src_wide = is.1.wide;
    sender_wide = is.2.wide;
    target_wide = is.4.wide;
    sender_ip_wide = refl;
    target_ip_wide = refl;
    short_enough = omega (arith, is.0.wide, is.1.wide, is.2.wide, is.4.wide, length-nested dst.0 src.0 (fixed_part 4) sender.0 (to_be_bytes w32 sender_ip) target.0 (to_be_bytes w32 target_ip) (replicate 18 0));
  },
)

-- ---- what is shown is packed

-- the text that is written for a value is read as it
read_again : (text : Text) (x : Value) → texts.HasText line x → text ≡ texts.writes line x → texts.Reads line text x
read_again text x h e = subst (λ (t : Text). texts.Reads line t x) (sym e) (text_laws.written_is_read line x h)

file_packs : (src dst : Addr) (content written : List ℕ) (text : Text) → AddrFits src → AddrFits dst → Sound content → ShowsFile src dst content text → IsWrittenFile src dst content written
    → (length written ≤ 9216) × PacksFile text src dst written
file_packs src dst content written text from to s h w =
    let same : h.p ≡ w.p = file_laws.one_packet content h.p w.p h.spells w.spells in
    let shown : text ≡ texts.writes line (datagram_line src dst (carries_file w.p)) = h.means ∙ ap (λ (p : TftpPacket). texts.writes line (datagram_line src dst (carries_file p))) same in
    let limits = files.read_has_spelling content w.p w.spells in (
      omega (arith, ap length w.means, file_short content w.p w.spells, s.short),
      record { p = w.p; port = w.port; range = limits.1; fits = limits.0; written = w.means; reads = read_again text (datagram_line src dst (carries_file w.p)) (file_line_fits src dst content w.p from to w.spells s) shown },
    )

message_packs : (seen : List Heard) (src dst : Addr) (content written : List ℕ) (text : Text) → AddrFits src → AddrFits dst → Sound content → ShowsMessage seen src dst content text
    → IsWrittenMessage seen src dst content written → (length written ≤ 9216) × PacksMessage text src dst written
message_packs seen src dst content written text from to s h w =
    let same : h.m ≡ w.m = one_message content h.m w.m h.reads w.reads in
    let body : h.b ≡ w.b = one_body seen src dst w.m h.b w.b (subst (λ (m : Message). IsBody seen src dst m h.b) same h.body) w.body in
    let spelled = one_spelling_of w.m content w.reads in
    let sound : Sound (writes message (message_value w.m)) = subst Sound spelled.0 s in
    let fits = message_line_fits seen src dst w.m w.b from to spelled.1 w.body sound in
    let shown : text ≡ texts.writes line (datagram_line src dst (carries_message w.m w.b)) =
    h.means ∙ (λ i. texts.writes line (datagram_line src dst (carries_message (same i) (body i)))) in
    let read = read_again text (datagram_line src dst (carries_message w.m w.b)) fits shown in (
      omega (arith, ap length w.means, message_long seen src dst w.m w.b w.body, sound.short),
      record {
        m = with_body w.m w.b;
        b = w.b;
        other = w.other;
        is = is_message w.m w.b spelled.1;
        body = written_body seen src dst w.m w.b w.body;
        written = w.means;
        reads = subst (λ (x : Value). texts.Reads line text (datagram_line src dst x)) (sym (same_text w.m w.b)) read;
      },
    )

datagram_packs : (seen : List Heard) (src dst : Addr) (content written : List ℕ) (text : Text) → AddrFits src → AddrFits dst → Sound content → ShowsFile src dst content text ⊎ ShowsMessage seen src dst content text
    → IsWrittenFile src dst content written ⊎ IsWrittenMessage seen src dst content written → Packs text (Udp src dst written)
datagram_packs seen src dst content written text from to s (inl h) (inl w) = let p = file_packs src dst content written text from to s h w in (from, to, p.0, inl p.1)
datagram_packs seen src dst content written text from to s (inl h) (inr w) = absurd (false≢true (sym w.other ∙ h.port))
datagram_packs seen src dst content written text from to s (inr h) (inl w) = absurd (false≢true (sym h.other ∙ w.port))
datagram_packs seen src dst content written text from to s (inr h) (inr w) = let p = message_packs seen src dst content written text from to s h w in (from, to, p.0, inr p.1)

pub shown_is_packed : ShownIsPacked
shown_is_packed seen (Udp src dst content) written text fits h w =
    subst (Packs text) (sym w.1) (datagram_packs seen src dst content w.0 text fits.0 fits.1 record { bytes_are = fits.2; short = fits.3 } h w.2)
shown_is_packed seen (Frame bytes) written text fits h w =
    let f = w.0 in
    let same = one_frame bytes h.0 f h.1 w.1 in
    let is = frame_is bytes f fits.0 w.1 in
    let shown : text ≡ texts.writes line (frame_line f) = h.2 ∙ ap (λ (g : RarpFrame). texts.writes line (frame_line g)) same in
    subst (Packs text) (sym w.2) (f, record { is = is; written = refl; reads = read_again text (frame_line f) (frame_line_fits f is) shown })

-- ---- what is packed is shown

-- the call that a reply with these results answers
abbrev asked_for : Addr → Addr → rpc.Reply → Known → Heard
asked_for src dst r k = record { xid = r.xid; src = dst; dst = src; procedure = numbers k }

is_asked : (src dst : Addr) (r : rpc.Reply) (k : Known) → is_answered r.xid src dst (asked_for src dst r k) ≡ true
is_asked src dst r k = rw (eq-eqb r.xid r.xid refl, eq-eqb dst.ip dst.ip refl, eq-eqb dst.port dst.port refl, eq-eqb src.ip src.ip refl, eq-eqb src.port src.port refl) refl

answer : (src dst : Addr) (r : rpc.Reply) (k : Known) → answered r.xid src dst (asked_for src dst r k ∷ []) ≡ Some (numbers k)
answer src dst r k = ap (λ v. cond v (Some (numbers k)) None) (is_asked src dst r k)

-- calls behind which an outcome has a body
outcome_answered : (src dst : Addr) (r : rpc.Reply) (o : Outcome) (b : Body) → IsWrittenOutcome o b → (seen : List Heard) × IsOutcomeBody (answered r.xid src dst seen) o b
outcome_answered src dst r (Success verf bs) (bare x) h = ([], h)
outcome_answered src dst r (Success verf bs) (read_as k x) h =
    let read : Reads whole (results_kind k) bs x = subst (λ (u : List ℕ). Reads whole (results_kind k) u x) (sym h.1) (written_is_read whole (results_kind k) x h.0) in
    (asked_for src dst r k ∷ [], subst (λ (p : Option Procedure). IsOutcomeBody p (Success verf bs) (read_as k x)) (sym (answer src dst r k)) (refl, read))
outcome_answered src dst r (ProgUnavail verf) b h = ([], h)
outcome_answered src dst r (ProgMismatch verf low high) b h = ([], h)
outcome_answered src dst r (ProcUnavail verf) b h = ([], h)
outcome_answered src dst r (GarbageArgs verf) b h = ([], h)
outcome_answered src dst r (RpcMismatch low high) b h = ([], h)
outcome_answered src dst r (AuthError stat) b h = ([], h)

args_read : (p : Procedure) (bs : List ℕ) (b : Body) → AreWrittenArgs p bs b → AreArgs p bs b
args_read p bs (bare x) h = h
args_read p bs (read_as k x) h = (h.0, subst (λ (u : List ℕ). Reads whole (args_kind k) u x) (sym h.2) (written_is_read whole (args_kind k) x h.1))

body_read : (src dst : Addr) (m : Message) (b : Body) → IsWrittenBody m b → (seen : List Heard) × IsBody seen src dst m b
body_read src dst (Asked c) b h = ([], args_read (procedure_of c) c.args b h)
body_read src dst (Answered r) b h = outcome_answered src dst r r.outcome b h

-- what a text spells has the written text
splits : (text : Text) (x : Value) → texts.Reads line text x → IsSplitOf text (texts.writes line x)
splits text x r = record { value = x; reads = r; written = refl }

datagram_shown : (src dst : Addr) (content : List ℕ) (text : Text) → PacksFile text src dst content ⊎ PacksMessage text src dst content
    → (seen : List Heard) × (shown : Text) × Shows seen (Udp src dst content) shown × IsSplitOf text shown
datagram_shown src dst content text (inl h) =
    let x = datagram_line src dst (carries_file h.p) in
    let spells : tftp.Spells content h.p = subst (λ (b : List ℕ). tftp.Spells b h.p) (sym h.written) ((files.written_is_read h.p h.p h.fits h.range).1 refl) in
    ([], texts.writes line x, inl record { p = h.p; port = h.port; spells = spells; means = refl }, splits text x h.reads)
datagram_shown src dst content text (inr h) =
    let x = datagram_line src dst (carries_message h.m h.b) in
    let reads : Reads whole message content (message_value h.m) = subst (λ (b : List ℕ). Reads whole message b (message_value h.m)) (sym h.written) ((written_is_read_again h.m h.m h.is).1 refl) in
    let body = body_read src dst h.m h.b h.body in
    (body.0, texts.writes line x, inr record { m = h.m; b = h.b; other = h.other; reads = reads; body = body.1; means = refl }, splits text x h.reads)

pub packed_is_shown : PackedIsShown
packed_is_shown text (Udp src dst content) h = datagram_shown src dst content text h.3
packed_is_shown text (Frame bytes) h =
    let x = frame_line h.0 in
    let spells : Spells bytes h.0 = subst (λ (b : List ℕ). Spells b h.0) (sym h.1.written) (frame_spells h.0 h.1.is) in
    ([], texts.writes line x, (h.0, spells, refl), splits text x h.1.reads)
