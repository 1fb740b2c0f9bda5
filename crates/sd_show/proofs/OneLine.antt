-- A text is of one packet, and every text is that of a packet or of none.
use Rattle.std.proofs.Common.{◌≡◌, ◌⊎◌, ℕ, ◌+◌, ◌-◌, ◌*◌, ◌<◌, ◌≤◌, ◌^◌, Bool, true, false, cond, eqb, List, length, Option, Some, None, refl, sym, ap, subst, ◌∙◌, arith, inl, inr}
use Rattle.std.proofs.lemmas.Bool.{cases_Bool, false≢true, cases_lt}
use Rattle.sd_outside.specs.declared.packet.Mac.{Mac}
use Rattle.sd_outside.specs.declared.packet.Addr.{Addr}
use Rattle.sd_outside.specs.declared.packet.Packet.{Packet}
use Rattle.sd_outside.specs.declared.packet.Packet.TheVariants.{Frame, Udp}
use Rattle.sd_xdr.specs.Kind.{Value, number, ◌⊗◌, number_of, bytes_of, first, second}
use Rattle.sd_xdr.specs.Grammar.{writes}
use Rattle.sd_bootparams.specs.Layout.{ip_value}
use Rattle.sd_rarp.specs.declared.frame.RarpFrame.{RarpFrame}
use Rattle.sd_rarp.specs.declared.frame.RarpFrame.TheVariants as frames
use Rattle.sd_rarp.specs.Frame.{frame_bytes}
use Rattle.sd_rpc_msg.specs.declared.message.OpaqueAuth.{OpaqueAuth}
use Rattle.sd_rpc_msg.specs.declared.message.Call.{Call}
use Rattle.sd_rpc_msg.specs.declared.message.Outcome.{Outcome}
use Rattle.sd_rpc_msg.specs.declared.message.Outcome.TheVariants.{Success, ProgUnavail, ProgMismatch, ProcUnavail, GarbageArgs, RpcMismatch, AuthError}
use Rattle.sd_rpc_msg.specs.declared.message.Message.{Message}
use Rattle.sd_rpc_msg.specs.declared.message.Message.TheVariants.{Asked, Answered}
use Rattle.sd_rpc_msg.specs.Layout.{auth_value, message_value}
use Rattle.sd_rpc_msg.specs.Layout as rpc
use Rattle.sd_tftp.specs.declared.packet.TftpPacket.{TftpPacket}
use Rattle.sd_tftp.specs.declared.packet.TftpPacket.TheVariants as tftp
use Rattle.sd_tftp.specs.Grammar as files
use Rattle.sd_text.specs.Texts.{Text}
use Rattle.sd_text.specs.Kind.{addr_value, is_clear, is_bounded}
use Rattle.sd_text.specs.Grammar.{Reads}
use Rattle.sd_text.specs.Reading.{whole_reading}
use Rattle.sd_text.specs.Packets.{AddrFits}
use Rattle.sd_text.proofs.ReadFits.{read_has_text}
use Rattle.sd_text.proofs.Whole as whole
use Rattle.sd_show.specs.declared.procedures.Procedure.{Procedure}
use Rattle.sd_show.specs.declared.procedures.Known.{Known}
use Rattle.sd_show.specs.declared.error.ShowError.{ShowError}
use Rattle.sd_show.specs.Programs.{numbers, args_kind, results_kind}
use Rattle.sd_show.specs.Calls.{procedure_of}
use Rattle.sd_show.specs.Messages.{Body, bare, read_as, AreWrittenArgs, IsWrittenOutcome, IsWrittenBody}
use Rattle.sd_show.specs.Lines.{known_names, known_at, place, procedure_in, call_value, outcome_value, file_value, frame_value, line, carries_file, carries_message, datagram_line, frame_line}
use Rattle.sd_show.specs.Shown.{is_tftp, IsFrame, PacksFile, PacksMessage, PacksFrame, Packs}
use Rattle.sd_show.specs.Refused.{not_a_line, HasNoPacket}
use Rattle.sd_show.specs.Laws.{OnePacket, EitherPacked}
use Rattle.sd_show.proofs.Knowing.{stands, past_four, less_four}
use Rattle.sd_show.proofs.Lined.{FileOf, MessageOf, CarriedOf, a_file, a_message, LineOf, a_datagram, a_frame, lined}

-- ---- the text of a line is read in one way, within its limits

pub line_clear : is_clear line ≡ true
unfolding known_names
line_clear = refl

pub line_bounded : is_bounded line ≡ true
unfolding known_names
line_bounded = refl

pub same_value : (text : Text) (x y : Value) → Reads line text x → Reads line text y → x ≡ y
same_value text x y r s = whole.one_value line text x y line_clear r s

-- ---- what a value says

abbrev auth_in : Value → OpaqueAuth
auth_in x = record { flavor = number_of (first x); body = bytes_of (second x) }

-- what is asked, by its first number
abbrev procedure_by : Bool → Value → Procedure
procedure_by named x = cond named (procedure_in (first (second x))) (numbers (known_at (number_of (first (second x)))))

abbrev args_by : Bool → Value → List ℕ
args_by named x = cond named (bytes_of (second (second x))) (writes (args_kind (known_at (number_of (first (second x))))) (second (second x)))

abbrev call_in : Value → Call
call_in x =
    let a = first (second x) in
    let u = second (second x) in
    let p = procedure_by (eqb (number_of (first a)) 0) a in
    record { xid = number_of (first x); prog = p.prog; vers = p.vers; proc_no = p.proc_no; cred = auth_in (first u); verf = auth_in (second u); args = args_by (eqb (number_of (first a)) 0) a }

abbrev state_in : OpaqueAuth → Value → Outcome
state_in verf x =
    cond (eqb (number_of (first x)) 0) (ProgUnavail verf)
    (cond (eqb (number_of (first x)) 1) (ProgMismatch verf (number_of (first (second x))) (number_of (second (second x))))
    (cond (eqb (number_of (first x)) 2) (ProcUnavail verf) (GarbageArgs verf)))

abbrev outcome_in : Value → Outcome
outcome_in x =
    let n = number_of (first x) in
    let y = second x in
    cond (eqb n 0) (Success (auth_in (first y)) (bytes_of (second y)))
    (cond (eqb n 1) (state_in (auth_in (first y)) (second y))
    (cond (eqb n 2) (RpcMismatch (number_of (first y)) (number_of (second y)))
    (cond (eqb n 3) (AuthError (number_of y)) (Success (auth_in (first y)) (writes (results_kind (known_at (n - 4))) (second y))))))

abbrev message_in : Value → Message
message_in x = cond (eqb (number_of (first x)) 1) (Asked (call_in (second x))) (Answered record { xid = number_of (first (second x)); outcome = outcome_in (second (second x)) })

call_back : (c : Call) (b : Body) → AreWrittenArgs (procedure_of c) c.args b → call_in (call_value c b) ≡ c
call_back c (bare content) h = let e = h.0 in λ i. record c { args = e i }
call_back c (read_as k x) h =
    let back = (stands k).back in
    let p : numbers (known_at (place k)) ≡ procedure_of c = ap numbers back ∙ h.0 in
    let a : writes (args_kind (known_at (place k))) x ≡ c.args = ap (λ (j : Known). writes (args_kind j) x) back ∙ sym h.2 in
    λ i. record c { prog = (p i).prog; vers = (p i).vers; proc_no = (p i).proc_no; args = a i }

outcome_back : (o : Outcome) (b : Body) → IsWrittenOutcome o b → outcome_in (outcome_value o b) ≡ o
outcome_back (Success verf bs) (bare content) h = λ i. Success verf (h i)
outcome_back (Success verf bs) (read_as k x) h =
    let p = past_four (place k) in
    let a : writes (results_kind (known_at (place k + 4 - 4))) x ≡ bs = ap (λ (n : ℕ). writes (results_kind (known_at n)) x) (less_four (place k)) ∙ ap (λ (j : Known). writes (results_kind j) x) (stands k).back ∙ sym h.1 in
    rw (p.zero_not, p.one_not, p.two_not, p.three_not) (λ i. Success verf (a i))
outcome_back (ProgUnavail verf) b h = refl
outcome_back (ProgMismatch verf low high) b h = refl
outcome_back (ProcUnavail verf) b h = refl
outcome_back (GarbageArgs verf) b h = refl
outcome_back (RpcMismatch low high) b h = refl
outcome_back (AuthError stat) b h = refl

message_back : (m : Message) (b : Body) → IsWrittenBody m b → message_in (carries_message m b) ≡ m
message_back (Asked c) b h = ap Asked (call_back c b h)
message_back (Answered r) b h = let e = outcome_back r.outcome b h in λ i. Answered record r { outcome = e i }

pub same_message : (m n : Message) (a b : Body) → IsWrittenBody m a → IsWrittenBody n b → carries_message m a ≡ carries_message n b → m ≡ n
same_message m n a b h k e = sym (message_back m a h) ∙ ap message_in e ∙ message_back n b k

-- ---- packets of TFTP, frames and addresses

abbrev file_in : Value → TftpPacket
file_in x =
    let n = number_of (first x) in
    let y = second x in
    cond (eqb n 0) (tftp.Rrq (bytes_of (first y)) (bytes_of (second y)))
    (cond (eqb n 1) (tftp.Wrq (bytes_of (first y)) (bytes_of (second y)))
    (cond (eqb n 2) (tftp.Block (number_of (first y)) (bytes_of (second y)))
    (cond (eqb n 3) (tftp.Ack (number_of y)) (tftp.Error (number_of (first y)) (bytes_of (second y))))))

file_back : (p : TftpPacket) → file_in (file_value p) ≡ p
file_back (tftp.Rrq name mode) = refl
file_back (tftp.Wrq name mode) = refl
file_back (tftp.Block n body) = refl
file_back (tftp.Ack n) = refl
file_back (tftp.Error n text) = refl

pub same_file : (p q : TftpPacket) → file_value p ≡ file_value q → p ≡ q
same_file p q e = sym (file_back p) ∙ ap file_in e ∙ file_back q

abbrev ip_in : Value → ℕ
ip_in x = number_of (first (second x)) * 2 ^ 24 + number_of (first (second (second x))) * 2 ^ 16 + number_of (first (second (second (second x)))) * 2 ^ 8 + number_of (second (second (second (second x))))

ip_back : (n : ℕ) → n < 2 ^ 32 → ip_in (ip_value n) ≡ n
ip_back n h = omega (arith, h)

abbrev mac_in : Value → Mac
mac_in x = record { 0 = bytes_of x }

abbrev frame_in : Value → RarpFrame
frame_in x =
    let y = second x in
    cond (eqb (number_of (first x)) 0)
    (frames.Request (mac_in (first (first y))) (mac_in (second (first y))) (mac_in (first (second y))) (mac_in (second (second y))))
    (frames.Reply (mac_in (first (first y))) (mac_in (second (first y))) (mac_in (first (first (second y)))) (ip_in (second (first (second y)))) (mac_in (first (second (second y)))) (ip_in (second (second (second y)))))

frame_back : (f : RarpFrame) → IsFrame f → frame_in (frame_value f) ≡ f
frame_back (frames.Request dst src sender target) h = refl
frame_back (frames.Reply dst src sender sender_ip target target_ip) h =
    let a = ip_back sender_ip h.3 in
    let b = ip_back target_ip h.5 in
    λ i. frames.Reply dst src sender (a i) target (b i)

pub same_frame : (f g : RarpFrame) → IsFrame f → IsFrame g → frame_value f ≡ frame_value g → f ≡ g
same_frame f g h k e = sym (frame_back f h) ∙ ap frame_in e ∙ frame_back g k

same_addr : (a b : Addr) → AddrFits a → AddrFits b → addr_value a ≡ addr_value b → a ≡ b
same_addr a b h k e =
    let ip : a.ip ≡ b.ip = sym (ip_back a.ip h.ip) ∙ ap (λ (v : Value). ip_in (first v)) e ∙ ip_back b.ip k.ip in
    let port : a.port ≡ b.port = ap (λ (v : Value). number_of (second v)) e in
    λ i. record { ip = ip i; port = port i }

-- ---- one packet

-- the source, the destination and what is carried
pub record SameDatagram (a b c d : Addr) (x y : Value) : Type 0 where
  pub src : a ≡ c
  pub dst : b ≡ d
  pub carries : x ≡ y

pub same_datagram : (a b c d : Addr) (x y : Value) → AddrFits a → AddrFits b → AddrFits c → AddrFits d → datagram_line a b x ≡ datagram_line c d y → SameDatagram a b c d x y
same_datagram a b c d x y h k m n e = record {
  src = same_addr a c h m (ap (λ (v : Value). first (second v)) e);
  dst = same_addr b d k n (ap (λ (v : Value). first (second (second v))) e);
  carries = ap (λ (v : Value). second (second (second v))) e;
}

-- no message is a packet of TFTP
pub apart : (p : TftpPacket) (m : Message) (b : Body) → carries_file p ≡ carries_message m b → ⊥
apart p (Asked c) b e = let bad : 0 ≡ 1 = ap (λ (v : Value). number_of (first v)) e in omega (arith, bad)
apart p (Answered r) b e = let bad : 0 ≡ 2 = ap (λ (v : Value). number_of (first v)) e in omega (arith, bad)

pub not_a_frame : (a b : Addr) (x : Value) (f : RarpFrame) → datagram_line a b x ≡ frame_line f → ⊥
not_a_frame a b x f e = let bad : 0 ≡ 1 = ap (λ (v : Value). number_of (first v)) e in omega (arith, bad)

one_datagram : (text : Text) (a b c d : Addr) (bs cs : List ℕ) → Packs text (Udp a b bs) → Packs text (Udp c d cs) → Udp a b bs ≡ Udp c d cs
one_datagram text a b c d bs cs h k = of h.3 k.3
  where
    with_bytes : (x y : Value) → Reads line text (datagram_line a b x) → Reads line text (datagram_line c d y) → (x ≡ y → bs ≡ cs) → Udp a b bs ≡ Udp c d cs
    with_bytes x y r s same =
        let e = same_datagram a b c d x y h.0 h.1 k.0 k.1 (same_value text (datagram_line a b x) (datagram_line c d y) r s) in
        let src = e.src in
        let dst = e.dst in
        let content = same e.carries in
        λ i. Udp (src i) (dst i) (content i)

    of : PacksFile text a b bs ⊎ PacksMessage text a b bs → PacksFile text c d cs ⊎ PacksMessage text c d cs → Udp a b bs ≡ Udp c d cs
    of (inl f) (inl g) = with_bytes (carries_file f.p) (carries_file g.p) f.reads g.reads
        (λ e. f.written ∙ ap files.packet_bytes (same_file f.p g.p (ap second e)) ∙ sym g.written)
    of (inl f) (inr m) = with_bytes (carries_file f.p) (carries_message m.m m.b) f.reads m.reads (λ e. absurd (apart f.p m.m m.b e))
    of (inr m) (inl g) = with_bytes (carries_message m.m m.b) (carries_file g.p) m.reads g.reads (λ e. absurd (apart g.p m.m m.b (sym e)))
    of (inr m) (inr n) = with_bytes (carries_message m.m m.b) (carries_message n.m n.b) m.reads n.reads
        (λ e. m.written ∙ ap (λ (x : Message). writes rpc.message (message_value x)) (same_message m.m n.m m.b n.b m.body n.body e) ∙ sym n.written)

mixed : (text : Text) (a b : Addr) (bs cs : List ℕ) (f : RarpFrame) → PacksFile text a b bs ⊎ PacksMessage text a b bs → PacksFrame text cs f → ⊥
mixed text a b bs cs f (inl h) k = not_a_frame a b (carries_file h.p) f (same_value text (datagram_line a b (carries_file h.p)) (frame_line f) h.reads k.reads)
mixed text a b bs cs f (inr h) k = not_a_frame a b (carries_message h.m h.b) f (same_value text (datagram_line a b (carries_message h.m h.b)) (frame_line f) h.reads k.reads)

pub one_packet : OnePacket
one_packet text (Udp a b bs) (Udp c d cs) h k = one_datagram text a b c d bs cs h k
one_packet text (Udp a b bs) (Frame cs) h k = absurd (mixed text a b bs cs k.0 h.3 k.1)
one_packet text (Frame bs) (Udp c d cs) h k = absurd (mixed text c d cs bs h.0 k.3 h.1)
one_packet text (Frame bs) (Frame cs) h k =
    let f = h.0 in
    let g = k.0 in
    let same = same_frame f g h.1.is k.1.is (ap second (same_value text (frame_line f) (frame_line g) h.1.reads k.1.reads)) in
    ap Frame (h.1.written ∙ ap frame_bytes same ∙ sym k.1.written)

-- ---- a packet or none

-- what the text of a datagram says
record SaidOf (text : Text) (a b : Addr) : Type 0 where
  x : Value
  reads : Reads line text (datagram_line a b x)

said_of : (text : Text) (a b : Addr) (bs : List ℕ) → PacksFile text a b bs ⊎ PacksMessage text a b bs → SaidOf text a b
said_of text a b bs (inl h) = record { x = carries_file h.p; reads = h.reads }
said_of text a b bs (inr h) = record { x = carries_message h.m h.b; reads = h.reads }

-- no packet, where no datagram between these addresses is one
no_packet : (text : Text) (src dst : Addr) (c : Value) → AddrFits src → AddrFits dst → Reads line text (datagram_line src dst c) → ((bs : List ℕ) → length bs ≤ 9216 → PacksFile text src dst bs ⊎ PacksMessage text src dst bs → ⊥)
    → (packet : Packet) → Packs text packet → ⊥
no_packet text src dst c from to r never (Udp a b bs) h =
    let s = said_of text a b bs h.3 in
    let e = same_datagram a b src dst s.x c h.0 h.1 from to (same_value text (datagram_line a b s.x) (datagram_line src dst c) s.reads r) in
    never bs h.2 (subst (λ (y : Addr). PacksFile text src y bs ⊎ PacksMessage text src y bs) e.dst (subst (λ (y : Addr). PacksFile text y b bs ⊎ PacksMessage text y b bs) e.src h.3))
no_packet text src dst c from to r never (Frame bs) h = not_a_frame src dst c h.0 (same_value text (datagram_line src dst c) (frame_line h.0) r h.1.reads)

carries_one : (text : Text) (src dst : Addr) (x y : Value) → Reads line text (datagram_line src dst x) → Reads line text (datagram_line src dst y) → x ≡ y
carries_one text src dst x y r s = ap (λ (v : Value). second (second (second v))) (same_value text (datagram_line src dst x) (datagram_line src dst y) r s)

no_file : (text : Text) (src dst : Addr) (p : TftpPacket) → Reads line text (datagram_line src dst (carries_file p)) → (is_tftp src dst ≡ false) ⊎ (9216 < length (files.packet_bytes p))
    → (bs : List ℕ) → length bs ≤ 9216 → PacksFile text src dst bs ⊎ PacksMessage text src dst bs → ⊥
no_file text src dst p r (inl other) bs few (inl h) = false≢true (sym other ∙ h.port)
no_file text src dst p r (inr long) bs few (inl h) =
    let same = same_file h.p p (ap second (carries_one text src dst (carries_file h.p) (carries_file p) h.reads r)) in
    omega (arith, long, few, ap length h.written, ap (λ (q : TftpPacket). length (files.packet_bytes q)) same)
no_file text src dst p r why bs few (inr h) = apart p h.m h.b (carries_one text src dst (carries_file p) (carries_message h.m h.b) r h.reads)

no_message : (text : Text) (src dst : Addr) (m : Message) (b : Body) → IsWrittenBody m b → Reads line text (datagram_line src dst (carries_message m b)) → (is_tftp src dst ≡ true) ⊎ (9216 < length (writes rpc.message (message_value m)))
    → (bs : List ℕ) → length bs ≤ 9216 → PacksFile text src dst bs ⊎ PacksMessage text src dst bs → ⊥
no_message text src dst m b w r why bs few (inl h) = apart h.p m b (carries_one text src dst (carries_file h.p) (carries_message m b) h.reads r)
no_message text src dst m b w r (inl port) bs few (inr h) = false≢true (sym h.other ∙ port)
no_message text src dst m b w r (inr long) bs few (inr h) =
    let same = same_message h.m m h.b b h.body w (carries_one text src dst (carries_message h.m h.b) (carries_message m b) h.reads r) in
    omega (arith, long, few, ap length h.written, ap (λ (n : Message). length (writes rpc.message (message_value n))) same)

abbrev Either : Text → Type 0
Either text = ((packet : Packet) × Packs text packet) ⊎ ((e : ShowError) × HasNoPacket text e)

none_of : (text : Text) → ((packet : Packet) → Packs text packet → ⊥) → Either text
none_of text never = inr (not_a_line, (refl, never))

file_way : (text : Text) (src dst : Addr) (x : Value) → AddrFits src → AddrFits dst → FileOf x → Reads line text (datagram_line src dst (number 0 ⊗ x)) → Either text
file_way text src dst x from to f s =
    let r : Reads line text (datagram_line src dst (carries_file f.p)) = subst (λ (v : Value). Reads line text (datagram_line src dst (number 0 ⊗ v))) f.is s in
    elim (cases_Bool (is_tftp src dst)) [
      | inr other ↦ none_of text (no_packet text src dst (carries_file f.p) from to r (no_file text src dst f.p r (inl other)))
      | inl port ↦ elim (cases_lt 9216 (length (files.packet_bytes f.p))) [
        | inl long ↦ none_of text (no_packet text src dst (carries_file f.p) from to r (no_file text src dst f.p r (inr long)))
        | inr few ↦ inl (Udp src dst (files.packet_bytes f.p), (from, to, few, inl record { p = f.p; port = port; range = f.range; fits = f.fits; written = refl; reads = r }))
      ]
    ]

message_way : (text : Text) (src dst : Addr) (x : Value) → AddrFits src → AddrFits dst → MessageOf x → Reads line text (datagram_line src dst x) → Either text
message_way text src dst x from to m s =
    let r : Reads line text (datagram_line src dst (carries_message m.m m.b)) = subst (λ (v : Value). Reads line text (datagram_line src dst v)) m.is s in
    let content = writes rpc.message (message_value m.m) in
    elim (cases_Bool (is_tftp src dst)) [
      | inl port ↦ none_of text (no_packet text src dst (carries_message m.m m.b) from to r (no_message text src dst m.m m.b m.written r (inl port)))
      | inr other ↦ elim (cases_lt 9216 (length content)) [
        | inl long ↦ none_of text (no_packet text src dst (carries_message m.m m.b) from to r (no_message text src dst m.m m.b m.written r (inr long)))
        | inr few ↦ inl (Udp src dst content, (from, to, few, inr record { m = m.m; b = m.b; other = other; is = m.fits; body = m.written; written = refl; reads = r }))
      ]
    ]

datagram_way : (text : Text) (src dst : Addr) (c : Value) → AddrFits src → AddrFits dst → CarriedOf c → Reads line text (datagram_line src dst c) → Either text
datagram_way text src dst c from to (a_file f e) r = file_way text src dst (second c) from to f (subst (λ (v : Value). Reads line text (datagram_line src dst v)) e r)
datagram_way text src dst c from to (a_message m) r = message_way text src dst c from to m r

line_way : (text : Text) (v : Value) → Reads line text v → LineOf v → Either text
line_way text v r (a_datagram d) = datagram_way text d.src d.dst d.c d.from d.to d.carries (subst (Reads line text) d.is r)
line_way text v r (a_frame f e) =
    inl (Frame (frame_bytes f.f), (f.f, record { is = f.fits; written = refl; reads = subst (Reads line text) (e ∙ ap (λ (x : Value). number 1 ⊗ x) f.is) r }))

-- a packet's text spells a value
some_value : (text : Text) (packet : Packet) → Packs text packet → (v : Value) × Reads line text v
some_value text (Udp a b bs) h = let s = said_of text a b bs h.3 in (datagram_line a b s.x, s.reads)
some_value text (Frame bs) h = (frame_line h.0, h.1.reads)

pub none_spelled : (text : Text) → whole_reading line text ≡ None → (packet : Packet) → Packs text packet → ⊥
none_spelled text e packet h = let v = some_value text packet h in ((whole.reading_is_the_grammar line text line_clear).1).0 e v.0 v.1

pub either_packed : EitherPacked
either_packed text = of (whole_reading line text) refl
  where
    of : (r : Option Value) → whole_reading line text ≡ r → Either text
    of None e = none_of text (none_spelled text e)
    of (Some v) e = let r = whole.whole_sound line text v e in line_way text v r (lined v (read_has_text line text v line_bounded r))
