-- What the text of a packet spells is within the limits.
use Rattle.std.proofs.Common.{◌≡◌, ℕ, ◌<◌, ◌^◌, true, not, eqb, List, [], ◌∷◌, ◌++◌, length, Option, Some, None, refl, sym, ap, subst, ◌∙◌, arith}
use Rattle.std.proofs.lemmas.Bool.{and_from, ne_eqb, not_from_false}
use Rattle.sd_outside.specs.declared.packet.Addr.{Addr}
use Rattle.sd_xdr.specs.Kind as xdr
use Rattle.sd_xdr.specs.Kind.{whole, part, ended, Value, none, number, bytes, ◌⊗◌}
use Rattle.sd_xdr.specs.Grammar as message
use Rattle.sd_xdr.specs.Grammar.{word_bytes, filled, counted, reads_ended, writes}
use Rattle.sd_bootparams.specs.Layout.{ip_value}
use Rattle.sd_rarp.specs.declared.frame.RarpFrame.{RarpFrame}
use Rattle.sd_rarp.specs.declared.frame.RarpFrame.TheVariants as frames
use Rattle.sd_rpc_msg.specs.declared.message.OpaqueAuth.{OpaqueAuth}
use Rattle.sd_rpc_msg.specs.declared.message.Outcome.{Outcome}
use Rattle.sd_rpc_msg.specs.declared.message.Outcome.TheVariants.{Success, ProgUnavail, ProgMismatch, ProcUnavail, GarbageArgs, RpcMismatch, AuthError}
use Rattle.sd_rpc_msg.specs.declared.message.Message.{Message}
use Rattle.sd_rpc_msg.specs.declared.message.Message.TheVariants.{Asked, Answered}
use Rattle.sd_rpc_msg.specs.Layout as rpc
use Rattle.sd_rpc_msg.specs.Layout.{auth_value, message_value}
use Rattle.sd_rpc_msg.specs.Laws.{IsWord, IsAuth, IsOutcome, IsMessage}
use Rattle.sd_tftp.specs.declared.packet.TftpPacket.{TftpPacket}
use Rattle.sd_tftp.specs.Grammar as tftp
use Rattle.sd_tftp.specs.Grammar.{spells_rrq, spells_wrq, spells_data, spells_ack, spells_error}
use Rattle.sd_text.specs.Kind.{all_pass, place_in, Kind, ip, addr, addr_value, any}
use Rattle.sd_text.specs.Grammar.{HasText}
use Rattle.sd_text.specs.Packets.{AddrFits}
use Rattle.sd_show.specs.declared.procedures.Procedure.{Procedure}
use Rattle.sd_show.specs.declared.procedures.Known.{Known}
use Rattle.sd_show.specs.declared.calls.Heard.{Heard}
use Rattle.sd_show.specs.Fields.{fields_kind, fields_text}
use Rattle.sd_show.specs.Programs.{args_kind, results_kind, args, results}
use Rattle.sd_show.specs.Calls.{procedure_of, answered}
use Rattle.sd_show.specs.Messages.{Body, bare, read_as, AreArgs, AreResults, IsOutcomeBody, IsBody}
use Rattle.sd_show.specs.Shown.{IsFrame}
use Rattle.sd_show.specs.Lines.{frame, frame_value, file, file_value, known_names, auth, content, range, asked, asked_value, outcome, outcome_value, carried, line, carries_file, carries_message, datagram_line, frame_line}
use Rattle.sd_show.proofs.Agreeing.{args_are, results_are}
use Rattle.sd_show.proofs.Knowing.{stands, is_other_from, named_back, answer_back}
use Rattle.sd_show.proofs.ValuesFit.{Sound, front, back, fields_told}

-- ---- addresses and frames

ip_fits : (n : ℕ) → n < 2 ^ 32 → HasText ip (ip_value n)
ip_fits n h = (
  refl,
  (refl, (refl, omega arith, omega (arith, h), omega (arith, h)), (refl, (refl, omega arith, omega arith, omega arith), (refl, (refl, omega arith, omega arith, omega arith), (refl, omega arith, omega arith, omega arith)))),
)

addr_fits : (a : Addr) → AddrFits a → HasText addr (addr_value a)
addr_fits a h = (refl, ip_fits a.ip h.ip, (refl, omega arith, omega (arith, h.port), omega (arith, h.port)))

frame_fits : (f : RarpFrame) → IsFrame f → HasText frame (frame_value f)
frame_fits (frames.Request dst src sender target) h =
    (refl, refl, (refl, (refl, (refl, h.0.bytes, h.0.wide), (refl, h.1.bytes, h.1.wide)), (refl, (refl, h.2.bytes, h.2.wide), (refl, h.3.bytes, h.3.wide))))
frame_fits (frames.Reply dst src sender sender_ip target target_ip) h = (
  refl,
  refl,
  (
    refl,
    (refl, (refl, h.0.bytes, h.0.wide), (refl, h.1.bytes, h.1.wide)),
    (refl, (refl, (refl, h.2.bytes, h.2.wide), ip_fits sender_ip h.3), (refl, (refl, h.4.bytes, h.4.wide), ip_fits target_ip h.5)),
  ),
)

pub frame_line_fits : (f : RarpFrame) → IsFrame f → HasText line (frame_line f)
frame_line_fits f h = (refl, refl, frame_fits f h)

-- ---- packets of TFTP

passes : (bs : List ℕ) → tftp.HasNoZero bs → all_pass (λ b. not (eqb b 0)) bs ≡ true
passes [] h = refl
passes (b ∷ bs) h = and_from (not (eqb b 0)) (all_pass (λ b. not (eqb b 0)) bs) (not_from_false (eqb b 0) (ne_eqb b 0 h.0)) (passes bs h.1)

-- a text, its zero and what follows
split : (a b : List ℕ) → Sound (a ++ (0 ∷ b)) → Sound a × Sound b
split a b s = (front a (0 ∷ b) s, back (0 ∷ []) b (back a (0 ∷ b) s))

file_fits : (content : List ℕ) (p : TftpPacket) → tftp.Spells content p → Sound content → HasText file (file_value p)
file_fits content p (spells_rrq name mode tail is f m) s =
    let all = back (0 ∷ 1 ∷ []) (name ++ (0 ∷ (mode ++ (0 ∷ tail)))) (subst Sound is s) in
    let a = split name (mode ++ (0 ∷ tail)) all in
    let b = split mode tail a.1 in
    (refl, refl, (refl, ((refl, a.0.bytes_are, a.0.short), passes name f), ((refl, b.0.bytes_are, b.0.short), passes mode m)))
file_fits content p (spells_wrq name mode tail is f m) s =
    let all = back (0 ∷ 2 ∷ []) (name ++ (0 ∷ (mode ++ (0 ∷ tail)))) (subst Sound is s) in
    let a = split name (mode ++ (0 ∷ tail)) all in
    let b = split mode tail a.1 in
    (refl, refl, (refl, ((refl, a.0.bytes_are, a.0.short), passes name f), ((refl, b.0.bytes_are, b.0.short), passes mode m)))
file_fits content p (spells_data n body is fits few) s =
    let b = back (tftp.word n) body (back (0 ∷ 3 ∷ []) (tftp.word n ++ body) (subst Sound is s)) in
    (refl, refl, (refl, (refl, omega arith, omega (arith, fits), omega (arith, fits)), (refl, b.bytes_are, omega arith, few, omega (arith, few))))
file_fits content p (spells_ack n is fits) s = (refl, refl, (refl, omega arith, omega (arith, fits), omega (arith, fits)))
file_fits content p (spells_error n text is fits h) s =
    let b = back (tftp.word n) (text ++ (0 ∷ [])) (back (0 ∷ 5 ∷ []) (tftp.word n ++ (text ++ (0 ∷ []))) (subst Sound is s)) in
    let t = split text [] b in
    (refl, refl, (refl, (refl, omega arith, omega (arith, fits), omega (arith, fits)), ((refl, t.0.bytes_are, t.0.short), passes text h)))

-- ---- calls

word_fits : (n : ℕ) → IsWord n → HasText any (number n)
word_fits n h = (refl, omega arith, omega (arith, h), omega (arith, h))

auth_fits : (a : OpaqueAuth) → IsAuth a → Sound (writes rpc.auth (auth_value a)) → HasText auth (auth_value a)
unfolding counted filled
auth_fits a is s =
    let b = front a.body _ (back (word_bytes (length a.body)) _ (back (word_bytes a.flavor) _ s)) in
    (refl, word_fits a.flavor is.0, (refl, b.bytes_are, omega arith, is.1, omega (arith, b.short)))

content_fits : (bs : List ℕ) → Sound bs → HasText content (bytes bs)
content_fits bs s = (refl, s.bytes_are, omega arith, s.short, omega (arith, s.short))

part_of : (M : xdr.Kind part) (bs : List ℕ) (x : Value) → message.Reads whole (ended M) bs x → message.Reads part M bs x
part_of M bs x (reads_ended r) = r

args_fit : (k : Known) (bs : List ℕ) (x : Value) → message.Reads whole (args_kind k) bs x → Sound bs → HasText (fields_text (args k)) x
args_fit k bs x r s = fields_told (args k) bs x (part_of (fields_kind (args k)) bs x (subst (λ (K : xdr.Kind whole). message.Reads whole K bs x) (sym (args_are k)) r)) s

results_fit : (k : Known) (bs : List ℕ) (x : Value) → message.Reads whole (results_kind k) bs x → Sound bs → HasText (fields_text (results k)) x
results_fit k bs x r s = fields_told (results k) bs x (part_of (fields_kind (results k)) bs x (subst (λ (K : xdr.Kind whole). message.Reads whole K bs x) (sym (results_are k)) r)) s

asked_fits : (p : Procedure) (bs : List ℕ) (b : Body) → IsWord p.prog → IsWord p.vers → IsWord p.proc_no → AreArgs p bs b → Sound bs → HasText asked (asked_value p b)
asked_fits p bs (bare x) u v w h s =
    let t = subst Sound (sym h.0) s in
    (refl, (refl, ((refl, word_fits p.prog u, (refl, word_fits p.vers v, word_fits p.proc_no w)), is_other_from p h.1), content_fits x t))
asked_fits p bs (read_as k x) u v w h s = (
  refl,
  (refl, ap (λ t. place_in t known_names) (stands k).name ∙ (stands k).at, subst (λ (K : Kind). HasText K x) (sym (named_back k)) (args_fit k bs x h.1 s)),
)

-- ---- replies

results_text_fit : (asked : Option Procedure) (verf : OpaqueAuth) (bs : List ℕ) (b : Body) → HasText auth (auth_value verf) → AreResults asked bs b → Sound bs → HasText outcome (outcome_value (Success verf bs) b)
results_text_fit None verf bs (bare x) a h s = (refl, refl, (refl, a, content_fits x (subst Sound (sym h) s)))
results_text_fit None verf bs (read_as k x) a h s = absurd h
results_text_fit (Some p) verf bs (bare x) a h s = (refl, refl, (refl, a, content_fits x (subst Sound (sym h.0) s)))
results_text_fit (Some p) verf bs (read_as k x) a h s =
    (refl, (stands k).answers, subst (λ (K : Kind). HasText K (auth_value verf ⊗ x)) (sym (answer_back k)) (refl, a, results_fit k bs x h.1 s))

-- a verifier behind a word
verf_fits : (verf : OpaqueAuth) (rest : List ℕ) → IsAuth verf → Sound (word_bytes 0 ++ (writes rpc.auth (auth_value verf) ++ rest)) → HasText auth (auth_value verf)
verf_fits verf rest is s = auth_fits verf is (front (writes rpc.auth (auth_value verf)) rest (back (word_bytes 0) (writes rpc.auth (auth_value verf) ++ rest) s))

range_fits : (low high : ℕ) → IsWord low → IsWord high → HasText range (number low ⊗ number high)
range_fits low high a b = (refl, word_fits low a, word_fits high b)

outcome_fits : (asked : Option Procedure) (o : Outcome) (b : Body) → IsOutcome o → IsOutcomeBody asked o b → Sound (writes rpc.reply (rpc.outcome_value o)) → HasText outcome (outcome_value o b)
outcome_fits asked (Success verf bs) b is body s =
    let a = writes rpc.auth (auth_value verf) in
    let after = back (word_bytes 0) bs (back a (word_bytes 0 ++ bs) (back (word_bytes 0) (a ++ (word_bytes 0 ++ bs)) s)) in
    results_text_fit asked verf bs b (verf_fits verf (word_bytes 0 ++ bs) is s) body after
outcome_fits asked (ProgUnavail verf) b is body s = (refl, refl, (refl, verf_fits verf (word_bytes 1 ++ []) is s, (refl, refl, refl)))
outcome_fits asked (ProgMismatch verf low high) b is body s =
    (refl, refl, (refl, verf_fits verf (word_bytes 2 ++ (word_bytes low ++ word_bytes high)) is.0 s, (refl, refl, range_fits low high is.1 is.2)))
outcome_fits asked (ProcUnavail verf) b is body s = (refl, refl, (refl, verf_fits verf (word_bytes 3 ++ []) is s, (refl, refl, refl)))
outcome_fits asked (GarbageArgs verf) b is body s = (refl, refl, (refl, verf_fits verf (word_bytes 4 ++ []) is s, (refl, refl, refl)))
outcome_fits asked (RpcMismatch low high) b is body s = (refl, refl, range_fits low high is.0 is.1)
outcome_fits asked (AuthError stat) b is body s = (refl, refl, (refl, is.0, is.1, omega (arith, is.1)))

-- ---- datagrams

message_fits : (seen : List Heard) (src dst : Addr) (m : Message) (b : Body) → IsMessage m → IsBody seen src dst m b → Sound (writes rpc.message (message_value m)) → HasText carried (carries_message m b)
message_fits seen src dst (Asked c) b is body s =
    let cred_bytes = writes rpc.auth (auth_value c.cred) in
    let verf_bytes = writes rpc.auth (auth_value c.verf) in
    let verf = verf_bytes ++ c.args in
    let cred = cred_bytes ++ verf in
    let procedure = word_bytes c.proc_no ++ cred in
    let version = word_bytes c.vers ++ procedure in
    let program = word_bytes c.prog ++ version in
    let two = word_bytes 2 ++ program in
    let call = word_bytes 0 ++ two in
    let auths : Sound cred = back (word_bytes c.proc_no) cred (back (word_bytes c.vers) procedure (back (word_bytes c.prog) version (back (word_bytes 2) program (back (word_bytes 0) two (back (word_bytes c.xid) call s))))) in
    let behind : Sound verf = back cred_bytes verf auths in
    let content : Sound c.args = back verf_bytes c.args behind in
    (refl, refl, (refl, word_fits c.xid is.0, (refl, asked_fits (procedure_of c) c.args b is.1 is.2 is.3 body content, (refl, auth_fits c.cred is.4 (front cred_bytes verf auths), auth_fits c.verf is.5 (front verf_bytes c.args behind)))))
message_fits seen src dst (Answered r) b is body s =
    let rest = writes rpc.reply (rpc.outcome_value r.outcome) in
    (refl, refl, (refl, word_fits r.xid is.0, outcome_fits (answered r.xid src dst seen) r.outcome b is.1 body (back (word_bytes 1) rest (back (word_bytes r.xid) (word_bytes 1 ++ rest) s))))

datagram_fits : (src dst : Addr) (x : Value) → AddrFits src → AddrFits dst → HasText carried x → HasText line (datagram_line src dst x)
datagram_fits src dst x from to h = (refl, refl, (refl, addr_fits src from, (refl, addr_fits dst to, h)))

pub file_line_fits : (src dst : Addr) (content : List ℕ) (p : TftpPacket) → AddrFits src → AddrFits dst → tftp.Spells content p → Sound content → HasText line (datagram_line src dst (carries_file p))
file_line_fits src dst content p from to spells s = datagram_fits src dst (carries_file p) from to (refl, refl, file_fits content p spells s)

pub message_line_fits : (seen : List Heard) (src dst : Addr) (m : Message) (b : Body) → AddrFits src → AddrFits dst → IsMessage m → IsBody seen src dst m b → Sound (writes rpc.message (message_value m)) → HasText line (datagram_line src dst (carries_message m b))
message_line_fits seen src dst m b from to is body s = datagram_fits src dst (carries_message m b) from to (message_fits seen src dst m b is body s)
