-- The written form of a message, and how long it is.
use Rattle.std.proofs.Common.{◌≡◌, ℕ, ◌≤◌, List, [], ◌∷◌, ◌++◌, length, Option, Some, None, refl, ap, arith}
use Rattle.std.proofs.lemmas.List.{length-append}
use Rattle.sd_outside.specs.Bytes.{IsBytes}
use Rattle.sd_outside.specs.declared.packet.Addr.{Addr}
use Rattle.sd_xdr.specs.Kind.{End, whole, Kind, Value, none, number, bytes, ◌⊗◌}
use Rattle.sd_xdr.specs.Grammar.{word_bytes, filled, counted, Reads, reads_void, reads_word, reads_fixed, reads_upto, reads_auth, reads_rest, reads_row, reads_union, reads_end, reads_more, reads_given, reads_ended, writes}
use Rattle.sd_xdr.proofs.Writes.{read_has_spelling}
use Rattle.sd_rpc_msg.specs.declared.message.OpaqueAuth.{OpaqueAuth}
use Rattle.sd_rpc_msg.specs.declared.message.Call.{Call}
use Rattle.sd_rpc_msg.specs.declared.message.Outcome.{Outcome}
use Rattle.sd_rpc_msg.specs.declared.message.Outcome.TheVariants.{Success, ProgUnavail, ProgMismatch, ProcUnavail, GarbageArgs, RpcMismatch, AuthError}
use Rattle.sd_rpc_msg.specs.declared.message.Message.{Message}
use Rattle.sd_rpc_msg.specs.declared.message.Message.TheVariants.{Asked, Answered}
use Rattle.sd_rpc_msg.specs.Layout as rpc
use Rattle.sd_rpc_msg.specs.Layout.{auth, reply, message, auth_value, message_value}
use Rattle.sd_rpc_msg.specs.Laws.{IsOutcome, IsMessage}
use Rattle.sd_tftp.specs.declared.packet.TftpPacket.{TftpPacket}
use Rattle.sd_tftp.specs.Grammar as tftp
use Rattle.sd_tftp.specs.Grammar.{spells_rrq, spells_wrq, spells_data, spells_ack, spells_error}
use Rattle.sd_show.specs.declared.procedures.Procedure.{Procedure}
use Rattle.sd_show.specs.declared.calls.Heard.{Heard}
use Rattle.sd_show.specs.Forms.{longest}
use Rattle.sd_show.specs.Programs.{args_kind, results_kind}
use Rattle.sd_show.specs.Calls.{answered}
use Rattle.sd_show.specs.Messages.{Body, bare, read_as, AreResults, IsOutcomeBody, IsBody, IsWrittenOutcome, IsWrittenBody, with_results, with_body}
use Rattle.sd_show.specs.Lines.{outcome_value, carries_message}
use Rattle.sd_show.proofs.ValuesFit.{Sound, front, back}

-- the bytes in a value are bytes, and no more than a datagram has
abbrev pub ValueFits : Value → Type 0
ValueFits none = Unit {0}
ValueFits (number n) = Unit {0}
ValueFits (bytes bs) = IsBytes bs × (length bs ≤ longest)
ValueFits (x ⊗ y) = ValueFits x × ValueFits y

-- ---- values that are read

fits_of : {e : End} {K : Kind e} {bs : List ℕ} {x : Value} → Reads e K bs x → Sound bs → ValueFits x
unfolding counted filled
fits_of reads_void h = tt
fits_of (reads_word n lt a) h = tt
fits_of (reads_fixed bs len) h = let s = front bs _ h in (s.bytes_are, s.short)
fits_of (reads_upto bs below limit) h = let s = front bs _ (back (word_bytes (length bs)) _ h) in (s.bytes_are, s.short)
fits_of (reads_auth bs limit) h = let s = front bs _ (back (word_bytes (length bs)) _ h) in (s.bytes_are, s.short)
fits_of reads_end h = tt
fits_of (reads_more {front = first_bytes} {bs = bs} s t) h =
    let both = back (word_bytes 1) (first_bytes ++ bs) h in
    (fits_of s (front first_bytes bs both), fits_of t (back first_bytes bs both))
fits_of (reads_row {front = first_bytes} {bs = bs} s t) h = (fits_of s (front first_bytes bs h), fits_of t (back first_bytes bs h))
fits_of (reads_union {bs = bs} n lt a t) h = (tt, fits_of t (back (word_bytes n) bs h))
fits_of (reads_given t) h = (tt, fits_of t h)
fits_of (reads_ended t) h = fits_of t h
fits_of reads_rest h = (h.bytes_are, h.short)

-- what is read fits a datagram where its bytes do
pub read_fits : (K : Kind whole) (bs : List ℕ) (x : Value) → Reads whole K bs x → Sound bs → ValueFits x
read_fits K bs x h s = fits_of h s

words_long : (m n : ℕ) → length (word_bytes m) ≡ length (word_bytes n)
unfolding word_bytes
words_long m n = refl

pub long_append : (a b c d : List ℕ) → length a ≡ length c → length b ≡ length d → length (a ++ b) ≡ length (c ++ d)
long_append a b c d h k = omega (arith, length-append a b, length-append c d, h, k)

long_of : {e : End} {K : Kind e} {bs : List ℕ} {x : Value} → Reads e K bs x → length (writes K x) ≡ length bs
long_of reads_void = refl
long_of (reads_word n lt a) = words_long _ n
long_of (reads_fixed bs len) = refl
long_of (reads_upto bs below limit) = refl
long_of (reads_auth bs limit) = refl
long_of reads_end = refl
long_of (reads_more s t) = long_append (word_bytes 1) _ (word_bytes 1) _ refl (long_append _ _ _ _ (long_of s) (long_of t))
long_of (reads_row s t) = long_append _ _ _ _ (long_of s) (long_of t)
long_of (reads_union n lt a t) = long_append _ _ (word_bytes n) _ (words_long _ n) (long_of t)
long_of (reads_given t) = long_of t
long_of (reads_ended t) = long_of t
long_of reads_rest = refl

-- what is written for a value is as long as what was read
pub written_long : (K : Kind whole) (bs : List ℕ) (x : Value) → Reads whole K bs x → length (writes K x) ≡ length bs
written_long K bs x h = long_of h

-- ---- the written form of a message

written_results : (asked : Option Procedure) (verf : OpaqueAuth) (bs : List ℕ) (b : Body) → AreResults asked bs b → IsWrittenOutcome (with_results (Success verf bs) b) b
written_results None verf bs (bare x) h = h
written_results None verf bs (read_as k x) h = absurd h
written_results (Some p) verf bs (bare x) h = h.0
written_results (Some p) verf bs (read_as k x) h = (read_has_spelling whole (results_kind k) bs x h.1, refl)

written_outcome : (asked : Option Procedure) (o : Outcome) (b : Body) → IsOutcomeBody asked o b → IsWrittenOutcome (with_results o b) b
written_outcome asked (Success verf bs) b h = written_results asked verf bs b h
written_outcome asked (ProgUnavail verf) b h = h
written_outcome asked (ProgMismatch verf low high) b h = h
written_outcome asked (ProcUnavail verf) b h = h
written_outcome asked (GarbageArgs verf) b h = h
written_outcome asked (RpcMismatch low high) b h = h
written_outcome asked (AuthError stat) b h = h

pub written_body : (seen : List Heard) (src dst : Addr) (m : Message) (b : Body) → IsBody seen src dst m b → IsWrittenBody (with_body m b) b
written_body seen src dst (Asked c) (bare x) h = h
written_body seen src dst (Asked c) (read_as k x) h = (h.0, read_has_spelling whole (args_kind k) c.args x h.1, refl)
written_body seen src dst (Answered r) b h = written_outcome (answered r.xid src dst seen) r.outcome b h

is_outcome : (o : Outcome) (b : Body) → IsOutcome o → IsOutcome (with_results o b)
is_outcome (Success verf bs) (bare x) h = h
is_outcome (Success verf bs) (read_as k x) h = h
is_outcome (ProgUnavail verf) b h = h
is_outcome (ProgMismatch verf low high) b h = h
is_outcome (ProcUnavail verf) b h = h
is_outcome (GarbageArgs verf) b h = h
is_outcome (RpcMismatch low high) b h = h
is_outcome (AuthError stat) b h = h

pub is_message : (m : Message) (b : Body) → IsMessage m → IsMessage (with_body m b)
is_message (Asked c) (bare x) h = h
is_message (Asked c) (read_as k x) h = h
is_message (Answered r) b h = (h.0, is_outcome r.outcome b h.1)

same_outcome : (o : Outcome) (b : Body) → outcome_value (with_results o b) b ≡ outcome_value o b
same_outcome (Success verf bs) (bare x) = refl
same_outcome (Success verf bs) (read_as k x) = refl
same_outcome (ProgUnavail verf) b = refl
same_outcome (ProgMismatch verf low high) b = refl
same_outcome (ProcUnavail verf) b = refl
same_outcome (GarbageArgs verf) b = refl
same_outcome (RpcMismatch low high) b = refl
same_outcome (AuthError stat) b = refl

-- it says the same
pub same_text : (m : Message) (b : Body) → carries_message (with_body m b) b ≡ carries_message m b
same_text (Asked c) (bare x) = refl
same_text (Asked c) (read_as k x) = refl
same_text (Answered r) b = ap (λ (v : Value). number 2 ⊗ number r.xid ⊗ v) (same_outcome r.outcome b)

-- it is as long as the message
behind_long : (a b c : List ℕ) → length b ≡ length c → length (a ++ b) ≡ length (a ++ c)
behind_long a b c h = long_append a b a c refl h

success_long : (verf : OpaqueAuth) (bs cs : List ℕ) → length cs ≡ length bs → length (writes reply (rpc.outcome_value (Success verf cs))) ≡ length (writes reply (rpc.outcome_value (Success verf bs)))
success_long verf bs cs h =
    let a = writes auth (auth_value verf) in
    behind_long (word_bytes 0) (a ++ (word_bytes 0 ++ cs)) (a ++ (word_bytes 0 ++ bs)) (behind_long a (word_bytes 0 ++ cs) (word_bytes 0 ++ bs) (behind_long (word_bytes 0) cs bs h))

results_long : (asked : Option Procedure) (verf : OpaqueAuth) (bs : List ℕ) (b : Body) → AreResults asked bs b → length (writes reply (rpc.outcome_value (with_results (Success verf bs) b))) ≡ length (writes reply (rpc.outcome_value (Success verf bs)))
results_long None verf bs (bare x) h = refl
results_long None verf bs (read_as k x) h = absurd h
results_long (Some p) verf bs (bare x) h = refl
results_long (Some p) verf bs (read_as k x) h = success_long verf bs (writes (results_kind k) x) (written_long (results_kind k) bs x h.1)

outcome_long : (asked : Option Procedure) (o : Outcome) (b : Body) → IsOutcomeBody asked o b → length (writes reply (rpc.outcome_value (with_results o b))) ≡ length (writes reply (rpc.outcome_value o))
outcome_long asked (Success verf bs) b h = results_long asked verf bs b h
outcome_long asked (ProgUnavail verf) b h = refl
outcome_long asked (ProgMismatch verf low high) b h = refl
outcome_long asked (ProcUnavail verf) b h = refl
outcome_long asked (GarbageArgs verf) b h = refl
outcome_long asked (RpcMismatch low high) b h = refl
outcome_long asked (AuthError stat) b h = refl

call_long : (c : Call) (bs : List ℕ) → length bs ≡ length c.args → length (writes message (message_value (Asked record c { args = bs }))) ≡ length (writes message (message_value (Asked c)))
call_long c bs h =
    let a = writes auth (auth_value c.cred) in
    let v = writes auth (auth_value c.verf) in
    let verf = λ (x : List ℕ). v ++ x in
    let cred = λ (x : List ℕ). a ++ verf x in
    let procedure = λ (x : List ℕ). word_bytes c.proc_no ++ cred x in
    let version = λ (x : List ℕ). word_bytes c.vers ++ procedure x in
    let program = λ (x : List ℕ). word_bytes c.prog ++ version x in
    let rpc = λ (x : List ℕ). word_bytes 2 ++ program x in
    let call = λ (x : List ℕ). word_bytes 0 ++ rpc x in
    behind_long (word_bytes c.xid) (call bs) (call c.args) (behind_long (word_bytes 0) (rpc bs) (rpc c.args) (behind_long (word_bytes 2) (program bs) (program c.args)
    (behind_long (word_bytes c.prog) (version bs) (version c.args) (behind_long (word_bytes c.vers) (procedure bs) (procedure c.args) (behind_long (word_bytes c.proc_no) (cred bs) (cred c.args)
    (behind_long a (verf bs) (verf c.args) (behind_long v bs c.args h)))))))

pub message_long : (seen : List Heard) (src dst : Addr) (m : Message) (b : Body) → IsBody seen src dst m b → length (writes message (message_value (with_body m b))) ≡ length (writes message (message_value m))
message_long seen src dst (Asked c) (bare x) h = refl
message_long seen src dst (Asked c) (read_as k x) h = call_long c (writes (args_kind k) x) (written_long (args_kind k) c.args x h.1)
message_long seen src dst (Answered r) b h =
    let new = writes reply (rpc.outcome_value (with_results r.outcome b)) in
    let old = writes reply (rpc.outcome_value r.outcome) in
    behind_long (word_bytes r.xid) (word_bytes 1 ++ new) (word_bytes 1 ++ old) (behind_long (word_bytes 1) new old (outcome_long (answered r.xid src dst seen) r.outcome b h))

-- ---- a packet of TFTP

-- it is written with no more bytes
request_short : (a b tail : List ℕ) → length (a ++ (0 ∷ (b ++ (0 ∷ [])))) ≤ length (a ++ (0 ∷ (b ++ (0 ∷ tail))))
request_short a b tail = omega (arith, length-append a (0 ∷ (b ++ (0 ∷ []))), length-append a (0 ∷ (b ++ (0 ∷ tail))), length-append b (0 ∷ []), length-append b (0 ∷ tail))

pub file_short : (content : List ℕ) (p : TftpPacket) → tftp.Spells content p → length (tftp.packet_bytes p) ≤ length content
file_short content p (spells_rrq name mode tail is f m) = omega (arith, ap length is, request_short name mode tail)
file_short content p (spells_wrq name mode tail is f m) = omega (arith, ap length is, request_short name mode tail)
file_short content p (spells_data n body is fits few) = omega (arith, ap length is)
file_short content p (spells_ack n is fits) = omega (arith, ap length is)
file_short content p (spells_error n text is fits h) = omega (arith, ap length is)
