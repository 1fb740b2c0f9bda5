-- A packet has one text behind the same calls, and one that has a text is not refused.
use Rattle.std.proofs.Common.{◌≡◌, ◌⊎◌, ℕ, ◌+◌, ◌-◌, List, [], length, Option, Some, None, Result, Ok, Err, refl, sym, ap, subst, ◌∙◌, inl, inr}
use Rattle.std.proofs.lemmas.Bool.{false≢true}
use Rattle.std.proofs.lemmas.List.{append-nil}
use Rattle.sd_outside.specs.declared.packet.Addr.{Addr}
use Rattle.sd_outside.specs.declared.packet.Packet.TheVariants.{Frame, Udp}
use Rattle.sd_xdr.specs.declared.error.MsgError.{MsgError}
use Rattle.sd_xdr.specs.Kind.{whole, Kind, Value}
use Rattle.sd_xdr.specs.Grammar.{Reads, Refuses}
use Rattle.sd_xdr.specs.Reading.{Cursor, Read, reading}
use Rattle.sd_xdr.proofs.Again.{from, reads_again, refuses_again}
use Rattle.sd_xdr.proofs.Whole as xdr
use Rattle.sd_rpc_msg.specs.declared.message.Outcome.{Outcome}
use Rattle.sd_rpc_msg.specs.declared.message.Outcome.TheVariants.{Success, ProgUnavail, ProgMismatch, ProcUnavail, GarbageArgs, RpcMismatch, AuthError}
use Rattle.sd_rpc_msg.specs.declared.message.Message.{Message}
use Rattle.sd_rpc_msg.specs.declared.message.Message.TheVariants.{Asked, Answered}
use Rattle.sd_rpc_msg.specs.Layout.{message, message_value}
use Rattle.sd_rpc_msg.proofs.Told.{told_apart}
use Rattle.sd_tftp.specs.declared.packet.TftpPacket.{TftpPacket}
use Rattle.sd_tftp.proofs.Whole as tftp
use Rattle.sd_rarp.specs.declared.frame.RarpFrame.{RarpFrame}
use Rattle.sd_rarp.specs.declared.frame.RarpError.{RarpError}
use Rattle.sd_rarp.specs.Frame.{Spells}
use Rattle.sd_rarp.proofs.Places.{spelled}
use Rattle.sd_text.specs.Texts.{Text}
use Rattle.sd_show.specs.declared.procedures.Procedure.{Procedure}
use Rattle.sd_show.specs.declared.procedures.Known.{Known}
use Rattle.sd_show.specs.declared.calls.Heard.{Heard}
use Rattle.sd_show.specs.declared.error.ShowError.{ShowError}
use Rattle.sd_show.specs.Programs.{numbers, args_kind, results_kind}
use Rattle.sd_show.specs.Calls.{procedure_of, answered}
use Rattle.sd_text.specs.Grammar as texts
use Rattle.sd_show.specs.Lines.{line, carries_file, carries_message, datagram_line, frame_line}
use Rattle.sd_show.specs.Messages.{Body, bare, read_as, AreArgs, AreResults, IsOutcomeBody, IsBody}
use Rattle.sd_show.specs.Shown.{ShowsFile, ShowsMessage}
use Rattle.sd_show.specs.Refused.{message_error, file_error, frame_error, AreResultsRefused, IsBodyRefused, IsNoFile, IsNoMessage, HasNoBody}
use Rattle.sd_show.specs.Laws.{OneText, NeverBoth, OneRefusal, OneTextRefusal}
use Rattle.sd_show.proofs.OneKnown.{one_known}

-- ---- one body

-- two values that the same bytes spell, of procedures with the same numbers
one_value_of : (kind : Known → Kind whole) (j k : Known) (bs : List ℕ) (x y : Value) → numbers j ≡ numbers k → Reads whole (kind j) bs x → Reads whole (kind k) bs y
    → ◌≡◌ {A = Body} (read_as j x) (read_as k y)
one_value_of kind j k bs x y e h g =
    let same : j ≡ k = one_known j k e in
    let value : x ≡ y = xdr.one_value (kind j) bs x y h (subst (λ (i : Known). Reads whole (kind i) bs y) (sym same) g) in
    λ i. read_as (same i) (value i)

one_args : (p : Procedure) (bs : List ℕ) (a b : Body) → AreArgs p bs a → AreArgs p bs b → a ≡ b
one_args p bs (bare x) (bare y) h k = ap bare (h.0 ∙ sym k.0)
one_args p bs (bare x) (read_as j y) h k = absurd (h.1 j k.0)
one_args p bs (read_as j x) (bare y) h k = absurd (k.1 j h.0)
one_args p bs (read_as j x) (read_as k y) h g = one_value_of args_kind j k bs x y (h.0 ∙ sym g.0) h.1 g.1

one_results : (asked : Option Procedure) (bs : List ℕ) (a b : Body) → AreResults asked bs a → AreResults asked bs b → a ≡ b
one_results None bs (bare x) (bare y) h k = ap bare (h ∙ sym k)
one_results None bs (bare x) (read_as j y) h k = absurd k
one_results None bs (read_as j x) b h k = absurd h
one_results (Some p) bs (bare x) (bare y) h k = ap bare (h.0 ∙ sym k.0)
one_results (Some p) bs (bare x) (read_as j y) h k = absurd (h.1 j k.0)
one_results (Some p) bs (read_as j x) (bare y) h k = absurd (k.1 j h.0)
one_results (Some p) bs (read_as j x) (read_as k y) h g = one_value_of results_kind j k bs x y (h.0 ∙ sym g.0) h.1 g.1

one_outcome_body : (asked : Option Procedure) (o : Outcome) (a b : Body) → IsOutcomeBody asked o a → IsOutcomeBody asked o b → a ≡ b
one_outcome_body asked (Success verf bs) a b h k = one_results asked bs a b h k
one_outcome_body asked (ProgUnavail verf) a b h k = h ∙ sym k
one_outcome_body asked (ProgMismatch verf low high) a b h k = h ∙ sym k
one_outcome_body asked (ProcUnavail verf) a b h k = h ∙ sym k
one_outcome_body asked (GarbageArgs verf) a b h k = h ∙ sym k
one_outcome_body asked (RpcMismatch low high) a b h k = h ∙ sym k
one_outcome_body asked (AuthError stat) a b h k = h ∙ sym k

pub one_body : (seen : List Heard) (src dst : Addr) (m : Message) (a b : Body) → IsBody seen src dst m a → IsBody seen src dst m b → a ≡ b
one_body seen src dst (Asked c) a b h k = one_args (procedure_of c) c.args a b h k
one_body seen src dst (Answered r) a b h k = one_outcome_body (answered r.xid src dst seen) r.outcome a b h k

pub one_message : (content : List ℕ) (m n : Message) → Reads whole message content (message_value m) → Reads whole message content (message_value n) → m ≡ n
one_message content m n h k = told_apart m n (xdr.one_value message content (message_value m) (message_value n) h k)

-- bytes spell one frame
pub one_frame : (bytes : List ℕ) (f g : RarpFrame) → Spells bytes f → Spells bytes g → f ≡ g
one_frame bytes f g h k = ok_is f g (sym (spelled bytes f h) ∙ spelled bytes g k)
  where
    ok_is : (x y : RarpFrame) → ◌≡◌ {A = Result RarpFrame RarpError} (Ok x) (Ok y) → x ≡ y
    ok_is x y e = cc

-- ---- one text

abbrev Says : List Heard → Addr → Addr → List ℕ → Text → Type 0
Says seen src dst content text = ShowsFile src dst content text ⊎ ShowsMessage seen src dst content text

one_of : (seen : List Heard) (src dst : Addr) (content : List ℕ) (s t : Text) → Says seen src dst content s → Says seen src dst content t → s ≡ t
one_of seen src dst content s t (inl f) (inl g) =
    f.means ∙ ap (λ (p : TftpPacket). texts.writes line (datagram_line src dst (carries_file p))) (tftp.one_packet content f.p g.p f.spells g.spells) ∙ sym g.means
one_of seen src dst content s t (inl f) (inr n) = absurd (false≢true (sym n.other ∙ f.port))
one_of seen src dst content s t (inr m) (inl g) = absurd (false≢true (sym m.other ∙ g.port))
one_of seen src dst content s t (inr m) (inr n) =
    let same : m.m ≡ n.m = one_message content m.m n.m m.reads n.reads in
    let body : m.b ≡ n.b = one_body seen src dst n.m m.b n.b (subst (λ (x : Message). IsBody seen src dst x m.b) same m.body) n.body in
    m.means ∙ (λ i. texts.writes line (datagram_line src dst (carries_message (same i) (body i)))) ∙ sym n.means

pub one_text : OneText
one_text seen (Udp src dst content) s t h k = one_of seen src dst content s t h k
one_text seen (Frame bytes) s t h k = h.2 ∙ ap (λ (f : RarpFrame). texts.writes line (frame_line f)) (one_frame bytes h.0 k.0 h.1 k.1) ∙ sym k.2

-- ---- no text

-- what bytes spell isn't refused, wherever they begin
apart : (x : Value × Cursor) (r : MsgError) → ◌≡◌ {A = Read} (Ok x) (Err r) → ⊥
apart x r h = cc

never_at : (K : Kind whole) (at : ℕ) (bs : List ℕ) (x : Value) (r : MsgError) → Reads whole K bs x → Refuses whole K at bs r → ⊥
never_at K at bs x r h k =
    let read = ap (λ (u : List ℕ). reading K (from at u)) (sym (append-nil bs)) ∙ reads_again whole K bs x h at [] (λ e. refl) in
    apart (x, from (at + length bs) []) r (sym read ∙ refuses_again whole K at bs r k)

never_of : (kind : Known → Kind whole) (j k : Known) (at : ℕ) (bs : List ℕ) (x : Value) (r : MsgError) → numbers j ≡ numbers k → Reads whole (kind j) bs x → Refuses whole (kind k) at bs r → ⊥
never_of kind j k at bs x r e h g = never_at (kind k) at bs x r (subst (λ (i : Known). Reads whole (kind i) bs x) (one_known j k e) h) g

never_args : (p : Procedure) (at : ℕ) (bs : List ℕ) (b : Body) (k : Known) (r : MsgError) → AreArgs p bs b → numbers k ≡ p → Refuses whole (args_kind k) at bs r → ⊥
never_args p at bs (bare x) k r h e g = h.1 k e
never_args p at bs (read_as j x) k r h e g = never_of args_kind j k at bs x r (h.0 ∙ sym e) h.1 g

never_results : (asked : Option Procedure) (at : ℕ) (bs : List ℕ) (b : Body) (k : Known) (r : MsgError) → AreResults asked bs b → asked ≡ Some (numbers k) → Refuses whole (results_kind k) at bs r → ⊥
never_results None at bs b k r h e g = let none : ◌≡◌ {A = Option Procedure} None (Some (numbers k)) = e in absurd cc
never_results (Some p) at bs (bare x) k r h e g = h.1 k (sym (some_is p (numbers k) e))
  where
    some_is : (p q : Procedure) → ◌≡◌ {A = Option Procedure} (Some p) (Some q) → p ≡ q
    some_is p q e = cc
never_results (Some p) at bs (read_as j x) k r h e g = never_of results_kind j k at bs x r (h.0 ∙ some_is p (numbers k) e) h.1 g
  where
    some_is : (p q : Procedure) → ◌≡◌ {A = Option Procedure} (Some p) (Some q) → p ≡ q
    some_is p q e = cc

never_outcome : (asked : Option Procedure) (len : ℕ) (o : Outcome) (b : Body) (r : MsgError) → IsOutcomeBody asked o b → AreResultsRefused len asked o r → ⊥
never_outcome asked len (Success verf bs) b r h g = never_results asked (len - length bs) bs b g.0 r h g.1 g.2
never_outcome asked len (ProgUnavail verf) b r h g = g
never_outcome asked len (ProgMismatch verf low high) b r h g = g
never_outcome asked len (ProcUnavail verf) b r h g = g
never_outcome asked len (GarbageArgs verf) b r h g = g
never_outcome asked len (RpcMismatch low high) b r h g = g
never_outcome asked len (AuthError stat) b r h g = g

never_body : (seen : List Heard) (src dst : Addr) (len : ℕ) (m : Message) (b : Body) (r : MsgError) → IsBody seen src dst m b → IsBodyRefused seen src dst len m r → ⊥
never_body seen src dst len (Asked c) b r h g = never_args (procedure_of c) (len - length c.args) c.args b g.0 r h g.1 g.2
never_body seen src dst len (Answered a) b r h g = never_outcome (answered a.xid src dst seen) len a.outcome b r h g

never_of_both : (seen : List Heard) (src dst : Addr) (content : List ℕ) (text : Text) (e : ShowError) → Says seen src dst content text
    → IsNoFile src dst content e ⊎ (IsNoMessage src dst content e ⊎ HasNoBody seen src dst content e) → ⊥
never_of_both seen src dst content text e (inl f) (inl n) = tftp.never_both content f.p n.r f.spells n.refuses
never_of_both seen src dst content text e (inl f) (inr (inl n)) = false≢true (sym n.other ∙ f.port)
never_of_both seen src dst content text e (inl f) (inr (inr n)) = false≢true (sym n.other ∙ f.port)
never_of_both seen src dst content text e (inr m) (inl n) = false≢true (sym m.other ∙ n.port)
never_of_both seen src dst content text e (inr m) (inr (inl n)) = xdr.never_both message content (message_value m.m) n.r m.reads n.refuses
never_of_both seen src dst content text e (inr m) (inr (inr n)) =
    let same : m.m ≡ n.m = one_message content m.m n.m m.reads n.reads in
    never_body seen src dst (length content) n.m m.b n.r (subst (λ (x : Message). IsBody seen src dst x m.b) same m.body) n.refuses

pub never_both : NeverBoth
never_both seen (Udp src dst content) text e h k = never_of_both seen src dst content text e h k
never_both seen (Frame bytes) text e h k = no_frame h.0 k.0 (sym (spelled bytes h.0 h.1) ∙ k.1)
  where
    no_frame : (f : RarpFrame) (r : RarpError) → ◌≡◌ {A = Result RarpFrame RarpError} (Ok f) (Err r) → ⊥
    no_frame f r e = cc

-- ---- one refusal

same_refusal : (kind : Known → Kind whole) (j k : Known) (at : ℕ) (bs : List ℕ) (q r : MsgError) → numbers j ≡ numbers k → Refuses whole (kind j) at bs q → Refuses whole (kind k) at bs r → q ≡ r
same_refusal kind j k at bs q r e h g = xdr.one_refusal whole (kind k) at bs q r (subst (λ (i : Known). Refuses whole (kind i) at bs q) (one_known j k e) h) g

same_results : (len : ℕ) (asked : Option Procedure) (o : Outcome) (q r : MsgError) → AreResultsRefused len asked o q → AreResultsRefused len asked o r → q ≡ r
same_results len asked (Success verf bs) q r h g = same_refusal results_kind h.0 g.0 (len - length bs) bs q r (some_is (numbers h.0) (numbers g.0) (sym h.1 ∙ g.1)) h.2 g.2
  where
    some_is : (p q : Procedure) → ◌≡◌ {A = Option Procedure} (Some p) (Some q) → p ≡ q
    some_is p q e = cc
same_results len asked (ProgUnavail verf) q r h g = absurd h
same_results len asked (ProgMismatch verf low high) q r h g = absurd h
same_results len asked (ProcUnavail verf) q r h g = absurd h
same_results len asked (GarbageArgs verf) q r h g = absurd h
same_results len asked (RpcMismatch low high) q r h g = absurd h
same_results len asked (AuthError stat) q r h g = absurd h

same_body : (seen : List Heard) (src dst : Addr) (len : ℕ) (m : Message) (q r : MsgError) → IsBodyRefused seen src dst len m q → IsBodyRefused seen src dst len m r → q ≡ r
same_body seen src dst len (Asked c) q r h g = same_refusal args_kind h.0 g.0 (len - length c.args) c.args q r (h.1 ∙ sym g.1) h.2 g.2
same_body seen src dst len (Answered a) q r h g = same_results len (answered a.xid src dst seen) a.outcome q r h g

abbrev Refused : List Heard → Addr → Addr → List ℕ → ShowError → Type 0
Refused seen src dst content e = IsNoFile src dst content e ⊎ (IsNoMessage src dst content e ⊎ HasNoBody seen src dst content e)

one_of_refusals : (seen : List Heard) (src dst : Addr) (content : List ℕ) (d e : ShowError) → Refused seen src dst content d → Refused seen src dst content e → d ≡ e
one_of_refusals seen src dst content d e (inl h) (inl k) = h.means ∙ ap file_error (tftp.one_refusal content h.r k.r h.refuses k.refuses) ∙ sym k.means
one_of_refusals seen src dst content d e (inl h) (inr (inl k)) = absurd (false≢true (sym k.other ∙ h.port))
one_of_refusals seen src dst content d e (inl h) (inr (inr k)) = absurd (false≢true (sym k.other ∙ h.port))
one_of_refusals seen src dst content d e (inr (inl h)) (inl k) = absurd (false≢true (sym h.other ∙ k.port))
one_of_refusals seen src dst content d e (inr (inr h)) (inl k) = absurd (false≢true (sym h.other ∙ k.port))
one_of_refusals seen src dst content d e (inr (inl h)) (inr (inl k)) = h.means ∙ ap message_error (xdr.one_refusal whole message 0 content h.r k.r h.refuses k.refuses) ∙ sym k.means
one_of_refusals seen src dst content d e (inr (inl h)) (inr (inr k)) = absurd (xdr.never_both message content (message_value k.m) h.r k.reads h.refuses)
one_of_refusals seen src dst content d e (inr (inr h)) (inr (inl k)) = absurd (xdr.never_both message content (message_value h.m) k.r h.reads k.refuses)
one_of_refusals seen src dst content d e (inr (inr h)) (inr (inr k)) =
    let same : h.m ≡ k.m = one_message content h.m k.m h.reads k.reads in
    let refuses : IsBodyRefused seen src dst (length content) k.m h.r = subst (λ (m : Message). IsBodyRefused seen src dst (length content) m h.r) same h.refuses in
    h.means ∙ ap message_error (same_body seen src dst (length content) k.m h.r k.r refuses k.refuses) ∙ sym k.means

pub one_refusal : OneRefusal
one_refusal seen (Udp src dst content) d e h k = one_of_refusals seen src dst content d e h k
one_refusal seen (Frame bytes) d e h k = h.2 ∙ ap frame_error (same_error h.0 k.0 (sym h.1 ∙ k.1)) ∙ sym k.2
  where
    same_error : (q r : RarpError) → ◌≡◌ {A = Result RarpFrame RarpError} (Err q) (Err r) → q ≡ r
    same_error q r e = cc

pub one_text_refusal : OneTextRefusal
one_text_refusal text d e h k = h.0 ∙ sym k.0
