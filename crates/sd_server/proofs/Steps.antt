-- A session's sender does what the world's session does.
use Rattle.std.proofs.Common.{◌≡◌, ℕ, ◌+◌, ◌≤◌, Bool, true, false, cond, List, [], ◌∷◌, length, refl, sym, ap, ◌∙◌, subst, arith, eq-eqb}
use Rattle.std.specs.Prelude.{◌==◌, ◌&&◌, nat_lt}
use Rattle.sd_outside.specs.declared.packet.Addr.{Addr}
use Rattle.sd_tftp.specs.declared.packet.TftpPacket.{TftpPacket}
use Rattle.sd_tftp.specs.declared.packet.TftpPacket.TheVariants.{Rrq, Wrq, Block, Ack, Error}
use Rattle.sd_tftp.specs.declared.step.SenderStep.{SenderStep}
use Rattle.sd_tftp.specs.declared.step.SenderStep.TheVariants.{Ignored, Stranger, Next, Done}
use Rattle.sd_tftp.specs.Blocks.{block_at}
use Rattle.sd_tftp.specs.Transfer.{Transfer, moved, over}
use Rattle.sd_tftp.specs.SenderTurn.{Turn, turn, is_same, ignored, from_peer, from_other, acknowledged}
use Rattle.sd_tftp.specs.Sending.{Sends}
use Rattle.sd_tftp.proofs.Acks.{sending_is_turn}
use Rattle.sd_config.specs.declared.config.Config.{Config}
use Rattle.sd_services.specs.Part.{ServerPart, Replied, silence}
use Rattle.sd_services.specs.Sessions.{heard, file_of, ended, next_block, block_packet, with_session}
use Rattle.sd_services.specs.Sessions as world
use Rattle.sd_server.specs.declared.sessions.Sending.{Sending}
use Rattle.sd_server.specs.declared.replies.Answer.{Answer}
use Rattle.sd_server.specs.Sessions.{session_of, bytes_at, IsSending, Answers}
use Rattle.sd_server.specs.Stepping.{MayStep, after_step}

same_addr : (a : Addr) → is_same a a ≡ true
same_addr a = ap (λ (b : Bool). b && (a.port == a.port)) (eq-eqb a.ip a.ip refl) ∙ eq-eqb a.port a.port refl

module _ (c : Config) (tick : ℕ) (part : ServerPart) (s : Sending) (is : IsSending c s) where
  from_its_peer : (packet : TftpPacket) → turn s.sender tick s.peer packet (file_of c (session_of c s)) ≡ from_peer s.sender tick packet (file_of c (session_of c s))
  unfolding turn
  from_its_peer packet =
      let f = file_of c (session_of c s) in
      let old = s.sender in
      let turned : Bool → Bool → Turn = λ a b. cond a (ignored old) (cond b (from_peer old tick packet f) (record { says = from_other s.peer packet; becomes = old })) in
      let same : is_same s.peer s.sender.peer ≡ true = subst (λ (p : Addr). is_same s.peer p ≡ true) (sym is.peer) (same_addr s.peer) in
      ap (λ (a : Bool). turned a (is_same s.peer old.peer)) is.going ∙ ap (turned false) same

  heard_so : (packet : TftpPacket) → after_step c part s (from_peer s.sender tick packet (file_of c (session_of c s))).says (from_peer s.sender tick packet (file_of c (session_of c s))).becomes ≡ heard c tick part (session_of c s) packet
  heard_so (Block n body) = refl
  heard_so (Rrq name mode) = refl
  heard_so (Wrq name mode) = refl
  heard_so (Error code message) = refl
  heard_so (Ack n) = of (n == s.sender.block)
    where
      short : (b : Bool) → (let t : Turn = cond b (record { says = Done; becomes = over s.sender }) (record { says = Next (s.sender.block + 1); becomes = moved s.sender tick }) in after_step c part s t.says t.becomes)
          ≡ cond b (ended part (session_of c s)) (record { out = block_packet c (next_block tick (session_of c s)) ∷ []; next = record part { sessions = with_session (next_block tick (session_of c s)) part.sessions } })
      short true = refl
      short false = refl

      of : (b : Bool) → (let t : Turn = cond b (acknowledged s.sender tick (file_of c (session_of c s))) (ignored s.sender) in after_step c part s t.says t.becomes)
          ≡ cond b (world.acknowledged c tick part (session_of c s)) (silence part)
      of true = short (nat_lt (length (block_at (file_of c (session_of c s)) s.sender.block)) 512)
      of false = refl

  -- what the sender answers leads to what the session does
  pub step_so : (packet : TftpPacket) (bytes : List ℕ) (says : SenderStep) (new : Transfer) (a : Answer) → bytes ≡ bytes_at c s.file → Sends s.sender tick s.peer packet bytes says new
      → Answers c part a (after_step c part s says new) → Answers c part a (heard c tick part (session_of c s) packet)
  step_so packet bytes says new a at sends answers =
      let f = file_of c (session_of c s) in
      let turns = (sending_is_turn s.sender tick s.peer packet f says new).0 (subst (λ (l : List ℕ). Sends s.sender tick s.peer packet l says new) (at ∙ sym is.filed) sends) in
      let same : after_step c part s says new ≡ heard c tick part (session_of c s) packet =
      (λ i. after_step c part s (turns.0 i) (turns.1 i)) ∙ ap (λ (t : Turn). after_step c part s t.says t.becomes) (from_its_peer packet) ∙ heard_so packet in
      subst (λ (r : Replied). Answers c part a r) same answers

pub may_so : (c : Config) (tick : ℕ) (s : Sending) (packet : TftpPacket) (bytes : List ℕ) (says : SenderStep) (new : Transfer) → IsSending c s → Sends s.sender tick s.peer packet bytes says new → MayStep s says new
may_so c tick s packet bytes Ignored new is sends = tt
may_so c tick s packet bytes (Stranger to) new is sends = tt
may_so c tick s packet bytes Done new is sends = tt
may_so c tick s packet bytes (Next n) new is sends = (
  sends.1.2 ∙ sym (ap (λ (t : Transfer). t.block) sends.0),
  ap (λ (t : Transfer). t.peer) sends.0 ∙ is.peer,
  ap (λ (t : Transfer). t.ended) sends.0 ∙ is.going,
  subst (λ (t : Transfer). 1 ≤ t.block) (sym sends.0) (omega arith),
)
