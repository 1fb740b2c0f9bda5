-- What a sender does with a packet, said and computed, is the same.
use Rattle.std.proofs.Common.{◌≡◌, ◌≢◌, ℕ, ◌+◌, inl, inr, Bool, true, false, cond, ◌&&◌, eqb, ltb, eq-eqb, List, length, refl, sym, ◌∙◌, ap, subst}
use Rattle.std.proofs.lemmas.Bool.{eqb-true, ltb-false, ltb-true, le-ltb, lt-ltb}
use Rattle.sd_outside.specs.declared.packet.Addr.{Addr}
use Rattle.sd_tftp.specs.declared.packet.TftpPacket.{TftpPacket}
use Rattle.sd_tftp.specs.declared.packet.TftpPacket.TheVariants.{Rrq, Wrq, Block, Ack, Error}
use Rattle.sd_tftp.specs.declared.step.SenderStep.{SenderStep}
use Rattle.sd_tftp.specs.declared.step.SenderStep.TheVariants.{Ignored, Stranger, Next, Done}
use Rattle.sd_tftp.specs.Blocks.{block_at}
use Rattle.sd_tftp.specs.Transfer.{Transfer, over, moved}
use Rattle.sd_tftp.specs.Sending.{Hears, IsAcked, IsNext, IsDone, IsStranger, Fits, Sends}
use Rattle.sd_tftp.specs.SenderTurn.{Turn, turn, ignored, is_same, acknowledged, from_peer, from_other}
use Rattle.sd_tftp.specs.Laws.{SendingIsTurn, OldAckNeverSends}

-- two addresses are compared by their parts
parts : (u v : Bool) → (u && v) ≡ true → (u ≡ true) × (v ≡ true)
parts true true e = (refl, refl)
parts true false e = absurd cc
parts false v e = absurd cc

is_peer : (a b : Addr) → is_same a b ≡ true → a ≡ b
is_peer a b e =
    let p = parts (eqb a.ip b.ip) (eqb a.port b.port) e in
    let i : a.ip ≡ b.ip = eqb-true a.ip b.ip p.0 in
    let q : a.port ≡ b.port = eqb-true a.port b.port p.1 in
    λ k. record { ip = i k; port = q k }

peer_is : (a b : Addr) → a ≡ b → is_same a b ≡ true
peer_is a b e = ap (λ (x : Addr). is_same x b) e ∙ ap (λ (v : Bool). v && eqb b.port b.port) (eq-eqb b.ip b.ip refl) ∙ ap (λ (v : Bool). true && v) (eq-eqb b.port b.port refl)

no_peer : (a b : Addr) (v : Bool) → is_same a b ≡ v → a ≢ b → v ≡ false
no_peer a b true e other = absurd (other (is_peer a b e))
no_peer a b false e other = refl

module _ (old : Transfer) (now : ℕ) (from : Addr) (file : List ℕ) where
  -- ---- from what fits to what is computed

  heard : (packet : TftpPacket) → Hears old from → turn old now from packet file ≡ from_peer old now packet file
  unfolding turn
  heard packet h =
      ap (λ (v : Bool). let t : Turn = cond v (ignored old) (cond (is_same from old.peer) (from_peer old now packet file) (record { says = from_other from packet; becomes = old })) in t) h.0
      ∙ ap (λ (v : Bool). let t : Turn = cond v (from_peer old now packet file) (record { says = from_other from packet; becomes = old }) in t) (peer_is from old.peer h.1)

  acked : (packet : TftpPacket) → IsAcked old from packet → turn old now from packet file ≡ acknowledged old now file
  acked packet a =
      ap (λ (p : TftpPacket). turn old now from p file) a.1 ∙ heard (Ack old.block) a.0
      ∙ ap (λ (v : Bool). let t : Turn = cond v (acknowledged old now file) (ignored old) in t) (eq-eqb old.block old.block refl)

  next_turn : (packet : TftpPacket) (n : ℕ) → IsNext old from packet file n → turn old now from packet file ≡ record { says = Next n; becomes = moved old now }
  next_turn packet n x =
      acked packet x.0
      ∙ ap (λ (v : Bool). let t : Turn = cond v (record { says = Done; becomes = over old }) (record { says = Next (old.block + 1); becomes = moved old now }) in t) (le-ltb (length (block_at file old.block)) 512 x.1)
      ∙ (λ i. record { says = Next ((sym x.2) i); becomes = moved old now })

  done_turn : (packet : TftpPacket) → IsDone old from packet file → turn old now from packet file ≡ record { says = Done; becomes = over old }
  done_turn packet (inl x) =
      acked packet x.0
      ∙ ap (λ (v : Bool). let t : Turn = cond v (record { says = Done; becomes = over old }) (record { says = Next (old.block + 1); becomes = moved old now }) in t) (lt-ltb (length (block_at file old.block)) 512 x.1)
  done_turn packet (inr (h, (code_no, text, is))) = ap (λ (p : TftpPacket). turn old now from p file) is ∙ heard (Error code_no text) h

  other_turn : (packet : TftpPacket) → old.ended ≡ false → from ≢ old.peer → turn old now from packet file ≡ record { says = from_other from packet; becomes = old }
  unfolding turn
  other_turn packet going other =
      ap (λ (v : Bool). let t : Turn = cond v (ignored old) (cond (is_same from old.peer) (from_peer old now packet file) (record { says = from_other from packet; becomes = old })) in t) going
      ∙ ap (λ (v : Bool). let t : Turn = cond v (from_peer old now packet file) (record { says = from_other from packet; becomes = old }) in t) (no_peer from old.peer (is_same from old.peer) refl other)

  told : (packet : TftpPacket) → ((n : ℕ) (text : List ℕ) → packet ≢ Error n text) → from_other from packet ≡ Stranger from
  told (Ack n) e = refl
  told (Block n body) e = refl
  told (Rrq filename mode_text) e = refl
  told (Wrq filename mode_text) e = refl
  told (Error n text) e = absurd (e n text refl)

  stranger_turn : (packet : TftpPacket) (to : Addr) → IsStranger old from packet to → turn old now from packet file ≡ record { says = Stranger to; becomes = old }
  stranger_turn packet to s =
      let says : from_other from packet ≡ Stranger to = told packet s.no_error ∙ ap (λ (a : Addr). Stranger a) (sym s.to_is) in
      other_turn packet s.going s.other ∙ (λ i. record { says = says i; becomes = old })

  says_so : (packet : TftpPacket) (says : SenderStep) → Fits old from packet file says → (turn old now from packet file).says ≡ says
  says_so packet Ignored f = absurd f
  says_so packet (Stranger to) f = ap (λ (t : Turn). t.says) (stranger_turn packet to f)
  says_so packet (Next n) f = ap (λ (t : Turn). t.says) (next_turn packet n f)
  says_so packet Done f = ap (λ (t : Turn). t.says) (done_turn packet f)

  -- ---- from what is computed to what fits

  -- as Sends, but that what is ignored may have another answer
  abbrev Loose : TftpPacket → SenderStep → Transfer → Type 0
  Loose packet Ignored new = new ≡ old
  Loose packet (Stranger to) new = (new ≡ old) × IsStranger old from packet to
  Loose packet (Next n) new = (new ≡ moved old now) × IsNext old from packet file n
  Loose packet Done new = (new ≡ over old) × IsDone old from packet file

  abbrev Right : TftpPacket → Turn → Type 0
  Right packet t = Loose packet t.says t.becomes

  acked_right : (packet : TftpPacket) → IsAcked old from packet → Right packet (acknowledged old now file)
  acked_right packet a = of (ltb (length (block_at file old.block)) 512) refl
    where
      of : (v : Bool) → ltb (length (block_at file old.block)) 512 ≡ v → Right packet (let t : Turn = cond v (record { says = Done; becomes = over old }) (record { says = Next (old.block + 1); becomes = moved old now }) in t)
      of true e = (refl, inl (a, ltb-true (length (block_at file old.block)) 512 e))
      of false e = (refl, (a, ltb-false (length (block_at file old.block)) 512 e, refl))

  peer_right : (packet : TftpPacket) → Hears old from → Right packet (from_peer old now packet file)
  peer_right (Ack n) h = of (eqb n old.block) refl
    where
      of : (v : Bool) → eqb n old.block ≡ v → Right (Ack n) (let t : Turn = cond v (acknowledged old now file) (ignored old) in t)
      of true e = acked_right (Ack n) (h, ap (λ (m : ℕ). Ack m) (eqb-true n old.block e))
      of false e = refl
  peer_right (Error n text) h = (refl, inr (h, (n, text, refl)))
  peer_right (Block n body) h = refl
  peer_right (Rrq filename mode_text) h = refl
  peer_right (Wrq filename mode_text) h = refl

  no_error_is : (packet : TftpPacket) → old.ended ≡ false → from ≢ old.peer → ((n : ℕ) (text : List ℕ) → packet ≢ Error n text) → Loose packet (Stranger from) old
  no_error_is packet going other none = (refl, record { going = going; other = other; no_error = none; to_is = refl })

  other_right : (packet : TftpPacket) → old.ended ≡ false → from ≢ old.peer → Loose packet (from_other from packet) old
  other_right (Ack n) going other = no_error_is (Ack n) going other (λ m text e. absurd cc)
  other_right (Block n body) going other = no_error_is (Block n body) going other (λ m text e. absurd cc)
  other_right (Rrq filename mode_text) going other = no_error_is (Rrq filename mode_text) going other (λ m text e. absurd cc)
  other_right (Wrq filename mode_text) going other = no_error_is (Wrq filename mode_text) going other (λ m text e. absurd cc)
  other_right (Error n text) going other = refl

  same_false : (v : Bool) → is_same from old.peer ≡ v → v ≡ false → from ≢ old.peer
  same_false v e f is = let both : true ≡ false = sym (peer_is from old.peer is) ∙ e ∙ f in absurd cc

  turn_right : (packet : TftpPacket) → Right packet (turn old now from packet file)
  unfolding turn
  turn_right packet = of old.ended (is_same from old.peer) refl refl
    where
      of : (u v : Bool) → old.ended ≡ u → is_same from old.peer ≡ v → Right packet (let t : Turn = cond u (ignored old) (cond v (from_peer old now packet file) (record { says = from_other from packet; becomes = old })) in t)
      of true v e f = refl
      of false true e f = peer_right packet (e, is_peer from old.peer f)
      of false false e f = other_right packet e (same_false false f refl)

  -- ---- the two are the same

  exact : (packet : TftpPacket) (says : SenderStep) (new : Transfer) → (turn old now from packet file).says ≡ says → Loose packet says new → Sends old now from packet file says new
  exact packet Ignored new e l = (l, λ s f. subst (λ (a : SenderStep). Fits old from packet file a) (sym (says_so packet s f) ∙ e) f)
  exact packet (Stranger to) new e l = l
  exact packet (Next n) new e l = l
  exact packet Done new e l = l

  turn_sends : (packet : TftpPacket) → Sends old now from packet file (turn old now from packet file).says (turn old now from packet file).becomes
  turn_sends packet = exact packet (turn old now from packet file).says (turn old now from packet file).becomes refl (turn_right packet)

  nothing_else : (packet : TftpPacket) (says : SenderStep) (new : Transfer) → Sends old now from packet file says new → ((s : SenderStep) → Fits old from packet file s → ⊥) → (Ignored ≡ says) × (old ≡ new)
  nothing_else packet Ignored new r none = (refl, sym r.0)
  nothing_else packet (Stranger to) new r none = absurd (none (Stranger to) r.1)
  nothing_else packet (Next n) new r none = absurd (none (Next n) r.1)
  nothing_else packet Done new r none = absurd (none Done r.1)

  split : (t : Turn) (says : SenderStep) (new next : Transfer) → t ≡ record { says = says; becomes = next } → new ≡ next → (says ≡ t.says) × (new ≡ t.becomes)
  split t says new next e same = (ap (λ (u : Turn). u.says) (sym e), same ∙ ap (λ (u : Turn). u.becomes) (sym e))

  sends_turn : (packet : TftpPacket) (says : SenderStep) (new : Transfer) → Sends old now from packet file says new
      → (says ≡ (turn old now from packet file).says) × (new ≡ (turn old now from packet file).becomes)
  sends_turn packet Ignored new r =
      let n = nothing_else packet (turn old now from packet file).says (turn old now from packet file).becomes (turn_sends packet) r.1 in
      (n.0, r.0 ∙ n.1)
  sends_turn packet (Stranger to) new r = split (turn old now from packet file) (Stranger to) new old (stranger_turn packet to r.1) r.0
  sends_turn packet (Next n) new r = split (turn old now from packet file) (Next n) new (moved old now) (next_turn packet n r.1) r.0
  sends_turn packet Done new r = split (turn old now from packet file) Done new (over old) (done_turn packet r.1) r.0

  both_ways : (packet : TftpPacket) (says : SenderStep) (new : Transfer) → (says ≡ (turn old now from packet file).says) × (new ≡ (turn old now from packet file).becomes)
      → Sends old now from packet file says new
  both_ways packet says new e =
      subst (λ (s : SenderStep). Sends old now from packet file s new) (sym e.0)
      (subst (λ (r : Transfer). Sends old now from packet file (turn old now from packet file).says r) (sym e.1) (turn_sends packet))

pub sending_is_turn : SendingIsTurn
sending_is_turn old now from packet file says new = (sends_turn old now from file packet says new, both_ways old now from file packet says new)

ack_same : (m n : ℕ) → ◌≡◌ {A = TftpPacket} (Ack m) (Ack n) → m ≡ n
ack_same m n e = cc

pub old_ack_never_sends : OldAckNeverSends
old_ack_never_sends old now from n file Ignored new s other = (refl, s.0)
old_ack_never_sends old now from n file (Stranger to) new s other = (refl, s.0)
old_ack_never_sends old now from n file (Next m) new s other = absurd (other (ack_same n old.block s.1.0.1))
old_ack_never_sends old now from n file Done new (e, inl x) other = absurd (other (ack_same n old.block x.0.1))
old_ack_never_sends old now from n file Done new (e, inr (h, (code_no, text, is))) other = absurd cc

-- the clause of the sender that no ACK but that of the present block sends
pub present_ack : (old : Transfer) (now : ℕ) (from : Addr) (packet : TftpPacket) (file : List ℕ) (says : SenderStep) (new : Transfer) → Sends old now from packet file says new
    → (n : ℕ) → says ≡ Next n → (packet ≡ Ack old.block) × (n ≡ old.block + 1) × (new.block ≡ n)
present_ack old now from packet file (Next m) new s n e =
    let same : m ≡ n = cc in
    (s.1.0.1, sym same ∙ s.1.2, ap (λ (t : Transfer). t.block) s.0 ∙ sym s.1.2 ∙ same)
present_ack old now from packet file Ignored new s n e = absurd cc
present_ack old now from packet file (Stranger to) new s n e = absurd cc
present_ack old now from packet file Done new s n e = absurd cc
