-- What a receiver does, said and computed, is the same.
use Rattle.std.proofs.Common.{◌≡◌, ◌≢◌, ℕ, ◌*◌, ◌≤◌, Bool, true, false, cond, not, ◌&&◌, eqb, ltb, ne_eqb, eq-eqb, Option, Some, None, List, length, Result, Ok, Err, refl, sym, ◌∙◌, ap, subst, arith}
use Rattle.std.proofs.lemmas.Bool.{eqb-true, eqb-false, ltb-false, le-ltb}
use Rattle.std.specs.Prelude.{IfOk, OnErr}
use Rattle.sd_outside.specs.declared.packet.Addr.{Addr}
use Rattle.sd_tftp.specs.declared.packet.TftpPacket.{TftpPacket}
use Rattle.sd_tftp.specs.declared.packet.TftpPacket.TheVariants.{Rrq, Wrq, Block, Ack, Error}
use Rattle.sd_tftp.specs.declared.step.Step.{Step}
use Rattle.sd_tftp.specs.declared.step.Step.TheVariants.{Ignored, Stranger, Again, Took, Refused, Over}
use Rattle.sd_tftp.specs.Reception.{Reception, with_block, closed}
use Rattle.sd_tftp.specs.Receiving.{IsRightPort, Hears, awaited, Brings, IsTaken, IsTooMuch, IsAgain, IsRefused, IsStranger, Fits, Receives}
use Rattle.sd_tftp.specs.ReceiverTurn.{Turn, ignored, taking, is_awaited, first, from_peer, from_other, from_server, turn, TakesMemory, Does}
use Rattle.sd_tftp.specs.Laws.{OneAnswer, ReceivingIsTurn}

module _ (old : Reception) (from : Addr) where
  -- ---- from what fits to what is computed

  heard : (packet : TftpPacket) → old.ended ≡ false → from.ip ≡ old.server → turn old from packet ≡ from_server old from packet old.peer
  unfolding turn
  heard packet going ip =
      ap (λ (v : Bool). cond v (ignored old) (cond (eqb from.ip old.server) (from_server old from packet old.peer) (ignored old))) going
      ∙ ap (λ (v : Bool). cond v (from_server old from packet old.peer) (ignored old)) (eq-eqb from.ip old.server ip)

  at_first : (packet : TftpPacket) → old.peer ≡ None → from_server old from packet old.peer ≡ first old from packet
  at_first packet none = ap (λ (o : Option ℕ). from_server old from packet o) none

  by_peer : (packet : TftpPacket) → old.peer ≡ Some from.port → from_server old from packet old.peer ≡ from_peer old from packet
  by_peer packet some =
      ap (λ (o : Option ℕ). from_server old from packet o) some
      ∙ ap (λ (v : Bool). cond v (from_peer old from packet) (from_other old from packet)) (eq-eqb from.port from.port refl)

  by_other : (packet : TftpPacket) (port : ℕ) → old.peer ≡ Some port → from.port ≢ port → from_server old from packet old.peer ≡ from_other old from packet
  by_other packet port some other =
      ap (λ (o : Option ℕ). from_server old from packet o) some
      ∙ ap (λ (v : Bool). cond v (from_peer old from packet) (from_other old from packet)) (ne_eqb from.port port other)

  awaited_is : (body : List ℕ) → length body ≤ 512 → is_awaited old (awaited old) body ≡ true
  awaited_is body fits =
      ap (λ (v : Bool). v && not (ltb 512 (length body))) (eq-eqb (awaited old) (awaited old) refl)
      ∙ ap (λ (v : Bool). true && not v) (le-ltb 512 (length body) fits)

  brings_turn : (packet : TftpPacket) (body : List ℕ) → Brings old from packet body → turn old from packet ≡ taking old from body
  brings_turn packet body b =
      ap (λ (p : TftpPacket). turn old from p) b.packet_is ∙ heard (Block (awaited old) body) b.heard.going b.heard.ip ∙ of old.peer refl b.heard.port
    where
      of : (o : Option ℕ) → old.peer ≡ o → IsRightPort o from.port → from_server old from (Block (awaited old) body) old.peer ≡ taking old from body
      of None e right = at_first (Block (awaited old) body) e ∙ ap (λ (v : Bool). let t : Turn = cond v (taking old from body) (ignored old) in t) (awaited_is body b.fits)
      of (Some port) e right =
          by_peer (Block (awaited old) body) (e ∙ ap (λ (n : ℕ). Some n) (sym right))
          ∙ ap (λ (v : Bool). let t : Turn = cond v (taking old from body) (cond (eqb (awaited old) (length old.blocks)) (record { says = Again from (awaited old); becomes = old }) (ignored old)) in t) (awaited_is body b.fits)

  -- taking a block, with its two tests as variables
  abbrev taking_by : List ℕ → Bool → Bool → Turn
  taking_by body short full =
      cond short (record { says = Took from (awaited old) true; becomes = with_block old from.port body true })
      (cond full (record { says = Over (512 * 65535); becomes = with_block old from.port body true })
      (record { says = Took from (awaited old) false; becomes = with_block old from.port body false }))

  taken_turn : (packet : TftpPacket) (to : Addr) (n : ℕ) (last : Bool) (t : IsTaken old from packet to n last)
      → turn old from packet ≡ record { says = Took to n last; becomes = with_block old from.port t.body last }
  taken_turn packet to n last t = brings_turn packet t.body t.brings ∙ of last t.short t.next ∙ named
    where
      of : (v : Bool) → v ≡ ltb (length t.body) 512 → (v ≡ false → n ≢ 65535) → taking old from t.body ≡ record { says = Took from (awaited old) v; becomes = with_block old from.port t.body v }
      of true e next = ap (λ (u : Bool). taking_by t.body u (eqb (awaited old) 65535)) (sym e)
      of false e next =
          ap (λ (u : Bool). taking_by t.body u (eqb (awaited old) 65535)) (sym e)
          ∙ ap (λ (u : Bool). taking_by t.body false u) (ne_eqb (awaited old) 65535 (λ is. next refl (t.number ∙ is)))

      named : (let a : Turn = record { says = Took from (awaited old) last; becomes = with_block old from.port t.body last } in a) ≡ record { says = Took to n last; becomes = with_block old from.port t.body last }
      named = λ i. record { says = Took ((sym t.to_is) i) ((sym t.number) i) last; becomes = with_block old from.port t.body last }

  too_much_turn : (packet : TftpPacket) (got : ℕ) (t : IsTooMuch old from packet got) → turn old from packet ≡ record { says = Over got; becomes = with_block old from.port t.body true }
  too_much_turn packet got t =
      brings_turn packet t.body t.brings
      ∙ ap (λ (u : Bool). taking_by t.body u (eqb (awaited old) 65535)) (le-ltb (length t.body) 512 (omega (arith, t.whole)))
      ∙ ap (λ (u : Bool). taking_by t.body false u) (eq-eqb (awaited old) 65535 t.number)
      ∙ (λ i. record { says = Over ((sym t.got_is) i); becomes = with_block old from.port t.body true })

  again_turn : (packet : TftpPacket) (to : Addr) (n : ℕ) → IsAgain old from packet to n → turn old from packet ≡ record { says = Again to n; becomes = old }
  again_turn packet to n a =
      ap (λ (p : TftpPacket). turn old from p) a.packet_is ∙ heard (Block n a.body) a.going a.ip ∙ by_peer (Block n a.body) a.port
      ∙ ap (λ (v : Bool). let t : Turn = cond (v && not (ltb 512 (length a.body))) (taking old from a.body) (cond (eqb n (length old.blocks)) (record { says = Again from n; becomes = old }) (ignored old)) in t) (ne_eqb n (awaited old) (λ is. omega (arith, is, a.number)))
      ∙ ap (λ (v : Bool). let t : Turn = cond v (record { says = Again from n; becomes = old }) (ignored old) in t) (eq-eqb n (length old.blocks) a.number)
      ∙ (λ i. record { says = Again ((sym a.to_is) i) n; becomes = old })

  refused_turn : (packet : TftpPacket) (code_no : ℕ) → IsRefused old from packet code_no → turn old from packet ≡ record { says = Refused code_no; becomes = closed old }
  refused_turn packet code_no r =
      ap (λ (p : TftpPacket). turn old from p) r.packet_is ∙ heard (Error code_no r.text) r.heard.going r.heard.ip ∙ of old.peer refl r.heard.port
    where
      of : (o : Option ℕ) → old.peer ≡ o → IsRightPort o from.port → from_server old from (Error code_no r.text) old.peer ≡ record { says = Refused code_no; becomes = closed old }
      of None e right = at_first (Error code_no r.text) e
      of (Some port) e right = by_peer (Error code_no r.text) (e ∙ ap (λ (n : ℕ). Some n) (sym right))

  stranger_turn : (packet : TftpPacket) (to : Addr) → IsStranger old from packet to → turn old from packet ≡ record { says = Stranger to; becomes = old }
  stranger_turn packet to s =
      ap (λ (p : TftpPacket). turn old from p) s.packet_is ∙ heard (Block s.n s.body) s.going s.ip ∙ by_other (Block s.n s.body) s.peer_port s.peer s.other
      ∙ (λ i. record { says = Stranger ((sym s.to_is) i); becomes = old })

  says_so : (packet : TftpPacket) (says : Step) → Fits old from packet says → (turn old from packet).says ≡ says
  says_so packet Ignored f = absurd f
  says_so packet (Stranger to) f = ap (λ (t : Turn). t.says) (stranger_turn packet to f)
  says_so packet (Again to n) f = ap (λ (t : Turn). t.says) (again_turn packet to n f)
  says_so packet (Took to n last) f = ap (λ (t : Turn). t.says) (taken_turn packet to n last f)
  says_so packet (Refused code_no) f = ap (λ (t : Turn). t.says) (refused_turn packet code_no f)
  says_so packet (Over got) f = ap (λ (t : Turn). t.says) (too_much_turn packet got f)

  -- ---- from what is computed to what fits

  -- as Receives, but that what is ignored may have another answer
  abbrev Loose : TftpPacket → Step → Reception → Type 0
  Loose packet Ignored new = new ≡ old
  Loose packet (Stranger to) new = (new ≡ old) × IsStranger old from packet to
  Loose packet (Again to n) new = (new ≡ old) × IsAgain old from packet to n
  Loose packet (Took to n last) new = (t : IsTaken old from packet to n last) × (new ≡ with_block old from.port t.body last)
  Loose packet (Refused code_no) new = (new ≡ closed old) × IsRefused old from packet code_no
  Loose packet (Over got) new = (t : IsTooMuch old from packet got) × (new ≡ with_block old from.port t.body true)

  abbrev Right : TftpPacket → Turn → Type 0
  Right packet t = Loose packet t.says t.becomes

  both : (u v : Bool) → (u && v) ≡ true → u ≡ true
  both true v e = refl
  both false v e = absurd cc

  not_longer : (u v : Bool) → (u && not v) ≡ true → v ≡ false
  not_longer true true e = absurd cc
  not_longer true false e = refl
  not_longer false v e = absurd cc

  taking_right : (packet : TftpPacket) (body : List ℕ) → Brings old from packet body → Right packet (taking old from body)
  taking_right packet body b = of (ltb (length body) 512) (eqb (awaited old) 65535) refl refl
    where
      of : (u v : Bool) → ltb (length body) 512 ≡ u → eqb (awaited old) 65535 ≡ v → Right packet (taking_by body u v)
      of true v e f = (record { body = body; brings = b; to_is = refl; number = refl; short = sym e; next = λ x. absurd cc }, refl)
      of false true e f = (record { body = body; brings = b; whole = omega (arith, b.fits, ltb-false (length body) 512 e); number = eqb-true (awaited old) 65535 f; got_is = refl }, refl)
      of false false e f = (record { body = body; brings = b; to_is = refl; number = refl; short = sym e; next = λ x. eqb-false (awaited old) 65535 f }, refl)

  block_right : (n : ℕ) (body : List ℕ) (else_ : Turn) → Hears old from → Right (Block n body) else_ → Right (Block n body) (let t : Turn = cond (is_awaited old n body) (taking old from body) else_ in t)
  block_right n body else_ h same = of (is_awaited old n body) refl
    where
      of : (v : Bool) → is_awaited old n body ≡ v → Right (Block n body) (let t : Turn = cond v (taking old from body) else_ in t)
      of true e = taking_right (Block n body) body (record {
        heard = h;
        packet_is = ap (λ (m : ℕ). Block m body) (eqb-true n (awaited old) (both (eqb n (awaited old)) (not (ltb 512 (length body))) e));
        fits = ltb-false 512 (length body) (not_longer (eqb n (awaited old)) (ltb 512 (length body)) e);
      })
      of false e = same

  refused_right : (n : ℕ) (text : List ℕ) → Hears old from → Right (Error n text) (record { says = Refused n; becomes = closed old })
  refused_right n text h = (refl, record { text = text; heard = h; packet_is = refl })

  first_right : (packet : TftpPacket) → Hears old from → Right packet (first old from packet)
  first_right (Block n body) h = block_right n body (ignored old) h refl
  first_right (Error n text) h = refused_right n text h
  first_right (Ack n) h = refl
  first_right (Rrq filename mode_text) h = refl
  first_right (Wrq filename mode_text) h = refl

  again_right : (n : ℕ) (body : List ℕ) → Hears old from → old.peer ≡ Some from.port → Right (Block n body) (let t : Turn = cond (eqb n (length old.blocks)) (record { says = Again from n; becomes = old }) (ignored old) in t)
  again_right n body h p = of (eqb n (length old.blocks)) refl
    where
      of : (v : Bool) → eqb n (length old.blocks) ≡ v → Right (Block n body) (let t : Turn = cond v (record { says = Again from n; becomes = old }) (ignored old) in t)
      of true e = (refl, record { body = body; going = h.going; ip = h.ip; port = p; packet_is = refl; number = eqb-true n (length old.blocks) e; to_is = refl })
      of false e = refl

  peer_right : (packet : TftpPacket) → Hears old from → old.peer ≡ Some from.port → Right packet (from_peer old from packet)
  peer_right (Block n body) h p = block_right n body (cond (eqb n (length old.blocks)) (record { says = Again from n; becomes = old }) (ignored old)) h (again_right n body h p)
  peer_right (Error n text) h p = refused_right n text h
  peer_right (Ack n) h p = refl
  peer_right (Rrq filename mode_text) h p = refl
  peer_right (Wrq filename mode_text) h p = refl

  other_right : (packet : TftpPacket) (port : ℕ) → old.ended ≡ false → from.ip ≡ old.server → old.peer ≡ Some port → from.port ≢ port → Right packet (from_other old from packet)
  other_right (Block n body) port going ip p other = (refl, record { n = n; body = body; peer_port = port; going = going; ip = ip; peer = p; other = other; packet_is = refl; to_is = refl })
  other_right (Error n text) port going ip p other = refl
  other_right (Ack n) port going ip p other = refl
  other_right (Rrq filename mode_text) port going ip p other = refl
  other_right (Wrq filename mode_text) port going ip p other = refl

  server_right : (packet : TftpPacket) (o : Option ℕ) → old.ended ≡ false → from.ip ≡ old.server → old.peer ≡ o → Right packet (from_server old from packet o)
  server_right packet None going ip p = first_right packet (record { going = going; ip = ip; port = subst (λ (o : Option ℕ). IsRightPort o from.port) (sym p) tt })
  server_right packet (Some port) going ip p = of (eqb from.port port) refl
    where
      of : (v : Bool) → eqb from.port port ≡ v → Right packet (let t : Turn = cond v (from_peer old from packet) (from_other old from packet) in t)
      of true e =
          let same : from.port ≡ port = eqb-true from.port port e in
          peer_right packet (record { going = going; ip = ip; port = subst (λ (o : Option ℕ). IsRightPort o from.port) (sym p) same }) (p ∙ ap (λ (n : ℕ). Some n) (sym same))
      of false e = other_right packet port going ip p (eqb-false from.port port e)

  turn_right : (packet : TftpPacket) → Right packet (turn old from packet)
  unfolding turn
  turn_right packet = of old.ended (eqb from.ip old.server) refl refl
    where
      of : (u v : Bool) → old.ended ≡ u → eqb from.ip old.server ≡ v → Right packet (let t : Turn = cond u (ignored old) (cond v (from_server old from packet old.peer) (ignored old)) in t)
      of true v e f = refl
      of false true e f = server_right packet old.peer e (eqb-true from.ip old.server f) refl
      of false false e f = refl

  -- ---- the two are the same

  exact : (packet : TftpPacket) (says : Step) (new : Reception) → (turn old from packet).says ≡ says → Loose packet says new → Receives old from packet says new
  exact packet Ignored new e l = (l, λ s f. subst (λ (a : Step). Fits old from packet a) (sym (says_so packet s f) ∙ e) f)
  exact packet (Stranger to) new e l = l
  exact packet (Again to n) new e l = l
  exact packet (Took to n last) new e l = l
  exact packet (Refused code_no) new e l = l
  exact packet (Over got) new e l = l

  pub turn_receives : (packet : TftpPacket) → Receives old from packet (turn old from packet).says (turn old from packet).becomes
  turn_receives packet = exact packet (turn old from packet).says (turn old from packet).becomes refl (turn_right packet)

  nothing_else : (packet : TftpPacket) (says : Step) (new : Reception) → Receives old from packet says new → ((s : Step) → Fits old from packet s → ⊥) → (Ignored ≡ says) × (old ≡ new)
  nothing_else packet Ignored new r none = (refl, sym r.0)
  nothing_else packet (Stranger to) new r none = absurd (none (Stranger to) r.1)
  nothing_else packet (Again to n) new r none = absurd (none (Again to n) r.1)
  nothing_else packet (Took to n last) new r none = absurd (none (Took to n last) r.0)
  nothing_else packet (Refused code_no) new r none = absurd (none (Refused code_no) r.1)
  nothing_else packet (Over got) new r none = absurd (none (Over got) r.0)

  split : (t : Turn) (says : Step) (new now : Reception) → t ≡ record { says = says; becomes = now } → new ≡ now → (says ≡ t.says) × (new ≡ t.becomes)
  split t says new now e same = (ap (λ (u : Turn). u.says) (sym e), same ∙ ap (λ (u : Turn). u.becomes) (sym e))

  receives_turn : (packet : TftpPacket) (says : Step) (new : Reception) → Receives old from packet says new → (says ≡ (turn old from packet).says) × (new ≡ (turn old from packet).becomes)
  receives_turn packet Ignored new r =
      let n = nothing_else packet (turn old from packet).says (turn old from packet).becomes (turn_receives packet) r.1 in
      (n.0, r.0 ∙ n.1)
  receives_turn packet (Stranger to) new r = split (turn old from packet) (Stranger to) new old (stranger_turn packet to r.1) r.0
  receives_turn packet (Again to n) new r = split (turn old from packet) (Again to n) new old (again_turn packet to n r.1) r.0
  receives_turn packet (Took to n last) new r = split (turn old from packet) (Took to n last) new (with_block old from.port r.0.body last) (taken_turn packet to n last r.0) r.1
  receives_turn packet (Refused code_no) new r = split (turn old from packet) (Refused code_no) new (closed old) (refused_turn packet code_no r.1) r.0
  receives_turn packet (Over got) new r = split (turn old from packet) (Over got) new (with_block old from.port r.0.body true) (too_much_turn packet got r.0) r.1

  both_ways : (packet : TftpPacket) (says : Step) (new : Reception) → (says ≡ (turn old from packet).says) × (new ≡ (turn old from packet).becomes) → Receives old from packet says new
  both_ways packet says new e =
      subst (λ (s : Step). Receives old from packet s new) (sym e.0)
      (subst (λ (r : Reception). Receives old from packet (turn old from packet).says r) (sym e.1) (turn_receives packet))

pub one_answer : OneAnswer
one_answer old from packet s t f g = sym (says_so old from packet s f) ∙ says_so old from packet t g

pub receiving_is_turn : ReceivingIsTurn
receiving_is_turn old from packet says new = (receives_turn old from packet says new, both_ways old from packet says new)

-- what a call owes, from what it computes
pub answered : {E : Type 0} (old new : Reception) (from : Addr) (packet : TftpPacket) (r : Result Step E) → Does (turn old from packet) old new r → IfOk r (λ says. Receives old from packet says new)
answered old new from packet (Ok says) d = both_ways old from packet says new d
answered old new from packet (Err e) d = tt

awaited_block : (old : Reception) (from : Addr) (packet : TftpPacket) (says : Step) (new : Reception) → Receives old from packet says new → TakesMemory says → (body : List ℕ) × Brings old from packet body
awaited_block old from packet (Took to n last) new r m = (r.0.body, r.0.brings)
awaited_block old from packet (Over got) new r m = (r.0.body, r.0.brings)
awaited_block old from packet Ignored new r m = absurd m
awaited_block old from packet (Stranger to) new r m = absurd m
awaited_block old from packet (Again to n) new r m = absurd m
awaited_block old from packet (Refused code_no) new r m = absurd m

pub wanted : {E : Type 0} (old new : Reception) (from : Addr) (packet : TftpPacket) (r : Result Step E) → Does (turn old from packet) old new r → OnErr r ((body : List ℕ) × Brings old from packet body)
wanted old new from packet (Ok says) d = tt
wanted old new from packet (Err e) d = awaited_block old from packet (turn old from packet).says (turn old from packet).becomes (turn_receives old from packet) d.1
