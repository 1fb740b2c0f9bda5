-- What a packet that moved a fetch on was.
use Rattle.std.proofs.Common.{◌≡◌, ◌≢◌, ℕ, ◌+◌, ◌<◌, ◌==◌, ◌&&◌, Bool, true, false, cond, List, length, Some, Result, Ok, Err, refl, sym, ◌∙◌, ap}
use Rattle.std.proofs.lemmas.Bool.{eqb-true, ltb-true}
use Rattle.sd_outside.specs.declared.packet.Addr.{Addr}
use Rattle.sd_outside.specs.declared.packet.Packet.{Packet}
use Rattle.sd_outside.specs.declared.packet.Packet.TheVariants.{Frame, Udp}
use Rattle.sd_tftp.specs.declared.packet.TftpPacket.{TftpPacket}
use Rattle.sd_tftp.specs.declared.packet.TftpPacket.TheVariants.{Block}
use Rattle.sd_tftp.specs.declared.packet.TftpError.{TftpError}
use Rattle.sd_tftp.specs.declared.step.Step as answers
use Rattle.sd_tftp.specs.declared.step.Step.TheVariants as step
use Rattle.sd_tftp.specs.Reading.{reading}
use Rattle.sd_tftp.specs.Reception.{Reception, with_block}
use Rattle.sd_tftp.specs.Receiving.{Receives}
use Rattle.sd_tftp.specs.ReceiverTurn.{Turn, turn, ignored}
use Rattle.sd_tftp.proofs.Receives.{receiving_is_turn}
use Rattle.sd_claims.specs.Fetching.{turn_by, turn_on, progress}

-- a TFTP packet from an address to one's own, on which the receiver's turn is this
pub record Turned (me : Addr) (r : Reception) (packet : Packet) (t : Turn) : Type 0 where
  pub from : Addr
  pub to : Addr
  pub body : List ℕ
  pub inner : TftpPacket
  pub packet_is : packet ≡ Udp from to body
  pub to_ip : to.ip ≡ me.ip
  pub to_port : to.port ≡ me.port
  pub reads : reading body ≡ Ok inner
  pub is : turn r from inner ≡ t

progress_is : (says : answers.Step) (t u : Turn) → progress says t ≡ Some u → t ≡ u
progress_is (step.Took to n last) t u e = cc
progress_is (step.Refused code) t u e = cc
progress_is (step.Over got) t u e = cc
progress_is (step.Again to n) t u e = absurd (cc)
progress_is (step.Stranger to) t u e = absurd (cc)
progress_is step.Ignored t u e = absurd (cc)

pub and_first : (a b : Bool) → a && b ≡ true → a ≡ true
and_first true b e = refl
and_first false b e = absurd (cc)

pub and_second : (a b : Bool) → a && b ≡ true → b ≡ true
and_second true b e = e
and_second false b e = absurd (cc)

pub turned : (me : Addr) (r : Reception) (packet : Packet) (t : Turn) → progress (turn_on me r packet).says (turn_on me r packet) ≡ Some t → Turned me r packet t
turned me r (Frame bytes) t e = absurd (cc)
turned me r (Udp src dst body) t e = by_test ((dst.ip == me.ip) && (dst.port == me.port)) refl e
  where
    by_reading : (o : Result TftpPacket TftpError) → reading body ≡ o → (dst.ip == me.ip) && (dst.port == me.port) ≡ true → progress (turn_by r src o).says (turn_by r src o) ≡ Some t → Turned me r (Udp src dst body) t
    by_reading (Err why) is mine e = absurd (cc)
    by_reading (Ok p) is mine e = record {
      from = src;
      to = dst;
      body = body;
      inner = p;
      packet_is = refl;
      to_ip = eqb-true dst.ip me.ip (and_first (dst.ip == me.ip) (dst.port == me.port) mine);
      to_port = eqb-true dst.port me.port (and_second (dst.ip == me.ip) (dst.port == me.port) mine);
      reads = is;
      is = progress_is (turn r src p).says (turn r src p) t e;
    }

    by_test : (b : Bool) → (dst.ip == me.ip) && (dst.port == me.port) ≡ b → progress (cond b (turn_by r src (reading body)) (ignored r)).says (cond b (turn_by r src (reading body)) (ignored r)) ≡ Some t → Turned me r (Udp src dst body) t
    by_test false is e = absurd (cc)
    by_test true is e = by_reading (reading body) refl is e

-- a block that was taken
pub record TookBlock (r new : Reception) (from : Addr) (inner : TftpPacket) (to : Addr) (n : ℕ) (last : Bool) : Type 0 where
  pub body : List ℕ
  pub inner_is : inner ≡ Block n body
  pub number : n ≡ length r.blocks + 1
  pub to_is : to ≡ from
  pub from_ip : from.ip ≡ r.server
  pub new_is : new ≡ with_block r from.port body last
  pub short : last ≡ true → length body < 512
  pub next : last ≡ false → n ≢ 65535

pub took_block : (me : Addr) (r : Reception) (packet : Packet) (to : Addr) (n : ℕ) (last : Bool) (new : Reception)
    → (t : Turned me r packet (record { says = step.Took to n last; becomes = new })) → TookBlock r new t.from t.inner to n last
took_block me r packet to n last new t =
    let says = step.Took to n last in
    let r_is : Receives r t.from t.inner says new = (receiving_is_turn r t.from t.inner says new).1 (ap (λ (u : Turn). u.says) (sym t.is), ap (λ (u : Turn). u.becomes) (sym t.is)) in
    let k = r_is.0 in
    record {
      body = k.body;
      inner_is = k.brings.packet_is ∙ ap (λ (m : ℕ). Block m k.body) (sym k.number);
      number = k.number;
      to_is = k.to_is;
      from_ip = k.brings.heard.ip;
      new_is = r_is.1;
      short = λ e. ltb-true (length k.body) 512 (sym k.short ∙ e);
      next = k.next;
    }
