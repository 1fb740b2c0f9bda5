-- What a value within the limits of a line says.
use Rattle.std.proofs.Common.{◌≡◌, ℕ, zero, suc, ◌+◌, ◌*◌, ◌/◌, ◌%◌, ◌<◌, ◌≤◌, ◌^◌, true, not, eqb, List, [], ◌∷◌, length, Some, refl, sym, ap, subst, ◌∙◌, arith}
use Rattle.std.specs.Prelude.{codes}
use Rattle.std.proofs.lemmas.Bool.{and_parts, not-true, eqb-false}
use Rattle.sd_outside.specs.Bytes.{IsMac}
use Rattle.sd_outside.specs.declared.packet.Mac.{Mac}
use Rattle.sd_outside.specs.declared.packet.Addr.{Addr}
use Rattle.sd_xdr.specs.Kind.{Value, number, ◌⊗◌, number_of, bytes_of, first, second}
use Rattle.sd_xdr.specs.Grammar.{writes, HasSpelling}
use Rattle.sd_bootparams.specs.Layout.{ip_value}
use Rattle.sd_rarp.specs.declared.frame.RarpFrame.{RarpFrame}
use Rattle.sd_rarp.specs.declared.frame.RarpFrame.TheVariants as frames
use Rattle.sd_rpc_msg.specs.declared.message.OpaqueAuth.{OpaqueAuth}
use Rattle.sd_rpc_msg.specs.declared.message.Outcome.{Outcome}
use Rattle.sd_rpc_msg.specs.declared.message.Outcome.TheVariants.{Success, ProgUnavail, ProgMismatch, ProcUnavail, GarbageArgs, RpcMismatch, AuthError}
use Rattle.sd_rpc_msg.specs.declared.message.Message.{Message}
use Rattle.sd_rpc_msg.specs.declared.message.Message.TheVariants.{Asked, Answered}
use Rattle.sd_rpc_msg.specs.Layout.{auth_value}
use Rattle.sd_rpc_msg.specs.Laws.{IsWord, IsAuth, IsOutcome, IsMessage}
use Rattle.sd_tftp.specs.declared.packet.TftpPacket.{TftpPacket}
use Rattle.sd_tftp.specs.declared.packet.TftpPacket.TheVariants as tftp
use Rattle.sd_tftp.specs.Grammar as files
use Rattle.sd_text.specs.Texts.{Text}
use Rattle.sd_text.specs.Kind.{all_pass, all_texts, place_in, name_at, Kind, ip, addr, addr_value, mac}
use Rattle.sd_text.specs.Grammar.{Either, HasText}
use Rattle.sd_text.specs.Packets.{AddrFits}
use Rattle.sd_text.proofs.Leading.{place_passes}
use Rattle.sd_show.specs.declared.procedures.Procedure.{Procedure}
use Rattle.sd_show.specs.declared.procedures.Known.{Known}
use Rattle.sd_show.specs.Programs.{numbers, args_kind, results_kind, args, results}
use Rattle.sd_show.specs.Messages.{Body, bare, read_as, no_body, AreWrittenArgs, IsWrittenOutcome, IsWrittenBody}
use Rattle.sd_show.specs.Shown.{IsFrame}
use Rattle.sd_show.specs.Lines.{frame_arm, frame_value, file_arm, file_value, known_names, known_at, place, auth, procedure_value, procedure_in, is_other, other, named, call, asked_value, state_arm, done, answer, answer_words, reply, outcome_value, carried_arm, line_arm, line, carries_message, datagram_line}
use Rattle.sd_show.proofs.Agreeing.{args_are, results_are}
use Rattle.sd_show.proofs.Knowing.{place_back, other_is, numbered_words, later}
use Rattle.sd_show.proofs.ValuesFit.{fields_spelled}

-- a name at a place is among the names
below : (names : List Text) (n : ℕ) → all_texts (λ t. true) names ≡ true → place_in (name_at names n) names ≡ Some n → n < length names
below names n all e = let p = place_passes (λ t. true) 0 (name_at names n) names n all e in omega (arith, p.1)

-- ---- addresses

pub record IpOf (x : Value) : Type 0 where
  pub ip : ℕ
  pub is : x ≡ ip_value ip
  pub fits : ip < 2 ^ 32

record FourAre (a b c d : ℕ) : Type 0 where
  small : a * 2 ^ 24 + b * 2 ^ 16 + c * 2 ^ 8 + d < 2 ^ 32
  one : (a * 2 ^ 24 + b * 2 ^ 16 + c * 2 ^ 8 + d) / 2 ^ 24 ≡ a
  two : (a * 2 ^ 24 + b * 2 ^ 16 + c * 2 ^ 8 + d) / 2 ^ 16 % 256 ≡ b
  three : (a * 2 ^ 24 + b * 2 ^ 16 + c * 2 ^ 8 + d) / 2 ^ 8 % 256 ≡ c
  last : (a * 2 ^ 24 + b * 2 ^ 16 + c * 2 ^ 8 + d) % 256 ≡ d

four_are : (a b c d : ℕ) → a ≤ 255 → b ≤ 255 → c ≤ 255 → d ≤ 255 → FourAre a b c d
four_are a b c d h k l m = record { small = omega arith; one = omega arith; two = omega arith; three = omega arith; last = omega arith }

pub ip_of : (x : Value) → HasText ip x → IpOf x
ip_of x h =
    let a = h.1 in
    let b = a.2 in
    let c = b.2 in
    let s = second x in
    let m = number_of (first s) in
    let n = number_of (first (second s)) in
    let o = number_of (first (second (second s))) in
    let p = number_of (second (second (second s))) in
    let is = four_are m n o p a.1.2 b.1.2 c.1.2 c.2.2 in
    record {
      ip = m * 2 ^ 24 + n * 2 ^ 16 + o * 2 ^ 8 + p;
      is = h.0 ∙ ap (λ (v : Value). number 1 ⊗ v)
          (a.0 ∙ (λ i. (a.1.0 ∙ ap number (sym is.one)) i ⊗ (b.0 ∙ (λ j. (b.1.0 ∙ ap number (sym is.two)) j ⊗ (c.0 ∙ (λ k. (c.1.0 ∙ ap number (sym is.three)) k ⊗ (c.2.0 ∙ ap number (sym is.last)) k)) j)) i));
      fits = is.small;
    }

pub record AddrOf (x : Value) : Type 0 where
  pub a : Addr
  pub is : x ≡ addr_value a
  pub fits : AddrFits a

pub addr_of : (x : Value) → HasText addr x → AddrOf x
addr_of x h =
    let i = ip_of (first x) h.1 in
    let p = h.2 in
    record {
      a = record { ip = i.ip; port = number_of (second x) };
      is = h.0 ∙ (λ k. i.is k ⊗ p.0 k);
      fits = record { ip = i.fits; port = omega (arith, p.2) };
    }

-- ---- frames

pub record FrameOf (x : Value) : Type 0 where
  pub f : RarpFrame
  pub is : x ≡ frame_value f
  pub fits : IsFrame f

abbrev mac_of : Value → Mac
mac_of x = record { 0 = bytes_of x }

mac_is : (x : Value) → HasText mac x → IsMac (mac_of x)
mac_is x h = record { wide = h.2; bytes = h.1 }

frame_of : (n : ℕ) (y : Value) → n < 2 → HasText (frame_arm n) y → FrameOf (number n ⊗ y)
frame_of zero y lt h =
    let a = h.1 in
    let b = h.2 in
    let dst = mac_of (first (first y)) in
    let src = mac_of (second (first y)) in
    let sender = mac_of (first (second y)) in
    let target = mac_of (second (second y)) in
    record {
      f = frames.Request dst src sender target;
      is = ap (λ (v : Value). number 0 ⊗ v) (h.0 ∙ (λ i. (a.0 ∙ (λ j. a.1.0 j ⊗ a.2.0 j)) i ⊗ (b.0 ∙ (λ j. b.1.0 j ⊗ b.2.0 j)) i));
      fits = (mac_is _ a.1, mac_is _ a.2, mac_is _ b.1, mac_is _ b.2);
    }
frame_of (suc zero) y lt h =
    let a = h.1 in
    let b = h.2.1 in
    let c = h.2.2 in
    let dst = mac_of (first (first y)) in
    let src = mac_of (second (first y)) in
    let sender = mac_of (first (first (second y))) in
    let sender_ip = ip_of (second (first (second y))) b.2 in
    let target = mac_of (first (second (second y))) in
    let target_ip = ip_of (second (second (second y))) c.2 in
    record {
      f = frames.Reply dst src sender sender_ip.ip target target_ip.ip;
      is = ap (λ (v : Value). number 1 ⊗ v)
          (h.0 ∙ (λ i. (a.0 ∙ (λ j. a.1.0 j ⊗ a.2.0 j)) i ⊗ (h.2.0 ∙ (λ j. (b.0 ∙ (λ k. b.1.0 k ⊗ sender_ip.is k)) j ⊗ (c.0 ∙ (λ k. c.1.0 k ⊗ target_ip.is k)) j)) i));
      fits = (mac_is _ a.1, mac_is _ a.2, mac_is _ b.1, sender_ip.fits, mac_is _ c.1, target_ip.fits);
    }
frame_of (suc (suc n)) y lt h = absurd (omega (arith, lt))

-- ---- packets of TFTP

pub record FileOf (x : Value) : Type 0 where
  pub p : TftpPacket
  pub is : x ≡ file_value p
  pub range : files.IsInRange p
  pub fits : files.HasSpelling p

pub no_zeros : (bs : List ℕ) → all_pass (λ b. not (eqb b 0)) bs ≡ true → files.HasNoZero bs
no_zeros [] h = tt
no_zeros (b ∷ bs) h =
    let p = and_parts (not (eqb b 0)) (all_pass (λ b. not (eqb b 0)) bs) h in
    (λ e. eqb-false b 0 (not-true (eqb b 0) p.0) e, no_zeros bs p.1)

file_of : (n : ℕ) (y : Value) → n < 5 → HasText (file_arm n) y → FileOf (number n ⊗ y)
file_of zero y lt h = record {
  p = tftp.Rrq (bytes_of (first y)) (bytes_of (second y));
  is = ap (λ (v : Value). number 0 ⊗ v) (h.0 ∙ (λ i. h.1.0.0 i ⊗ h.2.0.0 i));
  range = tt;
  fits = (no_zeros _ h.1.1, no_zeros _ h.2.1);
}
file_of (suc zero) y lt h = record {
  p = tftp.Wrq (bytes_of (first y)) (bytes_of (second y));
  is = ap (λ (v : Value). number 1 ⊗ v) (h.0 ∙ (λ i. h.1.0.0 i ⊗ h.2.0.0 i));
  range = tt;
  fits = (no_zeros _ h.1.1, no_zeros _ h.2.1);
}
file_of (suc (suc zero)) y lt h = record {
  p = tftp.Block (number_of (first y)) (bytes_of (second y));
  is = ap (λ (v : Value). number 2 ⊗ v) (h.0 ∙ (λ i. h.1.0 i ⊗ h.2.0 i));
  range = omega (arith, h.1.2);
  fits = h.2.3;
}
file_of (suc (suc (suc zero))) y lt h = record { p = tftp.Ack (number_of y); is = ap (λ (v : Value). number 3 ⊗ v) h.0; range = omega (arith, h.2); fits = tt }
file_of (suc (suc (suc (suc zero)))) y lt h = record {
  p = tftp.Error (number_of (first y)) (bytes_of (second y));
  is = ap (λ (v : Value). number 4 ⊗ v) (h.0 ∙ (λ i. h.1.0 i ⊗ h.2.0.0 i));
  range = omega (arith, h.1.2);
  fits = no_zeros _ h.2.1;
}
file_of (suc (suc (suc (suc (suc n))))) y lt h = absurd (omega (arith, lt))

-- ---- calls

abbrev auth_of : Value → OpaqueAuth
auth_of x = record { flavor = number_of (first x); body = bytes_of (second x) }

auth_is : (x : Value) → HasText auth x → (x ≡ auth_value (auth_of x)) × IsAuth (auth_of x)
auth_is x h = (h.0 ∙ (λ i. h.1.0 i ⊗ h.2.0 i), (omega (arith, h.1.2), h.2.3))

record AskedOf (x : Value) : Type 0 where
  p : Procedure
  args : List ℕ
  b : Body
  is : x ≡ asked_value p b
  prog : IsWord p.prog
  vers : IsWord p.vers
  proc_no : IsWord p.proc_no
  written : AreWrittenArgs p args b

asked_of : (n : ℕ) (y : Value) → Either n (HasText other y) (HasText named y) → AskedOf (number n ⊗ y)
unfolding known_names
asked_of zero y h =
    let p = procedure_in (first y) in
    let s = h.1.0 in
    let value : first y ≡ procedure_value p = s.0 ∙ (λ i. s.1.0 i ⊗ (s.2.0 ∙ (λ j. s.2.1.0 j ⊗ s.2.2.0 j)) i) in
    record {
      p = p;
      args = bytes_of (second y);
      b = bare (bytes_of (second y));
      is = ap (λ (v : Value). number 0 ⊗ v) (h.0 ∙ (λ i. value i ⊗ h.2.0 i));
      prog = omega (arith, s.1.2);
      vers = omega (arith, s.2.1.2);
      proc_no = omega (arith, s.2.2.2);
      written = (refl, other_is p (ap is_other (sym value) ∙ h.1.1));
    }
asked_of (suc zero) y h =
    let n = number_of (first y) in
    let k = known_at n in
    let at = below known_names n refl h.1 in
    let w = numbered_words k in
    let spelled : HasSpelling (args_kind k) (second y) = subst (λ K. HasSpelling K (second y)) (args_are k) (fields_spelled (args k) (second y) h.2) in
    record {
      p = numbers k;
      args = writes (args_kind k) (second y);
      b = read_as k (second y);
      is = ap (λ (v : Value). number 1 ⊗ v) (h.0 ∙ ap (λ (m : ℕ). number m ⊗ second y) (sym (place_back n at)));
      prog = w.prog;
      vers = w.vers;
      proc_no = w.proc_no;
      written = (refl, spelled, refl);
    }
asked_of (suc (suc n)) y h = absurd h

pub record MessageOf (x : Value) : Type 0 where
  pub m : Message
  pub b : Body
  pub is : x ≡ carries_message m b
  pub fits : IsMessage m
  pub written : IsWrittenBody m b

call_of : (y : Value) → HasText call y → MessageOf (number 1 ⊗ y)
call_of y h =
    let s = second y in
    let a0 = first s in
    let q = h.2.1 in
    let a = subst AskedOf (sym q.0) (asked_of (number_of (first a0)) (second a0) q.1) in
    let u = h.2.2 in
    let cred = auth_is (first (second s)) u.1 in
    let verf = auth_is (second (second s)) u.2 in
    record {
      m = Asked record { xid = number_of (first y); prog = a.p.prog; vers = a.p.vers; proc_no = a.p.proc_no; cred = auth_of (first (second s)); verf = auth_of (second (second s)); args = a.args };
      b = a.b;
      is = ap (λ (v : Value). number 1 ⊗ v) (h.0 ∙ (λ i. h.1.0 i ⊗ (h.2.0 ∙ (λ j. a.is j ⊗ (u.0 ∙ (λ k. cred.0 k ⊗ verf.0 k)) j)) i));
      fits = (omega (arith, h.1.2), a.prog, a.vers, a.proc_no, cred.1, verf.1);
      written = a.written;
    }

-- ---- replies

record OutcomeOf (x : Value) : Type 0 where
  o : Outcome
  b : Body
  is : x ≡ outcome_value o b
  fits : IsOutcome o
  written : IsWrittenOutcome o b

state_of : (v : Value) (n : ℕ) (y : Value) → HasText auth v → n < 4 → HasText (state_arm n) y → OutcomeOf (number 1 ⊗ v ⊗ (number n ⊗ y))
state_of v zero y a lt h = let u = auth_is v a in record { o = ProgUnavail (auth_of v); b = no_body; is = (λ i. number 1 ⊗ u.0 i ⊗ (number 0 ⊗ h i)); fits = u.1; written = refl }
state_of v (suc zero) y a lt h =
    let u = auth_is v a in
    record {
      o = ProgMismatch (auth_of v) (number_of (first y)) (number_of (second y));
      b = no_body;
      is = (λ i. number 1 ⊗ u.0 i ⊗ (number 1 ⊗ (h.0 ∙ (λ j. h.1.0 j ⊗ h.2.0 j)) i));
      fits = (u.1, omega (arith, h.1.2), omega (arith, h.2.2));
      written = refl;
    }
state_of v (suc (suc zero)) y a lt h = let u = auth_is v a in record { o = ProcUnavail (auth_of v); b = no_body; is = (λ i. number 1 ⊗ u.0 i ⊗ (number 2 ⊗ h i)); fits = u.1; written = refl }
state_of v (suc (suc (suc zero))) y a lt h = let u = auth_is v a in record { o = GarbageArgs (auth_of v); b = no_body; is = (λ i. number 1 ⊗ u.0 i ⊗ (number 3 ⊗ h i)); fits = u.1; written = refl }
state_of v (suc (suc (suc (suc n)))) y a lt h = absurd (omega (arith, lt))

results_of : (k : Known) (n : ℕ) (y : Value) → place k ≡ n → HasText (done k) y → OutcomeOf (number (n + 4) ⊗ y)
results_of k n y e h =
    let u = auth_is (first y) h.1 in
    let spelled : HasSpelling (results_kind k) (second y) = subst (λ K. HasSpelling K (second y)) (results_are k) (fields_spelled (results k) (second y) h.2) in
    record {
      o = Success (auth_of (first y)) (writes (results_kind k) (second y));
      b = read_as k (second y);
      is = (λ i. number (sym e i + 4) ⊗ (h.0 ∙ (λ j. u.0 j ⊗ second y)) i);
      fits = u.1;
      written = (spelled, refl);
    }

outcome_of : (n : ℕ) (y : Value) → n < 35 → HasText (answer n) y → OutcomeOf (number n ⊗ y)
outcome_of zero y lt h =
    let u = auth_is (first y) h.1 in
    record {
      o = Success (auth_of (first y)) (bytes_of (second y));
      b = bare (bytes_of (second y));
      is = ap (λ (v : Value). number 0 ⊗ v) (h.0 ∙ (λ i. u.0 i ⊗ h.2.0 i));
      fits = u.1;
      written = refl;
    }
outcome_of (suc zero) y lt h =
    let q = h.2 in
    let s = second y in
    let n = number_of (first s) in
    subst OutcomeOf (ap (λ (v : Value). number 1 ⊗ v) (sym (h.0 ∙ ap (λ (v : Value). first y ⊗ v) q.0))) (state_of (first y) n (second s) h.1 (below (codes "progunavail" ∷ codes "progmismatch" ∷ codes "procunavail" ∷ codes "garbageargs" ∷ []) n refl q.1) q.2)
outcome_of (suc (suc zero)) y lt h = record {
  o = RpcMismatch (number_of (first y)) (number_of (second y));
  b = no_body;
  is = ap (λ (v : Value). number 2 ⊗ v) (h.0 ∙ (λ i. h.1.0 i ⊗ h.2.0 i));
  fits = (omega (arith, h.1.2), omega (arith, h.2.2));
  written = refl;
}
outcome_of (suc (suc (suc zero))) y lt h = record { o = AuthError (number_of y); b = no_body; is = ap (λ (v : Value). number 3 ⊗ v) h.0; fits = (h.1, h.2); written = refl }
outcome_of (suc (suc (suc (suc n)))) y lt h =
    let four : suc (suc (suc (suc n))) ≡ n + 4 = omega arith in
    let arm : answer (suc (suc (suc (suc n)))) ≡ done (known_at n) = ap answer four ∙ later n in
    subst (λ (m : ℕ). OutcomeOf (number m ⊗ y)) (sym four) (results_of (known_at n) n y (place_back n (omega (arith, lt))) (subst (λ (K : Kind). HasText K y) arm h))

reply_of : (y : Value) → HasText reply y → MessageOf (number 2 ⊗ y)
unfolding known_names
reply_of y h =
    let s = second y in
    let q = h.2 in
    let n = number_of (first s) in
    let o = subst OutcomeOf (sym q.0) (outcome_of n (second s) (below answer_words n refl q.1) q.2) in
    record {
      m = Answered record { xid = number_of (first y); outcome = o.o };
      b = o.b;
      is = ap (λ (v : Value). number 2 ⊗ v) (h.0 ∙ (λ i. h.1.0 i ⊗ o.is i));
      fits = (omega (arith, h.1.2), o.fits);
      written = o.written;
    }

-- ---- lines

pub data CarriedOf (x : Value) : Type 0 where
  a_file : FileOf (second x) → x ≡ number 0 ⊗ second x → CarriedOf x
  a_message : MessageOf x → CarriedOf x

carried_of : (n : ℕ) (y : Value) → n < 3 → HasText (carried_arm n) y → CarriedOf (number n ⊗ y)
carried_of zero y lt h = let n = number_of (first y) in a_file (subst FileOf (sym h.0) (file_of n (second y) (below (codes "rrq" ∷ codes "wrq" ∷ codes "block" ∷ codes "ack" ∷ codes "error" ∷ []) n refl h.1) h.2)) refl
carried_of (suc zero) y lt h = a_message (call_of y h)
carried_of (suc (suc zero)) y lt h = a_message (reply_of y h)
carried_of (suc (suc (suc n))) y lt h = absurd (omega (arith, lt))

pub record DatagramOf (x : Value) : Type 0 where
  pub src : Addr
  pub dst : Addr
  pub c : Value
  pub from : AddrFits src
  pub to : AddrFits dst
  pub is : x ≡ datagram_line src dst c
  pub carries : CarriedOf c

pub data LineOf (x : Value) : Type 0 where
  a_datagram : DatagramOf x → LineOf x
  a_frame : FrameOf (second x) → x ≡ number 1 ⊗ second x → LineOf x

line_of : (n : ℕ) (y : Value) → n < 2 → HasText (line_arm n) y → LineOf (number n ⊗ y)
line_of zero y lt h =
    let src = addr_of (first y) h.1 in
    let s = second y in
    let q = h.2 in
    let dst = addr_of (first s) q.1 in
    let c = second s in
    let r = q.2 in
    let n = number_of (first c) in
    a_datagram record {
      src = src.a;
      dst = dst.a;
      c = c;
      from = src.fits;
      to = dst.fits;
      is = ap (λ (v : Value). number 0 ⊗ v) (h.0 ∙ (λ i. src.is i ⊗ (q.0 ∙ (λ j. dst.is j ⊗ c)) i));
      carries = subst CarriedOf (sym r.0) (carried_of n (second c) (below (codes "tftp" ∷ codes "call" ∷ codes "reply" ∷ []) n refl r.1) r.2);
    }
line_of (suc zero) y lt h = let n = number_of (first y) in a_frame (subst FrameOf (sym h.0) (frame_of n (second y) (below (codes "request" ∷ codes "reply" ∷ []) n refl h.1) h.2)) refl
line_of (suc (suc n)) y lt h = absurd (omega (arith, lt))

pub lined : (x : Value) → HasText line x → LineOf x
lined x h = let n = number_of (first x) in subst LineOf (sym h.0) (line_of n (second x) (below (codes "udp" ∷ codes "rarp" ∷ []) n refl h.1) h.2)
