-- The texts of packets.
use Rattle.std.proofs.Common.{◌≡◌, ℕ, List, [], ◌∷◌, ◌++◌, Result, Ok, Err, inl, inr, refl, ap, sym, ◌∙◌, subst, append_assoc}
use Rattle.std.specs.Prelude.{codes}
use Rattle.sd_outside.specs.declared.packet.Addr.{Addr}
use Rattle.sd_outside.specs.declared.packet.Packet.{Packet}
use Rattle.sd_outside.specs.declared.packet.Packet.TheVariants.{Frame, Udp}
use Rattle.sd_text.specs.declared.error.LineError.{LineError}
use Rattle.sd_text.specs.declared.error.LineError.TheVariants.{Outside, NoMemory}
use Rattle.sd_text.specs.Texts.{Text, fields, IsNumber, IsIp, IsAddr}
use Rattle.sd_text.specs.Runs.{runs_text, IsRunsWithin}
use Rattle.sd_text.specs.Answers.{Reads}
use Rattle.sd_text.specs.Packets.{packet_text, IsFrameLine, IsUdpLine, IsPacketLine, head_of_udp}
use Rattle.sd_text.specs.Writing.{AppendsPrefix}
use Rattle.sd_text.proofs.Exits.{firsts, others}
use Rattle.sd_text.proofs.NumberLemmas.{one_number}
use Rattle.sd_text.proofs.MacLemmas.{one_ip}
use Rattle.sd_text.proofs.ItemLemmas.{one_runs}

pub frame_read : (line : Text) (args : List Text) (r : Result Packet LineError) → fields line ≡ codes "frame" ∷ args → Reads (IsFrameLine args) r → Reads (IsPacketLine line) r
frame_read line args (Ok p) e h = (args, inl (e, h))
frame_read line args (Err Outside) e h = λ p line_of. elim line_of.1 [
  | inl frame ↦ h p (subst (λ (a : List Text). IsFrameLine a p) (others (sym frame.0 ∙ e)) frame.1)
  | inr udp ↦ let words : codes "udp" ≡ codes "frame" = firsts (sym udp.0 ∙ e) in cc words
]
frame_read line args (Err NoMemory) e h = tt

pub udp_read : (line : Text) (args : List Text) (r : Result Packet LineError) → fields line ≡ codes "udp" ∷ args → Reads (IsUdpLine args) r → Reads (IsPacketLine line) r
udp_read line args (Ok p) e h = (args, inr (e, h))
udp_read line args (Err Outside) e h = λ p line_of. elim line_of.1 [
  | inl frame ↦ let words : codes "frame" ≡ codes "udp" = firsts (sym frame.0 ∙ e) in cc words
  | inr udp ↦ h p (subst (λ (a : List Text). IsUdpLine a p) (others (sym udp.0 ∙ e)) udp.1)
]
udp_read line args (Err NoMemory) e h = tt

-- the text of a datagram is its head and the text of its bytes
pub udp_text : (src dst : Addr) (body : List ℕ) → packet_text (Udp src dst body) ≡ head_of_udp src dst ++ runs_text body
udp_text src dst body = simp append_assoc

-- a prefix of what follows a head, behind the head
pub front_behind : (old mid new head rest : Text) → mid ≡ old ++ head → AppendsPrefix mid new rest → AppendsPrefix old new (head ++ rest)
front_behind old mid new head rest e a = record {
  front = head ++ a.front;
  rest = a.rest;
  parts = rw (a.parts, append_assoc) refl;
  appended = a.appended ∙ rw (e, append_assoc) refl;
}

-- a line is that of one packet

pub one_addr : (text : Text) (a b : Addr) → IsAddr text a → IsAddr text b → a ≡ b
one_addr text a b x y =
    let e = sym x.parts ∙ y.parts in
    let ip : a.ip ≡ b.ip = one_ip y.ip a.ip b.ip (subst (λ (t : Text). IsIp t a.ip) (firsts e) x.is_ip) y.is_ip in
    let port : a.port ≡ b.port = one_number 0 65535 y.port a.port b.port (subst (λ (t : Text). IsNumber 0 65535 t a.port) (firsts (others e)) x.is_port) y.is_port in
    λ k. record { ip = ip k; port = port k }

one_frame : (args : List Text) (a b : Packet) → IsFrameLine args a → IsFrameLine args b → a ≡ b
one_frame args a b x y =
    let here : IsRunsWithin 1514 y.bytes x.content = subst (λ (t : Text). IsRunsWithin 1514 t x.content) (firsts (sym x.text ∙ y.text)) x.runs in
    x.means ∙ ap Frame (one_runs y.bytes x.content y.content here.is y.runs.is) ∙ sym y.means

one_udp : (args : List Text) (a b : Packet) → IsUdpLine args a → IsUdpLine args b → a ≡ b
one_udp args a b x y =
    let e = sym x.text ∙ y.text in
    let src = one_addr y.from x.src y.src (subst (λ (t : Text). IsAddr t x.src) (firsts e) x.is_src) y.is_src in
    let dst = one_addr y.to x.dst y.dst (subst (λ (t : Text). IsAddr t x.dst) (firsts (others e)) x.is_dst) y.is_dst in
    let here : IsRunsWithin 9216 y.bytes x.content = subst (λ (t : Text). IsRunsWithin 9216 t x.content) (firsts (others (others e))) x.runs in
    let content = one_runs y.bytes x.content y.content here.is y.runs.is in
    x.means ∙ rw (src, dst, content) (sym y.means)

pub one_packet : (line : Text) (a b : Packet) → IsPacketLine line a → IsPacketLine line b → a ≡ b
one_packet line a b x y = elim x.1 [
  | inl f ↦ elim y.1 [
    | inl g ↦ one_frame y.0 a b (subst (λ (t : List Text). IsFrameLine t a) (others (sym f.0 ∙ g.0)) f.1) g.1
    | inr g ↦ let words : codes "frame" ≡ codes "udp" = firsts (sym f.0 ∙ g.0) in cc words
  ]
  | inr f ↦ elim y.1 [
    | inl g ↦ let words : codes "udp" ≡ codes "frame" = firsts (sym f.0 ∙ g.0) in cc words
    | inr g ↦ one_udp y.0 a b (subst (λ (t : List Text). IsUdpLine t a) (others (sym f.0 ∙ g.0)) f.1) g.1
  ]
]
