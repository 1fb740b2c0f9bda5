-- How long the parts of packets are.
use Rattle.std.proofs.Common.{◌≡◌, ℕ, ◌+◌, ◌*◌, ◌≤◌, eqb, List, length, drop, refl, arith, inl, inr, length-append}
use Rattle.std.proofs.lemmas.Bool.{cases_Bool}
use Rattle.std.proofs.lemmas.List.{length-take}
use Rattle.sd_outside.specs.declared.packet.Addr.{Addr}
use Rattle.sd_view.specs.declared.internet.IpHead.{IpHead}
use Rattle.sd_view.specs.Internet.{half, word, datagram_with, fragment_word, header_with, header, checksum, part, part_head, fragment, hardware_address, ethernet, frame_of}

half_size : (n : ℕ) → length (half n) ≡ 2
unfolding half
half_size n = refl

word_size : (n : ℕ) → length (word n) ≡ 4
unfolding word
word_size n = refl

pub datagram_size : (src dst : Addr) (body : List ℕ) (check : ℕ) → length (datagram_with src dst body check) ≡ 8 + length body
datagram_size src dst body check =
    rw (length-append, length-append, length-append, length-append, half_size src.port, half_size dst.port, half_size (8 + length body), half_size check) (omega arith)

header_size : (h : IpHead) (check : ℕ) → length (header_with h check) ≡ 20
header_size h check =
    rw (length-append, length-append, length-append, length-append, length-append, length-append, length-append, half_size (20 + h.size), half_size h.id, half_size (fragment_word h), half_size check, word_size h.src, word_size h.dst) refl

pub part_short : (i : ℕ) (bytes : List ℕ) → length (part i bytes) ≤ 1480
unfolding part
part_short i bytes = omega (arith, length-take 1480 (drop (1480 * i) bytes))

hardware_size : (ip : ℕ) → length (hardware_address ip) ≡ 6
hardware_size ip = elim (cases_Bool (eqb ip 0xffffffff)) [ inl all ↦ rw all refl | inr one ↦ rw (one, length-append, word_size ip) refl ]

ethernet_size : (src dst : ℕ) (payload : List ℕ) → length (ethernet src dst payload) ≡ 14 + length payload
ethernet_size src dst payload = rw (length-append, length-append, length-append, hardware_size src, hardware_size dst) (omega arith)

pub frame_short : (id : ℕ) (src dst : Addr) (bytes : List ℕ) (i : ℕ) → length (frame_of id src dst bytes i) ≤ 1514
frame_short id src dst bytes i =
    let head = part_head id src dst bytes i in
    omega (arith, ethernet_size src.ip dst.ip (fragment id src dst bytes i), length-append (header head) (part i bytes), header_size head (checksum (header_with head 0)), part_short i bytes)
