-- Datagrams as they are on an Ethernet: UDP (RFC 768) in internet packets (RFC 791) in frames.
use Rattle.std.specs.Prelude.{ℕ, ◌+◌, ◌-◌, ◌*◌, ◌/◌, ◌%◌, nat_lt, ◌==◌, List, [], ◌∷◌, ◌++◌, length, take, drop, map, replicate, fold, if◌then◌else◌}
use Rattle.std.specs.Int.{w16, w32, to_be_bytes}
use Rattle.std.specs.List.{range_with_len}
use Rattle.sd_outside.specs.declared.packet.Addr.{Addr}
use Rattle.sd_view.specs.declared.internet.IpHead.{IpHead}

-- numbers of two and of four bytes, the highest byte first
unfoldable pub half : ℕ → List ℕ
half n = to_be_bytes w16 n

unfoldable pub word : ℕ → List ℕ
word n = to_be_bytes w32 n

-- ---- the checksum of both headers (RFC 791, section 3.1; RFC 1071, section 1)

-- One's complement addition of two words of 16 bits: what is carried out at the high end is added at the low end.
abbrev pub ones_add : ℕ → ℕ → ℕ
ones_add a b = if nat_lt (a + b) 65536 then a + b else a + b - 65535

-- the words of 16 bits of some bytes; an odd last byte is the high one of its word
abbrev pub words_of : List ℕ → List ℕ
words_of [] = []
words_of (high ∷ []) = high * 256 ∷ []
words_of (high ∷ low ∷ bytes) = (high * 256 + low) ∷ words_of bytes

-- the one's complement of their one's complement sum
unfoldable pub checksum : List ℕ → ℕ
checksum bytes = 65535 - fold ones_add 0 (words_of bytes)

-- ---- UDP (RFC 768)

-- the pseudo header: source and destination, a zero, the protocol 17 and the datagram's length
abbrev pub pseudo_header : Addr → Addr → ℕ → List ℕ
pseudo_header src dst size = word src.ip ++ word dst.ip ++ (0 ∷ 17 ∷ []) ++ half size

-- a datagram with this checksum; its length counts the 8 bytes of the header
abbrev pub datagram_with : Addr → Addr → List ℕ → ℕ → List ℕ
datagram_with src dst body check = half src.port ++ half dst.port ++ half (8 + length body) ++ half check ++ body

-- a checksum of zero is sent as all ones, since zero says that there is none
abbrev pub never_zero : ℕ → ℕ
never_zero check = if check == 0 then 65535 else check

-- the checksum counts the pseudo header and the datagram with a checksum of zero
abbrev pub datagram_check : Addr → Addr → List ℕ → ℕ
datagram_check src dst body = never_zero (checksum (pseudo_header src dst (8 + length body) ++ datagram_with src dst body 0))

abbrev pub datagram : Addr → Addr → List ℕ → List ℕ
datagram src dst body = datagram_with src dst body (datagram_check src dst body)

-- ---- internet packets (RFC 791, section 3.1)

-- the second word of 16 bits of the second row: the flag of more fragments, and the offset in eights of bytes
abbrev pub fragment_word : IpHead → ℕ
fragment_word h = (if h.more then 0x2000 else 0) + h.offset

-- A header without options that says this, with this checksum: version 4 and five words of 32 bits, no type of service, the total
-- length, the number of the datagram, its fragment, 64 as time to live, and the protocol 17.
abbrev pub header_with : IpHead → ℕ → List ℕ
header_with h check =
    (0x45 ∷ 0 ∷ []) ++ half (20 + h.size) ++ half h.id ++ half (fragment_word h) ++ (64 ∷ 17 ∷ []) ++ half check ++ word h.src ++ word h.dst

-- its checksum counts the header with a checksum of zero
abbrev pub header : IpHead → List ℕ
header h = header_with h (checksum (header_with h 0))

-- A datagram is sent in parts of 1,480 bytes, of which the last may be shorter: with the internet header they have the 1,500 bytes
-- that an Ethernet frame takes (RFC 894).

-- how many parts n bytes have
abbrev pub parts_of : ℕ → ℕ
parts_of n = (n + 1479) / 1480

-- part i, counted from 0
unfoldable pub part : ℕ → List ℕ → List ℕ
part i bytes = take 1480 (drop (1480 * i) bytes)

-- The header of part i of a datagram: 1,480 bytes are 185 eights.
abbrev pub part_head : ℕ → Addr → Addr → List ℕ → ℕ → IpHead
part_head id src dst bytes i =
    record { id = id % 65536; offset = 185 * i; more = nat_lt (i + 1) (parts_of (length bytes)); size = length (part i bytes); src = src.ip; dst = dst.ip }

-- the internet packet of part i of datagram number id
abbrev pub fragment : ℕ → Addr → Addr → List ℕ → ℕ → List ℕ
fragment id src dst bytes i = header (part_head id src dst bytes i) ++ part i bytes

-- ---- Ethernet

-- A transcript doesn't tell the hardware addresses of datagrams. Each internet address has its own here: 02 and 00, which no maker
-- gives away (02 is the bit of addresses that are given locally), and its four bytes; 255.255.255.255 has that of everyone.
abbrev pub hardware_address : ℕ → List ℕ
hardware_address ip = if ip == 0xffffffff then replicate 6 0xff else (2 ∷ 0 ∷ []) ++ word ip

-- A frame of the type 0800, the internet protocol (RFC 894). RFC 894 has fewer than 46 bytes of data filled up with zeros, which a
-- capture leaves out.
abbrev pub ethernet : ℕ → ℕ → List ℕ → List ℕ
ethernet src dst payload = hardware_address dst ++ hardware_address src ++ (8 ∷ 0 ∷ []) ++ payload

-- the frames with the bytes of datagram number id, one for each part
abbrev pub frame_of : ℕ → Addr → Addr → List ℕ → ℕ → List ℕ
frame_of id src dst bytes i = ethernet src.ip dst.ip (fragment id src dst bytes i)

abbrev pub frames_in : ℕ → Addr → Addr → List ℕ → List (List ℕ)
frames_in id src dst bytes = map (λ i. frame_of id src dst bytes i) (range_with_len 0 (parts_of (length bytes)))

-- those of the datagram with this body
abbrev pub frames : ℕ → Addr → Addr → List ℕ → List (List ℕ)
frames id src dst body = frames_in id src dst (datagram src dst body)
