-- The server's part of TFTP (RFC 1350): requests at port 69, and one session for each file that is being sent.
use Rattle.std.specs.Prelude.{ℕ, ◌+◌, ◌-◌, ◌%◌, ◌==◌, ◌&&◌, nat_le, nat_lt, not, if◌then◌else◌, Bool, List, [], ◌∷◌, ◌++◌, length, map, filter, drop, codes, Option, Some, None, Result, Ok, Err}
use Rattle.std.specs.List.{find}
use Rattle.std.specs.Str.{str_eq_ignore_ascii_case}
use Rattle.sd_outside.specs.declared.packet.Addr.{Addr}
use Rattle.sd_outside.specs.declared.packet.Packet.{Packet}
use Rattle.sd_outside.specs.declared.packet.Packet.TheVariants.{Udp}
use Rattle.sd_tftp.specs.declared.packet.TftpPacket.{TftpPacket}
use Rattle.sd_tftp.specs.declared.packet.TftpPacket.TheVariants.{Rrq, Wrq, Block, Ack, Error}
use Rattle.sd_tftp.specs.declared.packet.TftpError.{TftpError}
use Rattle.sd_tftp.specs.Grammar.{tftp_port, packet_bytes}
use Rattle.sd_tftp.specs.Reading.{reading}
use Rattle.sd_tftp.specs.Blocks.{block_at}
use Rattle.sd_config.specs.declared.config.Config.{Config}
use Rattle.sd_config.specs.Program.{boot_file}
use Rattle.sd_services.specs.Part.{Session, ServerPart, Replied, silence}

-- ---- ports and packets

-- each session has a port of its own, until 4,096 more were made
abbrev pub session_port : ℕ → ℕ
session_port n = 4096 + n % 4096

abbrev pub is_session_port : ℕ → Bool
is_session_port port = nat_le 4096 port && nat_lt port 8192

-- a packet of the server from this port
abbrev pub tftp_packet : Config → ℕ → Addr → TftpPacket → Packet
tftp_packet c port to packet = Udp (record { ip = c.server.ip; port = port }) to (packet_bytes packet)

-- an ERROR with this code and an empty message
abbrev pub tftp_error : Config → ℕ → Addr → ℕ → List Packet
tftp_error c port to code = tftp_packet c port to (Error code []) ∷ []

-- ---- sessions

-- the file that a session sends
abbrev pub bytes_or_none : Option (List ℕ) → List ℕ
bytes_or_none None = []
bytes_or_none (Some bytes) = bytes

abbrev pub file_of : Config → Session → List ℕ
file_of c s = bytes_or_none (boot_file c s.name)

-- the bytes of its present block
abbrev pub present_block : Config → Session → List ℕ
present_block c s = block_at (file_of c s) s.block

-- its present block, as it is sent to its peer
abbrev pub block_packet : Config → Session → Packet
block_packet c s = tftp_packet c (session_port s.number) s.peer (Block s.block (present_block c s))

-- the session with this number
abbrev pub session_in : ℕ → List Session → Option Session
session_in number sessions = find (λ s. s.number == number) sessions

-- this session in the place of the one with its number
abbrev pub with_session : Session → List Session → List Session
with_session new sessions = map (λ s. if s.number == new.number then new else s) sessions

abbrev pub without_session : ℕ → List Session → List Session
without_session number sessions = filter (λ s. not (s.number == number)) sessions

-- The present block is due as many ticks after its last send as a client waits.
abbrev pub is_due : Config → ℕ → Session → Bool
is_due c tick s = nat_le (s.sent + c.wait) tick

-- the present block was sent once more
abbrev pub sent_again : ℕ → Session → Session
sent_again tick s = record s { sent = tick; sends = s.sends + 1 }

-- ---- requests (RFC 1350, sections 4 and 5)

-- the transfer mode that is served, in letters of either case
abbrev pub is_octet : List ℕ → Bool
is_octet mode = str_eq_ignore_ascii_case mode (codes "octet")

-- a session that begins: its first block was sent
abbrev pub new_session : ServerPart → ℕ → Addr → List ℕ → Session
new_session s tick peer name = record { number = s.made; peer = peer; name = name; block = 1; sent = tick; sends = 1 }

-- There are 16 sessions at most, so the oldest ends where one more begins.
abbrev pub begun : ServerPart → Session → ServerPart
begun s new = record s { sessions = drop (length s.sessions - 15) s.sessions ++ new ∷ []; made = s.made + 1 }

-- a request for a file: a session begins where it is there, else `File not found'
abbrev pub asked_for : Config → ℕ → ServerPart → Addr → List ℕ → Option (List ℕ) → Replied
asked_for c tick s from name None = record { out = tftp_error c tftp_port from 1; next = s }
asked_for c tick s from name (Some bytes) = record { out = block_packet c (new_session s tick from name) ∷ []; next = begun s (new_session s tick from name) }

-- At the port for requests a mode other than octet is an `Illegal TFTP operation', a WRQ an `Access violation', and all else is
-- ignored.
abbrev pub requested : Config → ℕ → ServerPart → Addr → Result TftpPacket TftpError → Replied
requested c tick s from (Ok (Rrq name mode)) = if is_octet mode then asked_for c tick s from name (boot_file c name) else record { out = tftp_error c tftp_port from 4; next = s }
requested c tick s from (Ok (Wrq name mode)) = record { out = tftp_error c tftp_port from 2; next = s }
requested c tick s from (Ok (Block n body)) = silence s
requested c tick s from (Ok (Ack n)) = silence s
requested c tick s from (Ok (Error code message)) = silence s
requested c tick s from (Err why) = silence s

-- ---- packets to a session's port (RFC 1350, sections 2, 4, 5 and 6)

abbrev pub is_session_of : ℕ → Addr → Session → Bool
is_session_of port from s = (session_port s.number == port) && (s.peer.ip == from.ip) && (s.peer.port == from.port)

-- The peer acknowledged the present block: the next is sent. One below 512 bytes was the last.
abbrev pub next_block : ℕ → Session → Session
next_block tick s = record s { block = s.block + 1; sent = tick; sends = 1 }

abbrev pub ended : ServerPart → Session → Replied
ended part s = record { out = []; next = record part { sessions = without_session s.number part.sessions } }

abbrev pub acknowledged : Config → ℕ → ServerPart → Session → Replied
acknowledged c tick part s =
    if nat_lt (length (present_block c s)) 512 then ended part s else
    record { out = block_packet c (next_block tick s) ∷ []; next = record part { sessions = with_session (next_block tick s) part.sessions } }

-- from the session's peer: an ACK of the present block alone moves on, so no block is sent again for an ACK that comes again
-- (RFC 1123, section 4.2.3.1); an ERROR ends
abbrev pub heard : Config → ℕ → ServerPart → Session → TftpPacket → Replied
heard c tick part s (Ack n) = if n == s.block then acknowledged c tick part s else silence part
heard c tick part s (Error code message) = ended part s
heard c tick part s (Block n body) = silence part
heard c tick part s (Rrq name mode) = silence part
heard c tick part s (Wrq name mode) = silence part

-- from anyone else: `Unknown transfer ID', unless it is an ERROR
abbrev pub not_known : Config → ServerPart → ℕ → Addr → TftpPacket → Replied
not_known c part port from (Error code message) = silence part
not_known c part port from (Ack n) = record { out = tftp_error c port from 5; next = part }
not_known c part port from (Block n body) = record { out = tftp_error c port from 5; next = part }
not_known c part port from (Rrq name mode) = record { out = tftp_error c port from 5; next = part }
not_known c part port from (Wrq name mode) = record { out = tftp_error c port from 5; next = part }

abbrev pub heard_by : Config → ℕ → ServerPart → ℕ → Addr → TftpPacket → Option Session → Replied
heard_by c tick part port from packet (Some s) = heard c tick part s packet
heard_by c tick part port from packet None = not_known c part port from packet

-- the first session of this port with this peer is given what reads
abbrev pub transferred : Config → ℕ → ServerPart → ℕ → Addr → Result TftpPacket TftpError → Replied
transferred c tick part port from (Ok packet) = heard_by c tick part port from packet (find (is_session_of port from) part.sessions)
transferred c tick part port from (Err why) = silence part

-- a datagram to this port of the server
abbrev pub tftp_reply : Config → ℕ → ServerPart → Addr → ℕ → List ℕ → Replied
tftp_reply c tick part from port body =
    if port == tftp_port then requested c tick part from (reading body) else
    (if is_session_port port then transferred c tick part port from (reading body) else silence part)
