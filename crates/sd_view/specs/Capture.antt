-- A capture file in the classic format (libpcap's savefile, version 2.4), the highest byte of each number first.
use Rattle.std.specs.Prelude.{ℕ, ◌*◌, ◌/◌, ◌%◌, ◌≤◌, List, [], ◌∷◌, ◌++◌, length, flat_map}
use Rattle.sd_outside.specs.declared.packet.Packet.{Packet}
use Rattle.sd_outside.specs.declared.packet.Packet.TheVariants.{Frame, Udp}
use Rattle.sd_view.specs.declared.lines.Line.{Line}
use Rattle.sd_view.specs.declared.lines.Line.TheVariants.{Sent, Came, Failed, Answer}
use Rattle.sd_view.specs.Internet.{half, word, frames}

-- the file's header: its magic number, version 2.4, no shift to GMT, no accuracy of the times, at most 65,535 bytes of a frame, and
-- 1 for Ethernet
abbrev pub file_header : List ℕ
file_header = word 0xa1b2c3d4 ++ half 2 ++ half 4 ++ word 0 ++ word 0 ++ word 65535 ++ word 1

-- A frame's header: seconds and microseconds, and its length twice, as kept and as it was. A tick lasts 10 milliseconds. The seconds
-- have four bytes, and begin again at 0 after them.
abbrev pub frame_header : ℕ → ℕ → List ℕ
frame_header tick size = word (tick / 100 % 4294967296) ++ word (tick % 100 * 10000) ++ word size ++ word size

abbrev pub framed : ℕ → List ℕ → List ℕ
framed tick frame = frame_header tick (length frame) ++ frame

-- what a packet is on the Ethernet: a frame is itself
abbrev pub frames_of : ℕ → Packet → List (List ℕ)
frames_of id (Frame bytes) = bytes ∷ []
frames_of id (Udp src dst body) = frames id src dst body

-- a packet is in the capture where it was sent
abbrev pub captured : Line → List ℕ
captured (Sent tick id packet) = flat_map (λ frame. framed tick frame) (frames_of id packet)
captured (Came how tick id) = []
captured (Failed tick) = []
captured (Answer answer) = []

abbrev pub capture : List Line → List ℕ
capture run = file_header ++ flat_map captured run

-- a packet within the limits of transcripts
abbrev pub IsShort : Packet → Type 0
IsShort (Frame bytes) = length bytes ≤ 1514
IsShort (Udp src dst body) = length body ≤ 9216

abbrev pub HasShort : Line → Type 0
HasShort (Sent tick id packet) = IsShort packet
HasShort (Came how tick id) = Unit {0}
HasShort (Failed tick) = Unit {0}
HasShort (Answer answer) = Unit {0}
