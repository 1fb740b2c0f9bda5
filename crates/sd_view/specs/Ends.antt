-- Who is where: the client, the server, and all others, who are strangers.
use Rattle.std.specs.Prelude.{◌==◌, ℕ, Bool, true, false, List, [], ◌∷◌, Option, Some, None, Result, Ok, Err, if◌then◌else◌}
use Rattle.sd_outside.specs.Bytes.{broadcast_ip}
use Rattle.sd_outside.specs.declared.packet.Packet.{Packet}
use Rattle.sd_outside.specs.declared.packet.Packet.TheVariants.{Frame, Udp}
use Rattle.sd_rarp.specs.declared.frame.RarpFrame.{RarpFrame}
use Rattle.sd_rarp.specs.declared.frame.RarpFrame.TheVariants.{Request, Reply}
use Rattle.sd_rarp.specs.declared.frame.RarpError.{RarpError}
use Rattle.sd_rarp.specs.Frame.{reading}
use Rattle.sd_view.specs.declared.ends.Column.{Column}
use Rattle.sd_view.specs.declared.ends.Column.TheVariants.{Client, Server, Stranger}
use Rattle.sd_view.specs.declared.ends.Ends.{Ends}
use Rattle.sd_view.specs.declared.lines.Line.{Line}
use Rattle.sd_view.specs.declared.lines.Line.TheVariants.{Sent, Came, Failed, Answer}

-- A reply frame (RFC 903) tells the internet addresses of the server that sends it and of the client that asked.
abbrev pub ends_in : Result RarpFrame RarpError → Option Ends
ends_in (Ok (Reply dst src sender sender_ip target target_ip)) = Some (record { server = sender_ip; client = target_ip })
ends_in (Ok (Request dst src sender target)) = None
ends_in (Err e) = None

-- the addresses that a line tells
abbrev pub told_ends : Line → Option Ends
told_ends (Sent tick id (Frame bytes)) = ends_in (reading bytes)
told_ends (Sent tick id (Udp src dst body)) = None
told_ends (Came how tick id) = None
told_ends (Failed tick) = None
told_ends (Answer answer) = None

abbrev pub first_of : Option Ends → Option Ends → Option Ends
first_of (Some ends) other = Some ends
first_of None other = other

-- those that the first reply frame of a run tells
abbrev pub ends_of : List Line → Option Ends
ends_of [] = None
ends_of (line ∷ run) = first_of (told_ends line) (ends_of run)

-- whose an internet address is; where no reply frame tells the ends', each is a stranger's
abbrev pub column_of : Option Ends → ℕ → Column
column_of None ip = Stranger
column_of (Some e) ip = if ip == e.client then Client else (if ip == e.server then Server else Stranger)

abbrev pub is_request : Result RarpFrame RarpError → Bool
is_request (Ok (Request dst src sender target)) = true
is_request (Ok (Reply dst src sender sender_ip target target_ip)) = false
is_request (Err e) = false

-- The client sends request frames, and the server all others.
abbrev pub sender : Option Ends → Packet → Column
sender e (Frame bytes) = if is_request (reading bytes) then Client else Server
sender e (Udp src dst body) = column_of e src.ip

-- What goes to everyone is for the server.
abbrev pub receiver : Option Ends → Packet → Column
receiver e (Frame bytes) = if is_request (reading bytes) then Server else Client
receiver e (Udp src dst body) = if dst.ip == broadcast_ip then Server else column_of e dst.ip
