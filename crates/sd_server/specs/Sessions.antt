-- The server's TFTP sessions as the code has them, and what becomes of them.
use Rattle.std.specs.Prelude.{◌≡◌, ℕ, ◌<◌, ◌≤◌, ◌^◌, false, List, [], ◌∷◌, length, Option, Some, None, slice_get}
use Rattle.std.specs.List.{AllByRecursion}
use Rattle.sd_outside.specs.declared.packet.Packet.{Packet}
use Rattle.sd_config.specs.declared.config.BootFile.{BootFile}
use Rattle.sd_config.specs.declared.config.Config.{Config}
use Rattle.sd_services.specs.Part.{Session, ServerPart, Replied}
use Rattle.sd_services.specs.Sessions.{with_session, without_session, begun, file_of}
use Rattle.sd_mount.specs.Tables.{with_mount, without, without_host}
use Rattle.sd_server.specs.declared.sessions.Sending.{Sending}
use Rattle.sd_server.specs.declared.replies.Change.{Change}
use Rattle.sd_server.specs.declared.replies.Change.TheVariants as changes
use Rattle.sd_server.specs.declared.replies.Answer.{Answer}

-- ---- boot files by their places

abbrev pub name_in : Option BootFile → List ℕ
name_in None = []
name_in (Some file) = file.name

abbrev pub bytes_in : Option BootFile → List ℕ
bytes_in None = []
bytes_in (Some file) = file.bytes

-- the name and the bytes of the boot file at a place
abbrev pub name_at : Config → ℕ → List ℕ
name_at c place = name_in (slice_get c.tftp place)

abbrev pub bytes_at : Config → ℕ → List ℕ
bytes_at c place = bytes_in (slice_get c.tftp place)

-- ---- sessions

-- a session as the world has it
abbrev pub session_of : Config → Sending → Session
session_of c s = record { number = s.number; peer = s.peer; name = name_at c s.file; block = s.sender.block; sent = s.sender.sent_at; sends = s.sender.sends }

-- It goes on, its blocks are numbered from 1, and the file at its place is the one of its name.
pub record IsSending (c : Config) (s : Sending) : Type 0 where
  pub peer : s.sender.peer ≡ s.peer
  pub going : s.sender.ended ≡ false
  pub block : 1 ≤ s.sender.block
  pub filed : file_of c (session_of c s) ≡ bytes_at c s.file

-- the numbers ascend, and all are below this one
abbrev pub Ascends : ℕ → List Sending → Type 0
Ascends made [] = Unit {0}
Ascends made (s ∷ more) = (s.number < made) × AllByRecursion (λ t. s.number < t.number) more × Ascends made more

-- what holds of the sessions of every server
pub record AreSessions (c : Config) (sessions : List Sending) (made : ℕ) : Type 0 where
  pub each : AllByRecursion (IsSending c) sessions
  pub numbers : Ascends made sessions
  pub few : length sessions ≤ 16

-- ---- what the server does with a packet that changes no file

abbrev pub packets_in : Option Packet → List Packet
packets_in None = []
packets_in (Some packet) = packet ∷ []

-- the part after a change
abbrev pub after_change : Config → ServerPart → Change → ServerPart
after_change c part changes.Stays = part
after_change c part (changes.Begins s) = begun part (session_of c s)
after_change c part (changes.Moves s) = record part { sessions = with_session (session_of c s) part.sessions }
after_change c part (changes.Ends number) = record part { sessions = without_session number part.sessions }
after_change c part (changes.Mounts host path) = record part { mounts = with_mount host path part.mounts }
after_change c part (changes.Unmounts host path) = record part { mounts = without host path part.mounts }
after_change c part (changes.Leaves host) = record part { mounts = without_host host part.mounts }

-- A session begins with the next number. A path that is mounted is no longer than a message carries.
abbrev pub MayChange : Config → ServerPart → Change → Type 0
MayChange c part changes.Stays = Unit {0}
MayChange c part (changes.Begins s) = (s.number ≡ part.made) × IsSending c s
MayChange c part (changes.Moves s) = IsSending c s
MayChange c part (changes.Ends number) = Unit {0}
MayChange c part (changes.Mounts host path) = (host < 2 ^ 32) × (length path ≤ 1024)
MayChange c part (changes.Unmounts host path) = Unit {0}
MayChange c part (changes.Leaves host) = Unit {0}

-- this answer is what a server does
pub record Answers (c : Config) (part : ServerPart) (a : Answer) (does : Replied) : Type 0 where
  pub out : packets_in a.out ≡ does.out
  pub next : after_change c part a.change ≡ does.next
  pub fit : MayChange c part a.change
