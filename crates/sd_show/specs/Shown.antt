-- Which text a packet has, and of which packets a text is.
use Rattle.std.specs.Prelude.{◌≡◌, ◌⊎◌, ℕ, ◌≤◌, ◌<◌, ◌^◌, Bool, ◌||◌, ◌&&◌, ◌==◌, nat_le, IsTrue, IsFalse, List, length}
use Rattle.sd_outside.specs.Bytes.{IsMac}
use Rattle.sd_outside.specs.declared.packet.Addr.{Addr}
use Rattle.sd_outside.specs.declared.packet.Packet.{Packet}
use Rattle.sd_outside.specs.declared.packet.Packet.TheVariants.{Frame, Udp}
use Rattle.sd_xdr.specs.Kind.{whole}
use Rattle.sd_xdr.specs.Grammar.{Reads, writes}
use Rattle.sd_rpc_msg.specs.declared.message.Message.{Message}
use Rattle.sd_rpc_msg.specs.Layout.{message, message_value}
use Rattle.sd_rpc_msg.specs.Laws.{IsMessage}
use Rattle.sd_tftp.specs.declared.packet.TftpPacket.{TftpPacket}
use Rattle.sd_tftp.specs.Grammar as tftp
use Rattle.sd_tftp.specs.Grammar.{tftp_port}
use Rattle.sd_rarp.specs.declared.frame.RarpFrame.{RarpFrame}
use Rattle.sd_rarp.specs.declared.frame.RarpFrame.TheVariants as frames
use Rattle.sd_rarp.specs.Frame.{Spells, frame_bytes}
use Rattle.sd_text.specs.Texts.{Text}
use Rattle.sd_text.specs.Grammar as texts
use Rattle.sd_text.specs.Packets.{AddrFits}
use Rattle.sd_show.specs.declared.calls.Heard.{Heard}
use Rattle.sd_show.specs.Lines.{line, carries_file, carries_message, datagram_line, frame_line}
use Rattle.sd_show.specs.Messages.{Body, IsBody, IsWrittenBody, with_body}
use Rattle.sd_show.specs.Calls.{heard}

-- the ports at which a datagram is one of TFTP: the server's (RFC 1350, section 4), and those of its sessions
abbrev pub is_tftp_port : ℕ → Bool
is_tftp_port port = port == tftp_port || (nat_le 4096 port && nat_le port 8191)

abbrev pub is_tftp : Addr → Addr → Bool
is_tftp src dst = is_tftp_port src.port || is_tftp_port dst.port

-- ---- the text of a packet

-- a datagram that is a packet of TFTP
pub record ShowsFile (src dst : Addr) (content : List ℕ) (text : Text) : Type 0 where
  pub p : TftpPacket
  pub port : IsTrue (is_tftp src dst)
  pub spells : tftp.Spells content p
  pub means : text ≡ texts.writes line (datagram_line src dst (carries_file p))

-- a datagram that is an RPC message, behind these calls
pub record ShowsMessage (seen : List Heard) (src dst : Addr) (content : List ℕ) (text : Text) : Type 0 where
  pub m : Message
  pub b : Body
  pub other : IsFalse (is_tftp src dst)
  pub reads : Reads whole message content (message_value m)
  pub body : IsBody seen src dst m b
  pub means : text ≡ texts.writes line (datagram_line src dst (carries_message m b))

-- The text of a packet behind these calls.
abbrev pub Shows : List Heard → Packet → Text → Type 0
Shows seen (Udp src dst content) text = ShowsFile src dst content text ⊎ ShowsMessage seen src dst content text
Shows seen (Frame bytes) text = (f : RarpFrame) × Spells bytes f × (text ≡ texts.writes line (frame_line f))

-- The calls with that of this packet, if it holds one.
abbrev pub Hears : List Heard → Packet → List Heard → Type 0
Hears seen (Udp src dst content) new =
    (IsTrue (is_tftp src dst) × (new ≡ seen))
    ⊎ (IsFalse (is_tftp src dst) × ((m : Message) × Reads whole message content (message_value m) × (new ≡ heard seen src dst m)))
Hears seen (Frame bytes) new = new ≡ seen

-- ---- the packet of a text

-- the hardware addresses have six bytes, and the others are words
abbrev pub IsFrame : RarpFrame → Type 0
IsFrame (frames.Request dst src sender target) = IsMac dst × IsMac src × IsMac sender × IsMac target
IsFrame (frames.Reply dst src sender sender_ip target target_ip) =
    IsMac dst × IsMac src × IsMac sender × (sender_ip < 2 ^ 32) × IsMac target × (target_ip < 2 ^ 32)

-- a datagram of TFTP as it is written, with this text
pub record PacksFile (text : Text) (src dst : Addr) (content : List ℕ) : Type 0 where
  pub p : TftpPacket
  pub port : IsTrue (is_tftp src dst)
  pub range : tftp.IsInRange p
  pub fits : tftp.HasSpelling p
  pub written : content ≡ tftp.packet_bytes p
  pub reads : texts.Reads line text (datagram_line src dst (carries_file p))

-- the same for an RPC message
pub record PacksMessage (text : Text) (src dst : Addr) (content : List ℕ) : Type 0 where
  pub m : Message
  pub b : Body
  pub other : IsFalse (is_tftp src dst)
  pub is : IsMessage m
  pub body : IsWrittenBody m b
  pub written : content ≡ writes message (message_value m)
  pub reads : texts.Reads line text (datagram_line src dst (carries_message m b))

-- a frame as it is written, with this text
pub record PacksFrame (text : Text) (bytes : List ℕ) (f : RarpFrame) : Type 0 where
  pub is : IsFrame f
  pub written : bytes ≡ frame_bytes f
  pub reads : texts.Reads line text (frame_line f)

-- The packet whose text this is, in the written form: a datagram of at most 9,216 bytes, or a frame. A byte run may be split in any
-- way.
abbrev pub Packs : Text → Packet → Type 0
Packs text (Udp src dst content) = AddrFits src × AddrFits dst × (length content ≤ 9216) × (PacksFile text src dst content ⊎ PacksMessage text src dst content)
Packs text (Frame bytes) = (f : RarpFrame) × PacksFrame text bytes f

-- ---- written form

-- an RPC message with the arguments or results as they are written for what they say
pub record IsWrittenMessage (seen : List Heard) (src dst : Addr) (content written : List ℕ) : Type 0 where
  pub m : Message
  pub b : Body
  pub other : IsFalse (is_tftp src dst)
  pub reads : Reads whole message content (message_value m)
  pub body : IsBody seen src dst m b
  pub means : written ≡ writes message (message_value (with_body m b))

-- a packet of TFTP as it is written
pub record IsWrittenFile (src dst : Addr) (content written : List ℕ) : Type 0 where
  pub p : TftpPacket
  pub port : IsTrue (is_tftp src dst)
  pub spells : tftp.Spells content p
  pub means : written ≡ tftp.packet_bytes p

-- The packet in written form: the undefined fields and the tail of a frame are zeros, nothing follows the mode in a packet of TFTP,
-- and the bytes of an address are written as chars with a sign.
abbrev pub IsWritten : List Heard → Packet → Packet → Type 0
IsWritten seen (Udp src dst content) packet = (written : List ℕ) × (packet ≡ Udp src dst written)
    × (IsWrittenFile src dst content written ⊎ IsWrittenMessage seen src dst content written)
IsWritten seen (Frame bytes) packet = (f : RarpFrame) × Spells bytes f × (packet ≡ Frame (frame_bytes f))
