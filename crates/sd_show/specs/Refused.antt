-- Why a packet has no text, in words.
use Rattle.std.specs.Prelude.{◌≡◌, ◌⊎◌, ℕ, ◌-◌, List, length, IsTrue, IsFalse, Option, Some, Err, codes}
use Rattle.sd_outside.specs.declared.packet.Packet.{Packet}
use Rattle.sd_outside.specs.declared.packet.Packet.TheVariants.{Frame, Udp}
use Rattle.sd_xdr.specs.declared.error.XdrError.TheVariants as xdr
use Rattle.sd_xdr.specs.declared.error.MsgError.{MsgError}
use Rattle.sd_xdr.specs.declared.error.MsgError.TheVariants as messages
use Rattle.sd_xdr.specs.Kind.{whole}
use Rattle.sd_xdr.specs.Grammar.{Refuses}
use Rattle.sd_xdr.specs.Grammar.{Reads}
use Rattle.sd_rpc_msg.specs.declared.message.Call.{Call}
use Rattle.sd_rpc_msg.specs.declared.message.Outcome.{Outcome}
use Rattle.sd_rpc_msg.specs.declared.message.Outcome.TheVariants.{Success, ProgUnavail, ProgMismatch, ProcUnavail, GarbageArgs, RpcMismatch, AuthError}
use Rattle.sd_rpc_msg.specs.declared.message.Message.{Message}
use Rattle.sd_rpc_msg.specs.declared.message.Message.TheVariants.{Asked, Answered}
use Rattle.sd_rpc_msg.specs.Layout.{message, message_value}
use Rattle.sd_tftp.specs.declared.packet.TftpError.{TftpError}
use Rattle.sd_tftp.specs.declared.packet.TftpError.TheVariants as files
use Rattle.sd_tftp.specs.Grammar as tftp
use Rattle.sd_outside.specs.declared.packet.Addr.{Addr}
use Rattle.sd_rarp.specs.declared.frame.RarpError.{RarpError}
use Rattle.sd_rarp.specs.declared.frame.RarpError.TheVariants as frames
use Rattle.sd_rarp.specs.Frame.{reading}
use Rattle.sd_show.specs.declared.error.Word.{Word}
use Rattle.sd_show.specs.declared.error.Word.TheVariants.{Line, Short, Long, Rarp, Shape, TooLong, Filling, Bool, Kind, Tail, Version, Auth, Opcode, NoEnd}
use Rattle.sd_show.specs.declared.error.ShowError.{ShowError}
use Rattle.sd_show.specs.declared.error.ShowError.TheVariants.{Bad, NoMemory}
use Rattle.sd_text.specs.Texts.{Text}
use Rattle.sd_show.specs.declared.procedures.Procedure.{Procedure}
use Rattle.sd_show.specs.declared.procedures.Known.{Known}
use Rattle.sd_show.specs.declared.calls.Heard.{Heard}
use Rattle.sd_show.specs.Programs.{numbers, args_kind, results_kind}
use Rattle.sd_show.specs.Calls.{procedure_of, answered}
use Rattle.sd_show.specs.Shown.{is_tftp, Packs}

abbrev pub word_text : Word → Text
word_text Line = codes "line"
word_text Short = codes "short"
word_text Long = codes "long"
word_text Rarp = codes "rarp"
word_text Shape = codes "shape"
word_text TooLong = codes "toolong"
word_text Filling = codes "filling"
word_text Bool = codes "bool"
word_text Kind = codes "kind"
word_text Tail = codes "tail"
word_text Version = codes "version"
word_text Auth = codes "auth"
word_text Opcode = codes "opcode"
word_text NoEnd = codes "noend"

-- a line that is none of a text
abbrev pub not_a_line : ShowError
not_a_line = Bad Line 0

-- the word and the place for what refuses a message; the version's place is its own
abbrev pub message_error : MsgError → ShowError
message_error (messages.Xdr (xdr.Short at)) = Bad Short at
message_error (messages.Xdr (xdr.TooLong at len)) = Bad TooLong at
message_error (messages.Xdr (xdr.Filling at)) = Bad Filling at
message_error (messages.Xdr (xdr.NotBool at word)) = Bad Bool at
message_error (messages.Xdr (xdr.Kind at word)) = Bad Kind at
message_error (messages.Xdr (xdr.Tail at)) = Bad Tail at
message_error (messages.RpcVersion xid got) = Bad Version 8
message_error (messages.AuthLong at len) = Bad Auth at
message_error messages.NoMemory = NoMemory

-- the same for a packet of TFTP: the opcode's place and that of a block that is too long are their own
abbrev pub file_error : TftpError → ShowError
file_error (files.Short at) = Bad Short at
file_error (files.Opcode got) = Bad Opcode 0
file_error (files.NoEnd at) = Bad NoEnd at
file_error (files.DataLong len) = Bad TooLong 4
file_error (files.Tail at) = Bad Tail at
file_error files.NoMemory = NoMemory

-- the same for a frame: a wrong length is the place, and the type's place is its own
abbrev pub frame_error : RarpError → ShowError
frame_error (frames.Short len) = Bad Short len
frame_error (frames.Long len) = Bad Long len
frame_error (frames.NotRarp kind) = Bad Rarp 12
frame_error (frames.Shape at) = Bad Shape at

-- The arguments of a call in a datagram of so many bytes are none of the procedure that is known by its numbers. They end where the
-- datagram ends, and places are counted from its start.
abbrev pub AreArgsRefused : ℕ → Call → MsgError → Type 0
AreArgsRefused len c r = (k : Known) × (numbers k ≡ procedure_of c) × Refuses whole (args_kind k) (len - length c.args) c.args r

-- The results of a reply in a datagram of so many bytes are none of the procedure that its call asked for.
abbrev pub AreResultsRefused : ℕ → Option Procedure → Outcome → MsgError → Type 0
AreResultsRefused len asked (Success verf bs) r = (k : Known) × (asked ≡ Some (numbers k)) × Refuses whole (results_kind k) (len - length bs) bs r
AreResultsRefused len asked (ProgUnavail verf) r = ⊥
AreResultsRefused len asked (ProgMismatch verf low high) r = ⊥
AreResultsRefused len asked (ProcUnavail verf) r = ⊥
AreResultsRefused len asked (GarbageArgs verf) r = ⊥
AreResultsRefused len asked (RpcMismatch low high) r = ⊥
AreResultsRefused len asked (AuthError stat) r = ⊥

abbrev pub IsBodyRefused : List Heard → Addr → Addr → ℕ → Message → MsgError → Type 0
IsBodyRefused seen src dst len (Asked c) r = AreArgsRefused len c r
IsBodyRefused seen src dst len (Answered r) e = AreResultsRefused len (answered r.xid src dst seen) r.outcome e

-- bytes that are no packet of TFTP, for this reason
pub record IsNoFile (src dst : Addr) (content : List ℕ) (e : ShowError) : Type 0 where
  pub r : TftpError
  pub port : IsTrue (is_tftp src dst)
  pub refuses : tftp.Refuses content r
  pub means : e ≡ file_error r

-- bytes that are no RPC message
pub record IsNoMessage (src dst : Addr) (content : List ℕ) (e : ShowError) : Type 0 where
  pub r : MsgError
  pub other : IsFalse (is_tftp src dst)
  pub refuses : Refuses whole message 0 content r
  pub means : e ≡ message_error r

-- an RPC message whose arguments or results are none
pub record HasNoBody (seen : List Heard) (src dst : Addr) (content : List ℕ) (e : ShowError) : Type 0 where
  pub m : Message
  pub r : MsgError
  pub other : IsFalse (is_tftp src dst)
  pub reads : Reads whole message content (message_value m)
  pub refuses : IsBodyRefused seen src dst (length content) m r
  pub means : e ≡ message_error r

-- The packet has no text behind these calls, and this is why: bytes that are no packet of TFTP, no RPC message or no RARP frame, or
-- a message whose arguments or results are none of its procedure.
abbrev pub HasNoText : List Heard → Packet → ShowError → Type 0
HasNoText seen (Udp src dst content) e = IsNoFile src dst content e ⊎ (IsNoMessage src dst content e ⊎ HasNoBody seen src dst content e)
HasNoText seen (Frame bytes) e = (r : RarpError) × (reading bytes ≡ Err r) × (e ≡ frame_error r)

-- What a refusal says; out of memory says nothing.
abbrev pub IsRefused : List Heard → Packet → ShowError → Type 0
IsRefused seen packet (Bad word at) = HasNoText seen packet (Bad word at)
IsRefused seen packet NoMemory = Unit {0}

-- The text is of no packet, and its refusal is `line` at 0.
abbrev pub HasNoPacket : Text → ShowError → Type 0
HasNoPacket text e = (e ≡ not_a_line) × ((packet : Packet) → Packs text packet → ⊥)

abbrev pub IsNotPacked : Text → ShowError → Type 0
IsNotPacked text (Bad word at) = HasNoPacket text (Bad word at)
IsNotPacked text NoMemory = Unit {0}
