-- What holds of RPC messages and of UNIX credentials. The functions of src/laws.rt have these as their contracts.
use Rattle.std.specs.Prelude.{◌≡◌, ◌↔◌, ℕ, ◌^◌, ◌<◌, ◌≤◌, List, length, All}
use Rattle.sd_xdr.specs.Kind.{whole, ended}
use Rattle.sd_xdr.specs.Grammar.{Reads, writes}
use Rattle.sd_rpc_msg.specs.declared.message.OpaqueAuth.{OpaqueAuth}
use Rattle.sd_rpc_msg.specs.declared.message.Outcome.{Outcome}
use Rattle.sd_rpc_msg.specs.declared.message.Outcome.TheVariants.{Success, ProgUnavail, ProgMismatch, ProcUnavail, GarbageArgs, RpcMismatch, AuthError}
use Rattle.sd_rpc_msg.specs.declared.message.Message.{Message}
use Rattle.sd_rpc_msg.specs.declared.message.Message.TheVariants.{Asked, Answered}
use Rattle.sd_rpc_msg.specs.declared.unix.UnixCred.{UnixCred}
use Rattle.sd_rpc_msg.specs.Layout.{message, message_value}
use Rattle.sd_rpc_msg.specs.Unix.{unix, unix_value}

-- a definition's number may be any, a message's is a word
abbrev pub IsWord : ℕ → Type 0
IsWord n = n < 2 ^ 32

abbrev pub IsAuth : OpaqueAuth → Type 0
IsAuth a = IsWord a.flavor × (length a.body ≤ 400)

abbrev pub IsOutcome : Outcome → Type 0
IsOutcome (Success verf results) = IsAuth verf
IsOutcome (ProgUnavail verf) = IsAuth verf
IsOutcome (ProgMismatch verf low high) = IsAuth verf × IsWord low × IsWord high
IsOutcome (ProcUnavail verf) = IsAuth verf
IsOutcome (GarbageArgs verf) = IsAuth verf
IsOutcome (RpcMismatch low high) = IsWord low × IsWord high
IsOutcome (AuthError stat) = (1 ≤ stat) × (stat ≤ 5)

-- the messages that have a spelling: the numbers are words, the bodies have room, and an auth_stat is 1 to 5
abbrev pub IsMessage : Message → Type 0
IsMessage (Asked c) = IsWord c.xid × IsWord c.prog × IsWord c.vers × IsWord c.proc_no × IsAuth c.cred × IsAuth c.verf
IsMessage (Answered r) = IsWord r.xid × IsOutcome r.outcome

-- the credentials that have a spelling
abbrev pub IsUnix : UnixCred → Type 0
IsUnix c = IsWord c.stamp × (length c.machine ≤ 255)
    × IsWord c.uid × IsWord c.gid
    × (length c.gids ≤ 16) × All IsWord c.gids

-- What is written for a message is read as that message, and as no other.
abbrev pub WrittenIsRead : Type 0
WrittenIsRead = (m n : Message) → IsMessage m →
    Reads whole message (writes message (message_value m)) (message_value n) ↔ (n ≡ m)

-- Bytes that are read as a message are those that are written for it, and it is one that has a spelling.
abbrev pub OneSpelling : Type 0
OneSpelling = (m : Message) (bs : List ℕ) →
    Reads whole message bs (message_value m) → (bs ≡ writes message (message_value m)) × IsMessage m

-- Messages that are the same value are the same.
abbrev pub ToldApart : Type 0
ToldApart = (m n : Message) → message_value m ≡ message_value n → m ≡ n

-- The same of UNIX credentials.
abbrev pub UnixWrittenIsRead : Type 0
UnixWrittenIsRead = (c d : UnixCred) → IsUnix c →
    Reads whole (ended unix) (writes unix (unix_value c)) (unix_value d) ↔ (d ≡ c)

abbrev pub UnixOneSpelling : Type 0
UnixOneSpelling = (c : UnixCred) (bs : List ℕ) →
    Reads whole (ended unix) bs (unix_value c) → (bs ≡ writes unix (unix_value c)) × IsUnix c

abbrev pub UnixToldApart : Type 0
UnixToldApart = (c d : UnixCred) → unix_value c ≡ unix_value d → c ≡ d
