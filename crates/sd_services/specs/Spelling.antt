-- What calls ask for, and which packets change a file, by the grammars of the messages: an RPC call (RFC 1057, section 8), and one of
-- NFSPROC_WRITE (RFC 1094, section 2.2.9).
use Rattle.std.specs.Prelude.{◌≡◌, ◌↔◌, ◌⊎◌, ℕ, ◌+◌, ◌<◌, ◌≤◌, true, IsTrue, IsFalse, List, length, Some}
use Rattle.std.specs.Option.{option_map}
use Rattle.sd_outside.specs.Bytes.{IsBytes}
use Rattle.sd_outside.specs.declared.fhandle.FHandle.{FHandle}
use Rattle.sd_outside.specs.declared.packet.Addr.{Addr}
use Rattle.sd_outside.specs.declared.packet.Packet.TheVariants.{Udp}
use Rattle.sd_xdr.specs.Kind.{whole, ended, Value}
use Rattle.sd_xdr.specs.Grammar.{Reads}
use Rattle.sd_rpc_msg.specs.declared.message.OpaqueAuth.{OpaqueAuth}
use Rattle.sd_rpc_msg.specs.declared.message.Call.{Call}
use Rattle.sd_rpc_msg.specs.declared.message.Message.TheVariants.{Asked}
use Rattle.sd_rpc_msg.specs.Layout.{message, message_value}
use Rattle.sd_rpc_msg.specs.Unix.{unix}
use Rattle.sd_nfs_msg.specs.declared.message.NfsArgs.{NfsArgs}
use Rattle.sd_nfs_msg.specs.declared.message.NfsArgs.TheVariants as asks
use Rattle.sd_nfs_msg.specs.Layout.{args_value, nfs_port}
use Rattle.sd_config.specs.declared.config.Config.{Config}
use Rattle.sd_services.specs.Part.{Change}
use Rattle.sd_services.specs.Files.{exported}
use Rattle.sd_services.specs.RpcCalls.{Program, asked}
use Rattle.sd_services.specs.NfsReply.{swap_file, names_swap, uses_swap}
use Rattle.sd_services.specs.NfsCalls.{nfs_to_ask, change_of, is_swap_access}

-- AUTH_NULL, or AUTH_UNIX with its credentials (RFC 1057, section 9.2)
abbrev pub IsKnown : OpaqueAuth → Type 0
IsKnown cred = (cred.flavor ≡ 0) ⊎ ((cred.flavor ≡ 1) × (v : Value) × Reads whole (ended unix) cred.body v)

-- The bytes spell a call of a procedure of this program and version, with known credentials, and its arguments spell this value.
pub record Asks (p : Program) (body : List ℕ) (v : Value) : Type 0 where
  pub call : Call
  pub reads : Reads whole message body (message_value (Asked call))
  pub known : IsKnown call.cred
  pub prog : call.prog ≡ p.prog
  pub vers : call.vers ≡ p.vers
  pub unskipped : IsFalse (p.skips call.proc_no)
  pub most : call.proc_no ≤ p.last
  pub args : Reads whole (p.args call.proc_no) call.args v

-- A call that isn't refused asks for what its bytes spell.
abbrev pub AskedIsSpelled : Type 0
AskedIsSpelled = (p : Program) (body : List ℕ) (v : Value) → IsBytes body → (asked p body ≡ Some v) ↔ Asks p body v

-- The datagram comes from the owner's address to the server's port of NFS. Its body is a call of WRITE, whose arguments are the handle
-- of the swap file, this place in it, and these bytes, of which there are some and which end within the file.
pub record Writes (c : Config) (src dst : Addr) (body : List ℕ) (change : Change) : Type 0 where
  pub owner : src.ip ≡ c.client.ip
  pub ip : dst.ip ≡ c.server.ip
  pub port : dst.port ≡ nfs_port
  pub at : FHandle
  pub begin : ℕ
  pub total : ℕ
  pub asks : Asks nfs_to_ask body (args_value (asks.Write at begin change.at total change.bytes))
  pub handle : IsTrue (names_swap (exported c) at)
  pub file : change.file ≡ swap_file
  pub size : ℕ
  pub line : option_map (λ line. line.size) c.swap ≡ Some size
  pub within : change.at + length change.bytes ≤ size
  pub some : 0 < length change.bytes

-- The change that a datagram asks for is the one that it writes. (A frame asks for none.)
abbrev pub ChangeIsWritten : Type 0
ChangeIsWritten = (c : Config) (src dst : Addr) (body : List ℕ) (change : Change) → IsBytes body → (change_of c (Udp src dst body) ≡ Some change) ↔ Writes c src dst body change

-- The datagram goes to the server's port of NFS, and its body is a call of READ (section 2.2.7) or WRITE with the handle of the swap
-- file.
pub record Accesses (c : Config) (dst : Addr) (body : List ℕ) : Type 0 where
  pub ip : dst.ip ≡ c.server.ip
  pub port : dst.port ≡ nfs_port
  pub args : NfsArgs
  pub asks : Asks nfs_to_ask body (args_value args)
  pub uses : IsTrue (uses_swap (exported c) args)

-- These are the READs and WRITEs of the swap file. (A frame is none.)
abbrev pub AccessIsSpelled : Type 0
AccessIsSpelled = (c : Config) (src dst : Addr) (body : List ℕ) → IsBytes body → (is_swap_access c (Udp src dst body) ≡ true) ↔ Accesses c dst body
