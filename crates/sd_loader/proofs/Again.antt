-- What was written is read: messages, arguments and results, as the server's and the client's definitions read them.
use Rattle.std.proofs.Common.{◌≡◌, ℕ, ◌+◌, List, [], length, Some, Ok, refl, ap}
use Rattle.sd_xdr.specs.Kind.{whole, Kind, Value}
use Rattle.sd_xdr.specs.Grammar.{Reads, writes}
use Rattle.sd_xdr.specs.Reading.{Cursor, start, reading}
use Rattle.sd_xdr.proofs.Whole.{whole_again}
use Rattle.sd_xdr.proofs.Again.{from}
use Rattle.sd_rpc_msg.specs.declared.message.Message.{Message}
use Rattle.sd_rpc_msg.specs.Layout.{message, message_value}
use Rattle.sd_rpc_msg.specs.Laws.{IsMessage}
use Rattle.sd_rpc_msg.proofs.Told.{written_is_read_again}
use Rattle.sd_nfs_msg.specs.declared.message.NfsArgs.{NfsArgs}
use Rattle.sd_nfs_msg.specs.declared.message.NfsResult.{NfsResult}
use Rattle.sd_nfs_msg.specs.Layout.{args_kind, args_value, args_bytes, proc_of, result_kind, result_value, result_bytes, IsResultOf}
use Rattle.sd_nfs_msg.specs.Laws.{AreArgs, IsResult}
use Rattle.sd_nfs_msg.proofs.Read.{args_written_are_read_of, result_written_is_read_of}
use Rattle.sd_services.specs.RpcCalls.{spelled, value_read}

-- where the reading of a message ends
abbrev pub end_of : Message → Cursor
end_of m = from (0 + length (writes message (message_value m))) []

pub message_again : (m : Message) → IsMessage m → reading message (start (writes message (message_value m))) ≡ Ok (message_value m, end_of m)
message_again m is = whole_again message (writes message (message_value m)) (message_value m) ((written_is_read_again m m is).1 refl)

pub spelled_again : (K : Kind whole) (bs : List ℕ) (x : Value) → Reads whole K bs x → spelled K bs ≡ Some x
spelled_again K bs x reads = ap value_read (whole_again K bs x reads)

pub message_spelled : (m : Message) → IsMessage m → spelled message (writes message (message_value m)) ≡ Some (message_value m)
message_spelled m is = spelled_again message (writes message (message_value m)) (message_value m) ((written_is_read_again m m is).1 refl)

pub args_again : (a : NfsArgs) → AreArgs a → spelled (args_kind (proc_of a)) (args_bytes a) ≡ Some (args_value a)
args_again a are = spelled_again (args_kind (proc_of a)) (args_bytes a) (args_value a) ((args_written_are_read_of a a are).1 refl)

pub result_again : (proc_no : ℕ) (r : NfsResult) → IsResult r → IsResultOf proc_no r → spelled (result_kind proc_no) (result_bytes r) ≡ Some (result_value r)
result_again proc_no r is of = spelled_again (result_kind proc_no) (result_bytes r) (result_value r) ((result_written_is_read_of proc_no r r is of).1 refl)
