-- The calls that earlier packets held, by which replies are known.
use Rattle.std.specs.Prelude.{ℕ, Bool, ◌&&◌, ◌||◌, ◌==◌, List, [], ◌∷◌, ◌++◌, Option, Some, None, if◌then◌else◌}
use Rattle.sd_outside.specs.Bytes.{broadcast_ip}
use Rattle.sd_outside.specs.declared.packet.Addr.{Addr}
use Rattle.sd_rpc_msg.specs.declared.message.Call.{Call}
use Rattle.sd_rpc_msg.specs.declared.message.Message.{Message}
use Rattle.sd_rpc_msg.specs.declared.message.Message.TheVariants.{Asked, Answered}
use Rattle.sd_show.specs.declared.procedures.Procedure.{Procedure}
use Rattle.sd_show.specs.declared.calls.Heard.{Heard}

abbrev pub procedure_of : Call → Procedure
procedure_of c = record { prog = c.prog; vers = c.vers; proc_no = c.proc_no }

abbrev pub same_addr : Addr → Addr → Bool
same_addr a b = a.ip == b.ip && a.port == b.port

-- Whether a reply with this number, from the first address to the second, answers a call: that was sent the other way round, or to
-- all machines at the port from which the reply comes.
abbrev pub is_answered : ℕ → Addr → Addr → Heard → Bool
is_answered xid src dst call =
    call.xid == xid && same_addr call.src dst && (same_addr call.dst src || (call.dst.ip == broadcast_ip && call.dst.port == src.port))

abbrev pub or_else : Option Procedure → Option Procedure → Option Procedure
or_else (Some p) other = Some p
or_else None other = other

-- What the latest call that a reply answers asked for. The latest stands last.
abbrev pub answered : ℕ → Addr → Addr → List Heard → Option Procedure
answered xid src dst [] = None
answered xid src dst (call ∷ calls) = or_else (answered xid src dst calls) (if is_answered xid src dst call then Some call.procedure else None)

-- the calls with that of a message, if it is one
abbrev pub heard : List Heard → Addr → Addr → Message → List Heard
heard seen src dst (Asked c) = seen ++ (record { xid = c.xid; src = src; dst = dst; procedure = procedure_of c } ∷ [])
heard seen src dst (Answered r) = seen
