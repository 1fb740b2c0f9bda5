-- The kinds of RPC messages (RFC 1057, section 8), with the standard's names, and the value that each message is.
use Rattle.std.specs.Prelude.{ℕ, ◌≤◌, ◌==◌, if◌then◌else◌, length}
use Rattle.sd_xdr.specs.Kind.{any, between, rpcvers, auth_body, part, whole, Kind, void, word, opaque, ◌&◌, union, ended, rest, Value, none, number, bytes, ◌⊗◌}
use Rattle.sd_rpc_msg.specs.declared.message.OpaqueAuth.{OpaqueAuth}
use Rattle.sd_rpc_msg.specs.declared.message.Call.{Call}
use Rattle.sd_rpc_msg.specs.declared.message.Outcome.{Outcome}
use Rattle.sd_rpc_msg.specs.declared.message.Outcome.TheVariants.{Success, ProgUnavail, ProgMismatch, ProcUnavail, GarbageArgs, RpcMismatch, AuthError}
use Rattle.sd_rpc_msg.specs.declared.message.Message.{Message}
use Rattle.sd_rpc_msg.specs.declared.message.Message.TheVariants.{Asked, Answered}

-- ---- kinds

-- opaque_auth: flavor, body (RFC 1057, section 7.2)
abbrev pub auth : Kind part
auth = word any & opaque auth_body

-- call_body: rpcvers, prog, vers, proc, cred, verf; then the procedure's arguments
abbrev pub call : ℕ → Kind whole
call xid = word (rpcvers xid) & word any & word any & word any & auth & auth & rest

-- low, high
abbrev pub mismatch : Kind part
mismatch = word any & word any

-- by accept_stat: 0 SUCCESS with the results, 2 PROG_MISMATCH, and nothing behind 1 PROG_UNAVAIL, 3 PROC_UNAVAIL, 4 GARBAGE_ARGS
abbrev pub accept_arm : ℕ → Kind whole
accept_arm n = if n == 0 then rest else (if n == 2 then ended mismatch else ended void)

-- accepted_reply: verf, accept_stat
abbrev pub accepted : Kind whole
accepted = auth & union (between 0 4) accept_arm

-- by reject_stat: 0 RPC_MISMATCH, 1 AUTH_ERROR with an auth_stat
abbrev pub reject_arm : ℕ → Kind whole
reject_arm n = if n == 0 then ended mismatch else ended (word (between 1 5))

-- rejected_reply: reject_stat
abbrev pub denied : Kind whole
denied = union (between 0 1) reject_arm

-- by reply_stat: 0 MSG_ACCEPTED, 1 MSG_DENIED
abbrev pub reply_arm : ℕ → Kind whole
reply_arm n = if n == 0 then accepted else denied

-- reply_body: reply_stat
abbrev pub reply : Kind whole
reply = union (between 0 1) reply_arm

-- by msg_type: 0 CALL, 1 REPLY
abbrev pub message_arm : ℕ → ℕ → Kind whole
message_arm xid n = if n == 0 then call xid else reply

-- rpc_msg: xid, msg_type
abbrev pub message : Kind whole
message = union any (λ xid. union (between 0 1) (message_arm xid))

-- ---- values

abbrev pub auth_value : OpaqueAuth → Value
auth_value a = number a.flavor ⊗ bytes a.body

abbrev pub call_value : Call → Value
call_value c = number 2 ⊗ number c.prog ⊗ number c.vers ⊗ number c.proc_no ⊗ auth_value c.cred ⊗ auth_value c.verf ⊗ bytes c.args

abbrev pub outcome_value : Outcome → Value
outcome_value (Success verf results) = number 0 ⊗ auth_value verf ⊗ number 0 ⊗ bytes results
outcome_value (ProgUnavail verf) = number 0 ⊗ auth_value verf ⊗ number 1 ⊗ none
outcome_value (ProgMismatch verf low high) = number 0 ⊗ auth_value verf ⊗ number 2 ⊗ number low ⊗ number high
outcome_value (ProcUnavail verf) = number 0 ⊗ auth_value verf ⊗ number 3 ⊗ none
outcome_value (GarbageArgs verf) = number 0 ⊗ auth_value verf ⊗ number 4 ⊗ none
outcome_value (RpcMismatch low high) = number 1 ⊗ number 0 ⊗ number low ⊗ number high
outcome_value (AuthError stat) = number 1 ⊗ number 1 ⊗ number stat

abbrev pub message_value : Message → Value
message_value (Asked c) = number c.xid ⊗ number 0 ⊗ call_value c
message_value (Answered r) = number r.xid ⊗ number 1 ⊗ outcome_value r.outcome

-- ---- what has room

abbrev pub AuthFits : OpaqueAuth → Type 0
AuthFits a = length a.body ≤ 400

abbrev pub OutcomeFits : Outcome → Type 0
OutcomeFits (Success verf results) = AuthFits verf
OutcomeFits (ProgUnavail verf) = AuthFits verf
OutcomeFits (ProgMismatch verf low high) = AuthFits verf
OutcomeFits (ProcUnavail verf) = AuthFits verf
OutcomeFits (GarbageArgs verf) = AuthFits verf
OutcomeFits (RpcMismatch low high) = Unit {0}
OutcomeFits (AuthError stat) = Unit {0}

abbrev pub MessageFits : Message → Type 0
MessageFits (Asked c) = AuthFits c.cred × AuthFits c.verf
MessageFits (Answered r) = OutcomeFits r.outcome
