-- Credentials have room in a call.
use Rattle.std.proofs.Common.{◌≡◌, ℕ, ◌+◌, ◌<◌, ◌≤◌, Bool, true, false, cond, List, [], ◌++◌, length, refl, ◌∙◌, arith, length-append}
use Rattle.sd_outside.specs.declared.packet.Addr.{Addr}
use Rattle.sd_xdr.specs.Kind.{filling}
use Rattle.sd_xdr.specs.Grammar.{word_bytes, counted}
use Rattle.sd_xdr.proofs.Spelled.{length-counted}
use Rattle.sd_rpc_msg.specs.declared.message.Call.{Call}
use Rattle.sd_rpc_msg.specs.declared.message.Message.TheVariants.{Asked}
use Rattle.sd_rpc_msg.specs.declared.unix.UnixCred.{UnixCred}
use Rattle.sd_rpc_msg.specs.Unix.{unix, unix_value}
use Rattle.sd_rpc_msg.specs.Layout.{AuthFits, MessageFits}
use Rattle.sd_xdr.specs.Grammar.{writes}
use Rattle.sd_bootparams.specs.declared.message.BpArgs.{BpArgs}
use Rattle.sd_bootparams.specs.declared.message.BpArgs.TheVariants as bp
use Rattle.sd_rpc_retry.specs.declared.calling.Ask.{Ask}
use Rattle.sd_rpc_retry.specs.declared.calling.Ask.TheVariants as ask
use Rattle.sd_rpc_retry.specs.Calling.{user_of, unix_body, auth_unix, is_relayed, bootparams_call, call_for}

length-word : (n : ℕ) → length (word_bytes n) ≡ 4
unfolding word_bytes
length-word n = refl

few : (n : ℕ) → filling n ≤ 3
few n = omega arith

pub body_short : (machine : List ℕ) → length machine ≤ 255 → length (unix_body machine) ≤ 400
unfolding unix_body
body_short machine small =
    let a = length-append (word_bytes 0) (counted machine ++ (word_bytes 0 ++ (word_bytes 0 ++ (word_bytes 0 ++ [])))) in
    let b = length-append (counted machine) (word_bytes 0 ++ (word_bytes 0 ++ (word_bytes 0 ++ []))) in
    let c = length-append (word_bytes 0) (word_bytes 0 ++ (word_bytes 0 ++ [])) in
    let d = length-append (word_bytes 0) (word_bytes 0 ++ []) in
    let e = length-append (word_bytes 0) [] in
    omega (arith, a, b, c, d, e, length-word 0, length-counted machine, few (length machine), small)

pub cred_fits : (machine : List ℕ) → length machine ≤ 255 → AuthFits (auth_unix machine)
cred_fits machine small = body_short machine small

-- a call for anything has room
pub call_fits : (machine : List ℕ) → length machine ≤ 255 → (xid : ℕ) (dst : Addr) (what : Ask) → MessageFits (Asked (call_for machine xid dst what))
call_fits machine small xid dst (ask.Getport prog vers) = (omega arith, omega arith)
call_fits machine small xid dst (ask.Whoami ip) = of (is_relayed dst) (bp.Whoami ip)
  where
    of : (b : Bool) (args : BpArgs) → MessageFits (Asked (bootparams_call xid b args))
    of true args = (omega arith, omega arith)
    of false args = (omega arith, omega arith)
call_fits machine small xid dst (ask.Getfile client key) = of (is_relayed dst) (bp.Getfile client key)
  where
    of : (b : Bool) (args : BpArgs) → MessageFits (Asked (bootparams_call xid b args))
    of true args = (omega arith, omega arith)
    of false args = (omega arith, omega arith)
call_fits machine small xid dst (ask.Mnt path) = (body_short machine small, omega arith)
call_fits machine small xid dst (ask.Nfs args) = (body_short machine small, omega arith)
