-- The calls that are sent are messages, and are read again as they were.
use Rattle.std.proofs.Common.{◌≡◌, ℕ, ◌≤◌, Bool, true, false, List, length, Option, Some, None, refl, sym, ◌∙◌, ap, arith}
use Rattle.std.specs.Option.{option_map}
use Rattle.sd_outside.specs.declared.packet.Addr.{Addr}
use Rattle.sd_xdr.specs.Reading.{start, reading}
use Rattle.sd_xdr.specs.Grammar.{writes}
use Rattle.sd_rpc_msg.specs.declared.message.Call.{Call}
use Rattle.sd_rpc_msg.specs.declared.message.Outcome.{Outcome}
use Rattle.sd_rpc_msg.specs.declared.message.Reply.{Reply}
use Rattle.sd_rpc_msg.specs.declared.message.Message.TheVariants.{Asked}
use Rattle.sd_rpc_msg.specs.Layout.{message, message_value}
use Rattle.sd_rpc_msg.specs.Laws.{IsWord, IsAuth, IsMessage}
use Rattle.sd_nfs_msg.specs.declared.message.NfsArgs.{NfsArgs}
use Rattle.sd_nfs_msg.specs.declared.message.NfsArgs.TheVariants as asks
use Rattle.sd_nfs_msg.specs.Layout as nfs
use Rattle.sd_bootparams.specs.declared.message.BpArgs.{BpArgs}
use Rattle.sd_bootparams.specs.declared.message.BpArgs.TheVariants as bp
use Rattle.sd_bootparams.specs.Layout as bootparams
use Rattle.sd_services.specs.RpcCalls.{Program, auth_null, call_in, outcome_of, reply_with, reply_to_call, reply_to_read, reply_to}
use Rattle.sd_rpc_retry.specs.declared.calling.Ask.{Ask}
use Rattle.sd_rpc_retry.specs.declared.calling.Ask.TheVariants as ask
use Rattle.sd_rpc_retry.specs.Calling.{auth_unix, is_relayed, bootparams_call, call_for}
use Rattle.sd_rpc_retry.proofs.ShortCred.{body_short}
use Rattle.sd_loader.specs.Fresh.{xid_asked}
use Rattle.sd_loader.proofs.Lists.{some_same}
use Rattle.sd_loader.proofs.Again.{message_again}

null_is : IsAuth auth_null
null_is = (omega arith, omega arith)

unix_is : (machine : List ℕ) → length machine ≤ 255 → IsAuth (auth_unix machine)
unix_is machine small = (omega arith, body_short machine small)

proc_small : (args : NfsArgs) → IsWord (nfs.proc_of args)
proc_small asks.Null = omega arith
proc_small (asks.Getattr file) = omega arith
proc_small (asks.Setattr file set) = omega arith
proc_small (asks.Lookup dir text) = omega arith
proc_small (asks.Readlink file) = omega arith
proc_small (asks.Read file offset count total) = omega arith
proc_small (asks.Write file begin offset total body) = omega arith
proc_small (asks.Create dir text set) = omega arith
proc_small (asks.Remove dir text) = omega arith
proc_small (asks.Rename dir text to_dir to_text) = omega arith
proc_small (asks.Link from to_dir to_text) = omega arith
proc_small (asks.Symlink dir text target set) = omega arith
proc_small (asks.Mkdir dir text set) = omega arith
proc_small (asks.Rmdir dir text) = omega arith
proc_small (asks.Readdir dir mark count) = omega arith
proc_small (asks.Statfs file) = omega arith

bp_small : (args : BpArgs) → IsWord (bootparams.proc_of args)
bp_small bp.Null = omega arith
bp_small (bp.Whoami ip) = omega arith
bp_small (bp.Getfile client key) = omega arith

relayed_is : (b : Bool) (xid : ℕ) → IsWord xid → (args : BpArgs) → IsMessage (Asked (bootparams_call xid b args))
relayed_is true xid word args = (word, omega arith, omega arith, omega arith, null_is, null_is)
relayed_is false xid word args = (word, omega arith, omega arith, bp_small args, null_is, null_is)

pub call_is : (machine : List ℕ) → length machine ≤ 255 → (xid : ℕ) → IsWord xid → (dst : Addr) (what : Ask) → IsMessage (Asked (call_for machine xid dst what))
call_is machine small xid word dst (ask.Getport prog vers) = (word, omega arith, omega arith, omega arith, null_is, null_is)
call_is machine small xid word dst (ask.Whoami ip) = relayed_is (is_relayed dst) xid word (bp.Whoami ip)
call_is machine small xid word dst (ask.Getfile client key) = relayed_is (is_relayed dst) xid word (bp.Getfile client key)
call_is machine small xid word dst (ask.Mnt path) = (word, omega arith, omega arith, omega arith, unix_is machine small, null_is)
call_is machine small xid word dst (ask.Nfs args) = (word, omega arith, omega arith, proc_small args, unix_is machine small, null_is)

-- the xid of a call for anything is the one that it was given
pub call_xid : (machine : List ℕ) (xid : ℕ) (dst : Addr) (what : Ask) → (call_for machine xid dst what).xid ≡ xid
call_xid machine xid dst (ask.Getport prog vers) = refl
call_xid machine xid dst (ask.Whoami ip) = of (is_relayed dst) (bp.Whoami ip)
  where
    of : (b : Bool) (args : BpArgs) → (bootparams_call xid b args).xid ≡ xid
    of true args = refl
    of false args = refl
call_xid machine xid dst (ask.Getfile client key) = of (is_relayed dst) (bp.Getfile client key)
  where
    of : (b : Bool) (args : BpArgs) → (bootparams_call xid b args).xid ≡ xid
    of true args = refl
    of false args = refl
call_xid machine xid dst (ask.Mnt path) = refl
call_xid machine xid dst (ask.Nfs args) = refl

abbrev pub sent_body : Call → List ℕ
sent_body call = writes message (message_value (Asked call))

-- a call that was written asks with its xid
pub asks_own : (call : Call) → IsMessage (Asked call) → xid_asked (reading message (start (sent_body call))) ≡ Some call.xid
asks_own call is = ap xid_asked (message_again (Asked call) is)

-- the reply to a call that was written
pub record Outcomes (p : Program) (call : Call) (reply : Reply) : Type 0 where
  pub outcome : Outcome
  pub given : outcome_of p call ≡ Some outcome
  pub same : reply ≡ reply_with call.xid outcome

outcomes_by : (p : Program) (call : Call) (o : Option Outcome) (reply : Reply) → outcome_of p call ≡ o → option_map (reply_with call.xid) o ≡ Some reply → Outcomes p call reply
outcomes_by p call None reply is e = absurd cc
outcomes_by p call (Some o) reply is e = record { outcome = o; given = is; same = sym (some_same (reply_with call.xid o) reply e) }

pub reply_is : (p : Program) (call : Call) (reply : Reply) → IsMessage (Asked call) → reply_to p (sent_body call) ≡ Some reply → Outcomes p call reply
reply_is p call reply is e =
    let read : reply_to_call p (call_in (message_value (Asked call))) ≡ Some reply = sym (ap (reply_to_read p) (message_again (Asked call) is)) ∙ e in
    outcomes_by p call (outcome_of p call) reply refl read
