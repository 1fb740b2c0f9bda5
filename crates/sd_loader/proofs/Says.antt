-- What the server says to MNT and to a call of NFS, at whichever of its programs' ports.
use Rattle.std.proofs.Common.{◌≡◌, ℕ, ◌≤◌, Bool, true, false, cond, List, length, Option, Some, None, Result, Ok, Err, refl, sym, ◌∙◌, ap, subst, arith}
use Rattle.std.specs.Prelude.{◌==◌}
use Rattle.std.specs.Option.{option_map}
use Rattle.sd_outside.specs.declared.fhandle.FHandle.{FHandle}
use Rattle.sd_outside.specs.declared.packet.Addr.{Addr}
use Rattle.sd_xdr.specs.Kind.{Value, ended}
use Rattle.sd_xdr.specs.Grammar.{writes}
use Rattle.sd_rpc_msg.specs.declared.message.Call.{Call}
use Rattle.sd_rpc_msg.specs.declared.message.Outcome.{Outcome}
use Rattle.sd_rpc_msg.specs.declared.message.Outcome.TheVariants.{Success, ProgUnavail, AuthError}
use Rattle.sd_rpc_msg.specs.Layout.{outcome_value}
use Rattle.sd_rpc_msg.specs.Unix.{unix, unix_value}
use Rattle.sd_rpc_msg.specs.Laws.{IsUnix}
use Rattle.sd_rpc_msg.proofs.ToldUnix.{written_is_read_again}
use Rattle.sd_mount.specs.declared.message.MountArgs.TheVariants as mnt
use Rattle.sd_mount.specs.declared.message.MountResult.TheVariants as mounts
use Rattle.sd_mount.specs.Layout as mount
use Rattle.sd_mount.specs.Laws as mount_laws
use Rattle.sd_mount.specs.Tables.{mnt_of}
use Rattle.sd_mount.proofs.Read.{args_written_are_read_of as mnt_args_read, result_written_is_read_of as mnt_result_read}
use Rattle.sd_nfs_msg.specs.declared.message.NfsArgs.{NfsArgs}
use Rattle.sd_nfs_msg.specs.declared.message.NfsResult.{NfsResult}
use Rattle.sd_nfs_msg.specs.declared.message.NfsResult.TheVariants as results
use Rattle.sd_nfs_msg.specs.Layout as nfs
use Rattle.sd_nfs_msg.specs.Laws as nfs_laws
use Rattle.sd_config.specs.declared.config.Config.{Config}
use Rattle.sd_services.specs.Part.{ServerPart}
use Rattle.sd_services.specs.Failing.{nfs_failing}
use Rattle.sd_services.specs.Decisions.{err_io}
use Rattle.sd_services.specs.Files.{exported}
use Rattle.sd_services.specs.NfsReply.{nfs_reply}
use Rattle.sd_services.specs.RpcCalls.{Program, spelled, is_none, auth_null, refusal, answered, unless_refused, accepted, auth_refusal, outcome_of}
use Rattle.sd_portmap.specs.Layout.{pmap_port}
use Rattle.sd_services.specs.RpcReply.{bootparams_port, portmapper, bootparams, program_at}
use Rattle.sd_services.specs.MountReply.{mount_port, exports_of, given, mount as mount_program}
use Rattle.sd_services.specs.NfsCalls.{nfs_args_in, nfs_giving, nfs as nfs_program}
use Rattle.sd_rpc_retry.specs.declared.calling.Ask.{Ask}
use Rattle.sd_rpc_retry.specs.declared.calling.Ask.TheVariants as ask
use Rattle.sd_rpc_retry.specs.declared.calling.Answer.{Answer}
use Rattle.sd_rpc_retry.specs.declared.calling.Answer.TheVariants as answer
use Rattle.sd_rpc_retry.specs.Calling.{Verdict, user_of, unix_body, auth_unix, mount_call, nfs_call, given_in, nfs_answer, nfs_answer_in, answer_in, reply_says, verdict_of}
use Rattle.sd_rpc_retry.specs.Matches.{mnt_answer}
use Rattle.sd_nfs_msg.proofs.Read.{args_written_are_read_of as nfs_args_read}
use Rattle.sd_rpc_retry.proofs.NfsShapes.{result_again, given_again}
use Rattle.sd_loader.proofs.Lists.{some_same}
use Rattle.sd_loader.proofs.Again.{spelled_again, result_again as nfs_again}

-- ---- the credentials are let in

user_is : (machine : List ℕ) → length machine ≤ 255 → IsUnix (user_of machine)
user_is machine small = (omega arith, small, omega arith, omega arith, omega arith, λ i d lt. absurd (omega arith))

pub let_in : (machine : List ℕ) → length machine ≤ 255 → auth_refusal (auth_unix machine) ≡ None
unfolding unix_body
let_in machine small =
    ap (λ (o : Option Value). cond (is_none o) (Some (AuthError 1)) None)
    (spelled_again (ended unix) (writes unix (unix_value (user_of machine))) (unix_value (user_of machine)) ((written_is_read_again (user_of machine) (user_of machine) (user_is machine small)).1 refl))

-- ---- another program refuses, and this one answers

-- what comes of a call that is let in
comes : (p : Program) (call : Call) (o : Outcome) → auth_refusal call.cred ≡ None → outcome_of p call ≡ Some o → accepted p call.prog call.vers call.proc_no call.args ≡ Some o
comes p call o auth e = sym (ap (λ (r : Option Outcome). unless_refused r (accepted p call.prog call.vers call.proc_no call.args)) auth) ∙ e

-- a program that isn't there gives no answer
elsewhere : (p : Program) (call : Call) (o : Outcome) (what : Ask) (dst : Addr) (from : ℕ) (a : Answer) → auth_refusal call.cred ≡ None → accepted p call.prog call.vers call.proc_no call.args ≡ Some (ProgUnavail auth_null)
    → outcome_of p call ≡ Some o → verdict_of what dst from (reply_says (outcome_value o)) ≡ Some (Ok a) → ⊥
elsewhere p call o what dst from a auth unavailable e v =
    let is : o ≡ ProgUnavail auth_null = some_same o (ProgUnavail auth_null) (sym (comes p call o auth e) ∙ unavailable) in
    refused_not (some_same {A = Verdict} (Err 1) (Ok a) (subst (λ (u : Outcome). verdict_of what dst from (reply_says (outcome_value u)) ≡ Some (Ok a)) is v))
  where
    refused_not : ◌≡◌ {A = Verdict} (Err 1) (Ok a) → ⊥
    refused_not h = absurd cc

-- a call that passes is answered by what the program gives
passes : (p : Program) (call : Call) (o : Outcome) (args : Value) (bytes : List ℕ) → auth_refusal call.cred ≡ None → refusal p call.prog call.vers call.proc_no ≡ None
    → spelled (p.args call.proc_no) call.args ≡ Some args → p.gives args ≡ Some bytes → outcome_of p call ≡ Some o → o ≡ Success auth_null bytes
passes p call o args bytes auth passed read gives e =
    some_same o (Success auth_null bytes)
    (sym (comes p call o auth e)
    ∙ ap (λ (r : Option Outcome). unless_refused r (answered p (spelled (p.args call.proc_no) call.args))) passed
    ∙ ap (answered p) read
    ∙ ap (option_map (Success auth_null)) gives)

told_ok : (what : Ask) (dst : Addr) (from : ℕ) (bytes : List ℕ) (told a : Answer) → answer_in what dst from bytes ≡ Some told → verdict_of what dst from (reply_says (outcome_value (Success auth_null bytes))) ≡ Some (Ok a) → a ≡ told
told_ok what dst from bytes told a is v = ok_same (some_same {A = Verdict} (Ok told) (Ok a) (sym (ap (option_map Ok) is) ∙ v))
  where
    ok_same : ◌≡◌ {A = Verdict} (Ok told) (Ok a) → a ≡ told
    ok_same h = cc

-- ---- MNT

abbrev pub mnt_told : Result FHandle ℕ → Answer
mnt_told (Ok file) = answer.Given file
mnt_told (Err status) = answer.Refused status

mnt_spelled : (path : List ℕ) → length path ≤ 1024 → spelled (mount.args_kind 1) (mount.args_bytes (mnt.Mnt path)) ≡ Some (mount.args_value (mnt.Mnt path))
mnt_spelled path few = spelled_again (mount.args_kind 1) (mount.args_bytes (mnt.Mnt path)) (mount.args_value (mnt.Mnt path)) ((mnt_args_read (mnt.Mnt path) (mnt.Mnt path) few).1 refl)

-- a handle or a refusal is told as it was given
mnt_again : (r : Result FHandle ℕ) → mount_laws.IsResult (given r) → mount.IsResultOf 1 (given r) → ((status : ℕ) → given r ≡ mounts.Refused status → status ≡ 0 → ⊥) → option_map given_in (spelled (mount.result_kind 1) (mount.result_bytes (given r))) ≡ Some (mnt_told r)
mnt_again r is of some =
    ap (option_map given_in) (spelled_again (mount.result_kind 1) (mount.result_bytes (given r)) (mount.result_value (given r)) ((mnt_result_read 1 (given r) (given r) is of).1 refl))
    ∙ ap Some (given_again (given r) (mnt_told r) some (by r))
  where
    by : (r : Result FHandle ℕ) → mnt_answer (given r) ≡ Some (mnt_told r)
    by (Ok file) = refl
    by (Err status) = refl

-- MNT is answered by the exports.
pub mnt_says : (c : Config) (part : ServerPart) (from port : ℕ) (machine : List ℕ) (xid : ℕ) (dst : Addr) (at : ℕ) (path : List ℕ) (o : Outcome) (a : Answer)
    → length machine ≤ 255 → length path ≤ 1024
    → mount_laws.IsResult (given (mnt_of (exports_of c) from path)) → mount.IsResultOf 1 (given (mnt_of (exports_of c) from path)) → ((status : ℕ) → given (mnt_of (exports_of c) from path) ≡ mounts.Refused status → status ≡ 0 → ⊥)
    → outcome_of (program_at c part from port) (mount_call machine xid (mnt.Mnt path)) ≡ Some o
    → verdict_of (ask.Mnt path) dst at (reply_says (outcome_value o)) ≡ Some (Ok a) → a ≡ mnt_told (mnt_of (exports_of c) from path)
mnt_says c part from port machine xid dst at path o a small few is is_of some e v = of (port == pmap_port) (port == bootparams_port) (port == mount_port) e
  where
    here : outcome_of (mount_program c part.mounts from) (mount_call machine xid (mnt.Mnt path)) ≡ Some o → a ≡ mnt_told (mnt_of (exports_of c) from path)
    here given_by =
        let bytes = mount.result_bytes (given (mnt_of (exports_of c) from path)) in
        let success = passes (mount_program c part.mounts from) (mount_call machine xid (mnt.Mnt path)) o (mount.args_value (mnt.Mnt path)) bytes (let_in machine small) refl (mnt_spelled path few) refl given_by in
        told_ok (ask.Mnt path) dst at bytes (mnt_told (mnt_of (exports_of c) from path)) a (mnt_again (mnt_of (exports_of c) from path) is is_of some)
        (subst (λ (u : Outcome). verdict_of (ask.Mnt path) dst at (reply_says (outcome_value u)) ≡ Some (Ok a)) success v)

    of : (x y z : Bool) → outcome_of (cond x (portmapper c) (cond y (bootparams c) (cond z (mount_program c part.mounts from) (nfs_program c part.files from)))) (mount_call machine xid (mnt.Mnt path)) ≡ Some o
        → a ≡ mnt_told (mnt_of (exports_of c) from path)
    of true y z h = absurd (elsewhere (portmapper c) (mount_call machine xid (mnt.Mnt path)) o (ask.Mnt path) dst at a (let_in machine small) refl h v)
    of false true z h = absurd (elsewhere (bootparams c) (mount_call machine xid (mnt.Mnt path)) o (ask.Mnt path) dst at a (let_in machine small) refl h v)
    of false false true h = here h
    of false false false h = absurd (elsewhere (nfs_program c part.files from) (mount_call machine xid (mnt.Mnt path)) o (ask.Mnt path) dst at a (let_in machine small) refl h v)

-- ---- NFS

-- a call of NFS has a procedure, and its arguments are those that were written
pub record IsAsked (args : NfsArgs) : Type 0 where
  pub are : nfs_laws.AreArgs args
  pub passed : (gives : Value → Option (List ℕ)) → refusal (nfs_giving gives) 100003 2 (nfs.proc_of args) ≡ None
  pub again : nfs_args_in (nfs.args_value args) ≡ args

nfs_told_again : (n : ℕ) (r : NfsResult) → nfs_laws.IsResult r → nfs.IsResultOf n r → option_map (nfs_answer_in n) (spelled (nfs.result_kind n) (nfs.result_bytes r)) ≡ Some (nfs_answer r)
nfs_told_again n r is of =
    ap (option_map (nfs_answer_in n)) (nfs_again n r is of)
    ∙ ap (λ (x : NfsResult). Some (nfs_answer x)) (result_again n r of (λ status e. (subst nfs_laws.IsResult e is).1))

-- A call of NFS is answered by what stands at the server, where that has a spelling.
pub nfs_says : (c : Config) (part : ServerPart) (from port : ℕ) (machine : List ℕ) (xid : ℕ) (dst : Addr) (at : ℕ) (args : NfsArgs) (o : Outcome) (a : Answer)
    → length machine ≤ 255 → IsAsked args → nfs_laws.IsResult (nfs_reply (exported c) part.files from args) → nfs.IsResultOf (nfs.proc_of args) (nfs_reply (exported c) part.files from args)
    → outcome_of (program_at c part from port) (nfs_call machine xid args) ≡ Some o
    → verdict_of (ask.Nfs args) dst at (reply_says (outcome_value o)) ≡ Some (Ok a) → a ≡ nfs_answer (nfs_reply (exported c) part.files from args)
nfs_says c part from port machine xid dst at args o a small asked is is_of e v = of (port == pmap_port) (port == bootparams_port) (port == mount_port) e
  where
    here : outcome_of (nfs_program c part.files from) (nfs_call machine xid args) ≡ Some o → a ≡ nfs_answer (nfs_reply (exported c) part.files from args)
    here given_by =
        let r = nfs_reply (exported c) part.files from args in
        let bytes = nfs.result_bytes r in
        let read = spelled_again (nfs.args_kind (nfs.proc_of args)) (nfs.args_bytes args) (nfs.args_value args) ((nfs_args_read args args asked.are).1 refl) in
        let success = passes (nfs_program c part.files from) (nfs_call machine xid args) o (nfs.args_value args) bytes (let_in machine small) (asked.passed (λ u. Some (nfs.result_bytes (nfs_reply (exported c) part.files from (nfs_args_in u))))) read
        (ap (λ (x : NfsArgs). Some (nfs.result_bytes (nfs_reply (exported c) part.files from x))) asked.again) given_by in
        told_ok (ask.Nfs args) dst at bytes (nfs_answer r) a (nfs_told_again (nfs.proc_of args) r is is_of)
        (subst (λ (u : Outcome). verdict_of (ask.Nfs args) dst at (reply_says (outcome_value u)) ≡ Some (Ok a)) success v)

    of : (x y z : Bool) → outcome_of (cond x (portmapper c) (cond y (bootparams c) (cond z (mount_program c part.mounts from) (nfs_program c part.files from)))) (nfs_call machine xid args) ≡ Some o
        → a ≡ nfs_answer (nfs_reply (exported c) part.files from args)
    of true y z h = absurd (elsewhere (portmapper c) (nfs_call machine xid args) o (ask.Nfs args) dst at a (let_in machine small) refl h v)
    of false true z h = absurd (elsewhere (bootparams c) (nfs_call machine xid args) o (ask.Nfs args) dst at a (let_in machine small) refl h v)
    of false false true h = absurd (elsewhere (mount_program c part.mounts from) (nfs_call machine xid args) o (ask.Nfs args) dst at a (let_in machine small) refl h v)
    of false false false h = here h

-- ---- a failing disk

failing_result : NfsResult
failing_result = results.Refused err_io

-- NFS whose disk fails mounts nothing
pub never_mounts : (machine : List ℕ) (xid : ℕ) (dst : Addr) (at : ℕ) (path : List ℕ) (o : Outcome) (a : Answer) → length machine ≤ 255 → outcome_of nfs_failing (mount_call machine xid (mnt.Mnt path)) ≡ Some o
    → verdict_of (ask.Mnt path) dst at (reply_says (outcome_value o)) ≡ Some (Ok a) → ⊥
never_mounts machine xid dst at path o a small e v = elsewhere nfs_failing (mount_call machine xid (mnt.Mnt path)) o (ask.Mnt path) dst at a (let_in machine small) refl e v

-- and refuses each call
pub always_refuses : (machine : List ℕ) (xid : ℕ) (dst : Addr) (at : ℕ) (args : NfsArgs) (o : Outcome) (a : Answer) → length machine ≤ 255 → IsAsked args → (nfs.proc_of args ≡ 0 → ⊥)
    → outcome_of nfs_failing (nfs_call machine xid args) ≡ Some o → verdict_of (ask.Nfs args) dst at (reply_says (outcome_value o)) ≡ Some (Ok a) → a ≡ answer.Refused err_io
unfolding failing_result
always_refuses machine xid dst at args o a small asked some e v =
    let r = failing_result in
    let bytes = nfs.result_bytes r in
    let read = spelled_again (nfs.args_kind (nfs.proc_of args)) (nfs.args_bytes args) (nfs.args_value args) ((nfs_args_read args args asked.are).1 refl) in
    let success = passes nfs_failing (nfs_call machine xid args) o (nfs.args_value args) bytes (let_in machine small) (asked.passed (λ u. Some bytes)) read refl e in
    told_ok (ask.Nfs args) dst at bytes (nfs_answer r) a (nfs_told_again (nfs.proc_of args) r (omega arith, λ z. absurd (omega (arith, z))) some)
    (subst (λ (u : Outcome). verdict_of (ask.Nfs args) dst at (reply_says (outcome_value u)) ≡ Some (Ok a)) success v)
