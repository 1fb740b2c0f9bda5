-- What the readers of messages answer is what the bytes spell.
use Rattle.std.proofs.Common.{◌≡◌, ℕ, ◌^◌, ◌<◌, not, List, Option, Some, None, Result, Ok, Err, refl, sym, ap, ◌∙◌, subst, arith}
use Rattle.std.specs.Prelude.{IfOk, IfSome}
use Rattle.std.specs.Option.{option_map, is_some}
use Rattle.sd_mount.specs.declared.message.MountArgs.{MountArgs}
use Rattle.sd_mount.specs.declared.message.MountArgs.TheVariants as mount_asks
use Rattle.sd_mount.specs.Layout as mounting
use Rattle.sd_nfs_msg.specs.declared.message.NfsArgs.{NfsArgs}
use Rattle.sd_nfs_msg.specs.declared.message.NfsArgs.TheVariants as nfs_asks
use Rattle.sd_nfs_msg.specs.Layout as nfs_layout
use Rattle.sd_services.specs.MountReply.{mount_args_in}
use Rattle.sd_services.specs.NfsCalls.{nfs_args_in}
use Rattle.sd_xdr.specs.declared.error.MsgError.{MsgError}
use Rattle.sd_xdr.specs.declared.error.MsgError.TheVariants.{Xdr, RpcVersion, AuthLong, NoMemory}
use Rattle.sd_xdr.specs.Kind.{whole, Kind, ended, Value}
use Rattle.sd_xdr.specs.Grammar.{Answers}
use Rattle.sd_xdr.proofs.Whole.{whole_again}
use Rattle.sd_xdr.proofs.Again.{refuses_again}
use Rattle.sd_rpc_msg.specs.declared.message.Outcome.{Outcome}
use Rattle.sd_rpc_msg.specs.declared.message.Reply.{Reply}
use Rattle.sd_rpc_msg.specs.declared.message.Message.{Message}
use Rattle.sd_rpc_msg.specs.declared.message.Message.TheVariants.{Asked, Answered}
use Rattle.sd_rpc_msg.specs.declared.unix.UnixCred.{UnixCred}
use Rattle.sd_rpc_msg.specs.Unix.{unix, unix_value}
use Rattle.sd_rpc_msg.specs.Layout.{message, message_value}
use Rattle.sd_portmap.specs.declared.message.PmapArgs.{PmapArgs}
use Rattle.sd_portmap.specs.declared.message.PmapArgs.TheVariants as pmap
use Rattle.sd_portmap.specs.Layout as portmap
use Rattle.sd_bootparams.specs.declared.message.BpArgs.{BpArgs}
use Rattle.sd_bootparams.specs.declared.message.BpArgs.TheVariants as bp
use Rattle.sd_bootparams.specs.Layout as bootparam
use Rattle.sd_bootparams.specs.Laws.{AreArgs}
use Rattle.sd_bootparams.proofs.Read.{read_are_args_of}
use Rattle.sd_config.specs.declared.config.Config.{Config}
use Rattle.sd_services.specs.RpcCalls.{value_read, spelled, is_none, Program, refusal, unless_refused, answered, accepted, reply_to_read, reply_to}
use Rattle.sd_services.specs.RpcReply.{address_in, bp_args_in, pmap_args_in, bootparams, portmapper}
use Rattle.sd_server.specs.Services.{IsKnown, bp_found, pmap_found}
use Rattle.sd_server.specs.Coming.{Arrival, arrival, arrives_read, ComesRead}

-- what was read, as a value
pub known_says : {X : Type 0} (K : Kind whole) (view : X → Value) (bs : List ℕ) (read : Result X MsgError) (known : Option X) → Answers K view bs read → IsKnown read known → option_map view known ≡ spelled K bs
known_says K view bs (Ok x) known h is = ap (option_map view) is ∙ sym (ap value_read (whole_again K bs (view x) h))
known_says K view bs (Err (Xdr why)) known h is = ap (option_map view) is ∙ sym (ap value_read (refuses_again whole K 0 bs (Xdr why) h))
known_says K view bs (Err (RpcVersion xid got)) known h is = ap (option_map view) is ∙ sym (ap value_read (refuses_again whole K 0 bs (RpcVersion xid got) h))
known_says K view bs (Err (AuthLong at len)) known h is = ap (option_map view) is ∙ sym (ap value_read (refuses_again whole K 0 bs (AuthLong at len) h))
known_says K view bs (Err NoMemory) known h is = absurd is

-- ---- arguments

address_is : (address : ℕ) → address < 2 ^ 32 → address_in (bootparam.ip_value address) ≡ address
address_is address small = omega (arith, small)

bp_back : (a : BpArgs) → AreArgs a → bp_args_in (bootparam.args_value a) ≡ a
bp_back bp.Null are = refl
bp_back (bp.Whoami address) are = ap bp.Whoami (address_is address are)
bp_back (bp.Getfile client key) are = refl

pub bp_known : (n : ℕ) (bs : List ℕ) (read : Result BpArgs MsgError) (known : Option BpArgs) → Answers (bootparam.args_kind n) bootparam.args_value bs read → IsKnown read known
    → known ≡ option_map bp_args_in (spelled (bootparam.args_kind n) bs)
bp_known n bs (Ok x) known h is =
    is ∙ ap Some (sym (bp_back x (read_are_args_of n x bs h).1))
    ∙ ap (option_map bp_args_in) (ap (option_map bootparam.args_value) (sym is) ∙ known_says (bootparam.args_kind n) bootparam.args_value bs (Ok x) known h is)
bp_known n bs (Err (Xdr why)) known h is = is ∙ ap (option_map bp_args_in) (ap (option_map bootparam.args_value) (sym is) ∙ known_says (bootparam.args_kind n) bootparam.args_value bs (Err (Xdr why)) known h is)
bp_known n bs (Err (RpcVersion xid got)) known h is = is ∙ ap (option_map bp_args_in) (ap (option_map bootparam.args_value) (sym is) ∙ known_says (bootparam.args_kind n) bootparam.args_value bs (Err (RpcVersion xid got)) known h is)
bp_known n bs (Err (AuthLong at len)) known h is = is ∙ ap (option_map bp_args_in) (ap (option_map bootparam.args_value) (sym is) ∙ known_says (bootparam.args_kind n) bootparam.args_value bs (Err (AuthLong at len)) known h is)
bp_known n bs (Err NoMemory) known h is = absurd is

pmap_back : (a : PmapArgs) → pmap_args_in (portmap.args_value a) ≡ a
pmap_back pmap.Null = refl
pmap_back (pmap.Set m) = refl
pmap_back (pmap.Unset m) = refl
pmap_back (pmap.Getport m) = refl
pmap_back pmap.Dump = refl
pmap_back (pmap.Callit prog vers proc_no args) = refl

pub pmap_known : (n : ℕ) (bs : List ℕ) (read : Result PmapArgs MsgError) (known : Option PmapArgs) → Answers (portmap.args_kind n) portmap.args_value bs read → IsKnown read known
    → known ≡ option_map pmap_args_in (spelled (portmap.args_kind n) bs)
pmap_known n bs read known h is = of known ∙ ap (option_map pmap_args_in) (known_says (portmap.args_kind n) portmap.args_value bs read known h is)
  where
    of : (o : Option PmapArgs) → o ≡ option_map pmap_args_in (option_map portmap.args_value o)
    of None = refl
    of (Some a) = ap Some (sym (pmap_back a))

mount_back : (a : MountArgs) → mount_args_in (mounting.args_value a) ≡ a
mount_back mount_asks.Null = refl
mount_back (mount_asks.Mnt path) = refl
mount_back mount_asks.Dump = refl
mount_back (mount_asks.Umnt path) = refl
mount_back mount_asks.UmntAll = refl
mount_back mount_asks.Export = refl

pub mount_known : (n : ℕ) (bs : List ℕ) (read : Result MountArgs MsgError) (known : Option MountArgs) → Answers (mounting.args_kind n) mounting.args_value bs read → IsKnown read known
    → known ≡ option_map mount_args_in (spelled (mounting.args_kind n) bs)
mount_known n bs read known h is = of known ∙ ap (option_map mount_args_in) (known_says (mounting.args_kind n) mounting.args_value bs read known h is)
  where
    of : (o : Option MountArgs) → o ≡ option_map mount_args_in (option_map mounting.args_value o)
    of None = refl
    of (Some a) = ap Some (sym (mount_back a))

nfs_back : (a : NfsArgs) → nfs_args_in (nfs_layout.args_value a) ≡ a
nfs_back nfs_asks.Null = refl
nfs_back (nfs_asks.Getattr file) = refl
nfs_back (nfs_asks.Setattr file set) = refl
nfs_back (nfs_asks.Lookup at text) = refl
nfs_back (nfs_asks.Readlink file) = refl
nfs_back (nfs_asks.Read file offset count total) = refl
nfs_back (nfs_asks.Write file begin offset total body) = refl
nfs_back (nfs_asks.Create at text set) = refl
nfs_back (nfs_asks.Remove at text) = refl
nfs_back (nfs_asks.Rename at text to to_text) = refl
nfs_back (nfs_asks.Link file to to_text) = refl
nfs_back (nfs_asks.Symlink at text target set) = refl
nfs_back (nfs_asks.Mkdir at text set) = refl
nfs_back (nfs_asks.Rmdir at text) = refl
nfs_back (nfs_asks.Readdir at mark count) = refl
nfs_back (nfs_asks.Statfs file) = refl

pub nfs_known : (n : ℕ) (bs : List ℕ) (read : Result NfsArgs MsgError) (known : Option NfsArgs) → Answers (nfs_layout.args_kind n) nfs_layout.args_value bs read → IsKnown read known
    → known ≡ option_map nfs_args_in (spelled (nfs_layout.args_kind n) bs)
nfs_known n bs read known h is = of known ∙ ap (option_map nfs_args_in) (known_says (nfs_layout.args_kind n) nfs_layout.args_value bs read known h is)
  where
    of : (o : Option NfsArgs) → o ≡ option_map nfs_args_in (option_map nfs_layout.args_value o)
    of None = refl
    of (Some a) = ap Some (sym (nfs_back a))

-- what holds of what was read holds of what is known
pub known_fits : {X : Type 0} (P : X → Type 0) (read : Result X MsgError) (known : Option X) → IfOk read P → IsKnown read known → IfSome known P
known_fits P (Ok x) known h is = subst (λ (o : Option _). IfSome o P) (sym is) h
known_fits P (Err (Xdr why)) known h is = subst (λ (o : Option _). IfSome o P) (sym is) tt
known_fits P (Err (RpcVersion xid got)) known h is = subst (λ (o : Option _). IfSome o P) (sym is) tt
known_fits P (Err (AuthLong at len)) known h is = subst (λ (o : Option _). IfSome o P) (sym is) tt
known_fits P (Err NoMemory) known h is = absurd is

-- ---- calls

pub bp_answered_is : (c : Config) (o : Option Value) (found : Option BpArgs) → found ≡ option_map bp_args_in o → bp_found c found ≡ answered (bootparams c) o
bp_answered_is c None found is = ap (bp_found c) is
bp_answered_is c (Some v) found is = ap (bp_found c) is

pub pmap_answered_is : (c : Config) (o : Option Value) (found : Option PmapArgs) → found ≡ option_map pmap_args_in o → pmap_found c found ≡ answered (portmapper c) o
pmap_answered_is c None found is = ap (pmap_found c) is
pmap_answered_is c (Some v) found is = ap (pmap_found c) is

-- an accepted call by its refusal
pub accepted_by : (p : Program) (prog vers proc_no : ℕ) (args : List ℕ) (refused : Option Outcome) → refused ≡ refusal p prog vers proc_no → unless_refused refused (answered p (spelled (p.args proc_no) args)) ≡ accepted p prog vers proc_no args
accepted_by p prog vers proc_no args refused is = ap (λ (o : Option Outcome). unless_refused o (answered p (spelled (p.args proc_no) args))) is

-- ---- messages

pub arrives_so : (p : Program) (bs : List ℕ) (read : Result Message MsgError) (a : Arrival) → Answers message message_value bs read → ComesRead p read a → arrival p bs ≡ a
arrives_so p bs (Ok (Asked call)) a h is = ap (arrives_read p) (whole_again message bs (message_value (Asked call)) h) ∙ sym is
arrives_so p bs (Ok (Answered other)) a h is = ap (arrives_read p) (whole_again message bs (message_value (Answered other)) h) ∙ sym is
arrives_so p bs (Err (RpcVersion xid got)) a h is = ap (arrives_read p) (refuses_again whole message 0 bs (RpcVersion xid got) h) ∙ sym is
arrives_so p bs (Err (Xdr why)) a h is = ap (arrives_read p) (refuses_again whole message 0 bs (Xdr why) h) ∙ sym is
arrives_so p bs (Err (AuthLong at len)) a h is = ap (arrives_read p) (refuses_again whole message 0 bs (AuthLong at len) h) ∙ sym is
arrives_so p bs (Err NoMemory) a h is = absurd is

-- ---- credentials

pub unix_says : (bs : List ℕ) (read : Result UnixCred MsgError) (found : Option UnixCred) → Answers (ended unix) unix_value bs read → IsKnown read found → is_some found ≡ not (is_none (spelled (ended unix) bs))
unix_says bs read found h is = of found ∙ ap (λ (o : Option Value). not (is_none o)) (known_says (ended unix) unix_value bs read found h is)
  where
    of : (o : Option UnixCred) → is_some o ≡ not (is_none (option_map unix_value o))
    of None = refl
    of (Some x) = refl
