-- The kinds of bootparams messages, with the names of Sun's bootparam_prot.x, and the value that each message is.
use Rattle.std.specs.Prelude.{ℕ, ◌/◌, ◌%◌, ◌^◌, ◌≤◌, ◌==◌, if◌then◌else◌, List, length}
use Rattle.sd_xdr.specs.Kind.{between, char, upto, part, whole, Kind, void, word, opaque, ◌&◌, variant, place_of, Value, none, number, bytes, ◌⊗◌}
use Rattle.sd_xdr.specs.Grammar.{writes}
use Rattle.sd_bootparams.specs.declared.message.BpArgs.{BpArgs}
use Rattle.sd_bootparams.specs.declared.message.BpArgs.TheVariants as args
use Rattle.sd_bootparams.specs.declared.message.BpResult.{BpResult}
use Rattle.sd_bootparams.specs.declared.message.BpResult.TheVariants as results

-- the longest name of a machine or a domain, the longest fileid, and the longest path
abbrev pub name_limit : ℕ
name_limit = 255

abbrev pub key_limit : ℕ
key_limit = 32

abbrev pub path_limit : ℕ
path_limit = 1024

-- ---- kinds

-- bp_address: IP_ADDR_TYPE, which is 1, and an ip_addr_t of four chars: net, host, lh, impno
abbrev pub ip : Kind part
ip = word (between 1 1) & word char & word char & word char & word char

abbrev pub name : Kind part
name = opaque (upto name_limit)

-- bp_getfile_arg: client_name, file_id
abbrev pub getfile_arg : Kind part
getfile_arg = name & opaque (upto key_limit)

-- The arguments of a procedure: 0 nothing, 1 BOOTPARAMPROC_WHOAMI with a bp_whoami_arg, 2 BOOTPARAMPROC_GETFILE.
abbrev pub args_layout : ℕ → Kind part
args_layout n = if n == 0 then void else (if n == 1 then ip else getfile_arg)

abbrev pub args_kind : ℕ → Kind whole
args_kind proc_no = variant args_layout proc_no

-- bp_whoami_res: client_name, domain_name, router_address
abbrev pub whoami_res : Kind part
whoami_res = name & name & ip

-- bp_getfile_res: server_name, server_address, server_path
abbrev pub getfile_res : Kind part
getfile_res = name & ip & opaque (upto path_limit)

-- The result of a procedure.
abbrev pub result_layout : ℕ → Kind part
result_layout n = if n == 0 then void else (if n == 1 then whoami_res else getfile_res)

abbrev pub result_kind : ℕ → Kind whole
result_kind proc_no = variant result_layout proc_no

-- ---- values

-- an address by its four bytes, the highest first
abbrev pub ip_value : ℕ → Value
ip_value n = number 1 ⊗ number (n / 2 ^ 24) ⊗ number (n / 2 ^ 16 % 256) ⊗ number (n / 2 ^ 8 % 256) ⊗ number (n % 256)

-- the number of the procedure, and its arguments
abbrev pub args_value : BpArgs → Value
args_value args.Null = number 0 ⊗ none
args_value (args.Whoami address) = number 1 ⊗ ip_value address
args_value (args.Getfile client key) = number 2 ⊗ bytes client ⊗ bytes key

-- the number of the procedure, and its result
abbrev pub result_value : BpResult → Value
result_value results.Void = number 0 ⊗ none
result_value (results.Whoami client domain router) = number 1 ⊗ bytes client ⊗ bytes domain ⊗ ip_value router
result_value (results.Getfile server address path) = number 2 ⊗ bytes server ⊗ ip_value address ⊗ bytes path

-- ---- what is written

-- the procedure that has these arguments, and the one that has this result
abbrev pub proc_of : BpArgs → ℕ
proc_of a = place_of (args_value a)

abbrev pub result_proc : BpResult → ℕ
result_proc r = place_of (result_value r)

abbrev pub args_bytes : BpArgs → List ℕ
args_bytes a = writes (args_kind (proc_of a)) (args_value a)

abbrev pub result_bytes : BpResult → List ℕ
result_bytes r = writes (result_kind (result_proc r)) (result_value r)

-- ---- what has room

abbrev pub ArgsFit : BpArgs → Type 0
ArgsFit args.Null = Unit {0}
ArgsFit (args.Whoami address) = Unit {0}
ArgsFit (args.Getfile client key) = (length client ≤ name_limit) × (length key ≤ key_limit)

abbrev pub ResultFits : BpResult → Type 0
ResultFits results.Void = Unit {0}
ResultFits (results.Whoami client domain router) = (length client ≤ name_limit) × (length domain ≤ name_limit)
ResultFits (results.Getfile server address path) = (length server ≤ name_limit) × (length path ≤ path_limit)
