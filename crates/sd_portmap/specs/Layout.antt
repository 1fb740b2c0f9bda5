-- The kinds of the portmapper's messages, with the standard's names, and the value that each message is (RFC 1057, appendix A).
use Rattle.std.specs.Prelude.{◌≡◌, ℕ, ◌^◌, ◌<◌, ◌≤◌, ◌==◌, if◌then◌else◌, List, length, map}
use Rattle.sd_xdr.specs.Kind.{any, flag, between, upto, no_limit, part, whole, Kind, void, word, opaque, list, ◌&◌, variant, place_of, Value, none, number, bytes, ◌⊗◌, truth, chain}
use Rattle.sd_xdr.specs.Grammar.{writes}
use Rattle.sd_portmap.specs.declared.mapping.Mapping.{Mapping}
use Rattle.sd_portmap.specs.declared.message.PmapArgs.{PmapArgs}
use Rattle.sd_portmap.specs.declared.message.PmapArgs.TheVariants as args
use Rattle.sd_portmap.specs.declared.message.PmapResult.{PmapResult}
use Rattle.sd_portmap.specs.declared.message.PmapResult.TheVariants as results

-- PMAP_PORT
abbrev pub pmap_port : ℕ
pmap_port = 111

-- ---- kinds

-- mapping: prog, vers, prot, port
abbrev pub mapping : Kind part
mapping = word any & word any & word any & word any

-- pmaplist: optional data that goes on with the same again
abbrev pub pmaplist : Kind part
pmaplist = list mapping

-- call_args: prog, vers, proc, args
abbrev pub call_args : Kind part
call_args = word any & word any & word any & opaque (upto no_limit)

-- call_result: port, res
abbrev pub call_result : Kind part
call_result = word any & opaque (upto no_limit)

-- The arguments of a procedure: 0 PMAPPROC_NULL, 1 PMAPPROC_SET, 2 PMAPPROC_UNSET, 3 PMAPPROC_GETPORT, 4 PMAPPROC_DUMP,
-- 5 PMAPPROC_CALLIT.
abbrev pub args_layout : ℕ → Kind part
args_layout n =
    if n == 0 then void else
    (if n == 4 then void else
    (if n == 5 then call_args else mapping))

abbrev pub args_kind : ℕ → Kind whole
args_kind proc_no = variant args_layout proc_no

-- The results, in the order of the enum: nothing, a bool, a port, mappings, and a port with results.
abbrev pub result_layout : ℕ → Kind part
result_layout place =
    if place == 0 then void else
    (if place == 1 then word flag else
    (if place == 2 then word (between 0 65535) else
    (if place == 3 then pmaplist else call_result)))

-- which of them a procedure has
abbrev pub result_place : ℕ → ℕ
result_place proc_no =
    if proc_no == 0 then 0 else
    (if proc_no == 3 then 2 else
    (if proc_no == 4 then 3 else
    (if proc_no == 5 then 4 else 1)))

abbrev pub result_kind : ℕ → Kind whole
result_kind proc_no = variant result_layout (result_place proc_no)

-- ---- values

abbrev pub mapping_value : Mapping → Value
mapping_value m = number m.prog ⊗ number m.vers ⊗ number m.prot ⊗ number m.port

-- the number of the procedure, and its arguments
abbrev pub args_value : PmapArgs → Value
args_value args.Null = number 0 ⊗ none
args_value (args.Set m) = number 1 ⊗ mapping_value m
args_value (args.Unset m) = number 2 ⊗ mapping_value m
args_value (args.Getport m) = number 3 ⊗ mapping_value m
args_value args.Dump = number 4 ⊗ none
args_value (args.Callit prog vers proc_no bs) = number 5 ⊗ number prog ⊗ number vers ⊗ number proc_no ⊗ bytes bs

abbrev pub mappings_value : List Mapping → Value
mappings_value ms = chain (map mapping_value ms) none

-- the place of the result in the enum, and what it says
abbrev pub result_value : PmapResult → Value
result_value results.Void = number 0 ⊗ none
result_value (results.Flag b) = number 1 ⊗ truth b
result_value (results.Port port) = number 2 ⊗ number port
result_value (results.Mappings ms) = number 3 ⊗ mappings_value ms
result_value (results.Callit port bs) = number 4 ⊗ number port ⊗ bytes bs

-- ---- which procedure they are of

-- the procedure that has these arguments
abbrev pub proc_of : PmapArgs → ℕ
proc_of a = place_of (args_value a)

-- the procedure has results of this variant
abbrev pub IsResultOf : ℕ → PmapResult → Type 0
IsResultOf proc_no r = place_of (result_value r) ≡ result_place proc_no

-- ---- what is written

abbrev pub args_bytes : PmapArgs → List ℕ
args_bytes a = writes (args_kind (proc_of a)) (args_value a)

abbrev pub result_bytes : PmapResult → List ℕ
result_bytes r = writes (variant result_layout (place_of (result_value r))) (result_value r)

-- ---- what has room

abbrev pub ArgsFit : PmapArgs → Type 0
ArgsFit args.Null = Unit {0}
ArgsFit (args.Set m) = Unit {0}
ArgsFit (args.Unset m) = Unit {0}
ArgsFit (args.Getport m) = Unit {0}
ArgsFit args.Dump = Unit {0}
ArgsFit (args.Callit prog vers proc_no bs) = length bs < 2 ^ 32

abbrev pub ResultFits : PmapResult → Type 0
ResultFits results.Void = Unit {0}
ResultFits (results.Flag b) = Unit {0}
ResultFits (results.Port port) = Unit {0}
ResultFits (results.Mappings ms) = Unit {0}
ResultFits (results.Callit port bs) = length bs < 2 ^ 32

-- a port that is answered is one of UDP or TCP
abbrev pub PortFits : PmapResult → Type 0
PortFits (results.Port port) = port ≤ 65535
PortFits results.Void = Unit {0}
PortFits (results.Flag b) = Unit {0}
PortFits (results.Mappings ms) = Unit {0}
PortFits (results.Callit port bs) = Unit {0}
