-- What holds of the portmapper's messages. The functions of src/laws.rt have these as their contracts.
use Rattle.std.specs.Prelude.{◌≡◌, ◌↔◌, ℕ, ◌^◌, ◌<◌, ◌≤◌, List, length, All}
use Rattle.sd_xdr.specs.Kind.{whole}
use Rattle.sd_xdr.specs.Grammar.{Reads}
use Rattle.sd_portmap.specs.declared.mapping.Mapping.{Mapping}
use Rattle.sd_portmap.specs.declared.message.PmapArgs.{PmapArgs}
use Rattle.sd_portmap.specs.declared.message.PmapArgs.TheVariants as args
use Rattle.sd_portmap.specs.declared.message.PmapResult.{PmapResult}
use Rattle.sd_portmap.specs.declared.message.PmapResult.TheVariants as results
use Rattle.sd_portmap.specs.Layout.{args_kind, args_value, proc_of, args_bytes, IsResultOf, result_kind, result_value, result_bytes}

-- the bytes, all of them, spell these arguments of a procedure
abbrev pub ReadsArgs : ℕ → List ℕ → PmapArgs → Type 0
ReadsArgs proc_no bs a = Reads whole (args_kind proc_no) bs (args_value a)

-- the bytes, all of them, spell this result of a procedure
abbrev pub ReadsResult : ℕ → List ℕ → PmapResult → Type 0
ReadsResult proc_no bs r = Reads whole (result_kind proc_no) bs (result_value r)

-- a definition's number may be any, a message's is a word
abbrev pub IsWord : ℕ → Type 0
IsWord n = n < 2 ^ 32

abbrev pub IsMapping : Mapping → Type 0
IsMapping m = IsWord m.prog × IsWord m.vers × IsWord m.prot × IsWord m.port

-- the arguments that have a spelling
abbrev pub AreArgs : PmapArgs → Type 0
AreArgs args.Null = Unit {0}
AreArgs (args.Set m) = IsMapping m
AreArgs (args.Unset m) = IsMapping m
AreArgs (args.Getport m) = IsMapping m
AreArgs args.Dump = Unit {0}
AreArgs (args.Callit prog vers proc_no bs) = IsWord prog × IsWord vers × IsWord proc_no × (length bs < 2 ^ 32)

-- the results that have a spelling
abbrev pub IsResult : PmapResult → Type 0
IsResult results.Void = Unit {0}
IsResult (results.Flag b) = Unit {0}
IsResult (results.Port port) = port ≤ 65535
IsResult (results.Mappings ms) = All IsMapping ms
IsResult (results.Callit port bs) = IsWord port × (length bs < 2 ^ 32)

-- What is written for arguments is read as those, and as no others.
abbrev pub ArgsWrittenAreRead : Type 0
ArgsWrittenAreRead = (a b : PmapArgs) → AreArgs a → ReadsArgs (proc_of a) (args_bytes a) b ↔ (b ≡ a)

-- Bytes that are read as arguments of a procedure are those that are written for them. The arguments are of that procedure, and
-- have a spelling.
abbrev pub ArgsOneSpelling : Type 0
ArgsOneSpelling = (proc_no : ℕ) (a : PmapArgs) (bs : List ℕ) →
    ReadsArgs proc_no bs a → (bs ≡ args_bytes a) × (proc_no ≡ proc_of a) × AreArgs a

-- The same of results.
abbrev pub ResultWrittenIsRead : Type 0
ResultWrittenIsRead = (proc_no : ℕ) (r s : PmapResult) → IsResult r → IsResultOf proc_no r →
    ReadsResult proc_no (result_bytes r) s ↔ (s ≡ r)

abbrev pub ResultOneSpelling : Type 0
ResultOneSpelling = (proc_no : ℕ) (r : PmapResult) (bs : List ℕ) →
    ReadsResult proc_no bs r → (bs ≡ result_bytes r) × IsResultOf proc_no r × IsResult r
