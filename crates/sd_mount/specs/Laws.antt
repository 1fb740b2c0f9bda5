-- What holds of the messages. The functions of src/laws.rt have these as their contracts.
use Rattle.std.specs.Prelude.{◌≡◌, ◌↔◌, ℕ, ◌^◌, ◌<◌, List, length, All}
use Rattle.sd_xdr.specs.Kind.{whole}
use Rattle.sd_xdr.specs.Grammar.{Reads}
use Rattle.sd_mount.specs.declared.message.MountArgs.{MountArgs}
use Rattle.sd_mount.specs.declared.message.MountResult.{MountResult}
use Rattle.sd_mount.specs.declared.message.MountResult.TheVariants as results
use Rattle.sd_mount.specs.Layout.{args_kind, args_value, proc_of, args_bytes, ArgsFit, IsResultOf, result_kind, result_value, result_bytes, MountFits, ExportFits}

-- the bytes, all of them, spell these arguments of a procedure
abbrev pub ReadsArgs : ℕ → List ℕ → MountArgs → Type 0
ReadsArgs proc_no bs a = Reads whole (args_kind proc_no) bs (args_value a)

-- the bytes, all of them, spell this result of a procedure
abbrev pub ReadsResult : ℕ → List ℕ → MountResult → Type 0
ReadsResult proc_no bs r = Reads whole (result_kind proc_no) bs (result_value r)

-- The results that have a spelling: a definition's numbers and lists may be any, a message's status is a word, and its handle has
-- 32 bytes.
abbrev pub IsResult : MountResult → Type 0
IsResult results.Void = Unit {0}
IsResult (results.Given file) = length file.0 ≡ 32
IsResult (results.Refused status) = (status < 2 ^ 32) × (status ≡ 0 → ⊥)
IsResult (results.Mounts ms) = All MountFits ms
IsResult (results.Exports es) = All ExportFits es

-- What is written for arguments is read as those, and as no others.
abbrev pub ArgsWrittenAreRead : Type 0
ArgsWrittenAreRead = (a b : MountArgs) → ArgsFit a → ReadsArgs (proc_of a) (args_bytes a) b ↔ (b ≡ a)

-- Bytes that are read as arguments of a procedure are those that are written for them. The arguments are of that procedure, and
-- have a spelling.
abbrev pub ArgsOneSpelling : Type 0
ArgsOneSpelling = (proc_no : ℕ) (a : MountArgs) (bs : List ℕ) →
    ReadsArgs proc_no bs a → (bs ≡ args_bytes a) × (proc_no ≡ proc_of a) × ArgsFit a

-- The same of results.
abbrev pub ResultWrittenIsRead : Type 0
ResultWrittenIsRead = (proc_no : ℕ) (r s : MountResult) → IsResult r → IsResultOf proc_no r →
    ReadsResult proc_no (result_bytes r) s ↔ (s ≡ r)

abbrev pub ResultOneSpelling : Type 0
ResultOneSpelling = (proc_no : ℕ) (r : MountResult) (bs : List ℕ) →
    ReadsResult proc_no bs r → (bs ≡ result_bytes r) × IsResultOf proc_no r × IsResult r
