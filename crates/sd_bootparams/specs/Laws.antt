-- What holds of the messages. The functions of src/laws.rt have these as their contracts.
use Rattle.std.specs.Prelude.{◌≡◌, ◌↔◌, ℕ, ◌+◌, ◌-◌, ◌^◌, ◌/◌, ◌%◌, ◌<◌, ◌≤◌, ◌⊎◌, List, [], ◌∷◌, length}
use Rattle.sd_xdr.specs.Kind.{whole, part}
use Rattle.sd_xdr.specs.Grammar.{Reads, joined}
use Rattle.sd_bootparams.specs.declared.message.BpArgs.{BpArgs}
use Rattle.sd_bootparams.specs.declared.message.BpArgs.TheVariants as args
use Rattle.sd_bootparams.specs.declared.message.BpResult.{BpResult}
use Rattle.sd_bootparams.specs.declared.message.BpResult.TheVariants as results
use Rattle.sd_bootparams.specs.Layout.{ip, ip_value, name_limit, key_limit, path_limit, args_kind, args_value, proc_of, args_bytes, result_kind, result_value, result_proc, result_bytes}

-- the bytes, all of them, spell these arguments of a procedure
abbrev pub ReadsArgs : ℕ → List ℕ → BpArgs → Type 0
ReadsArgs proc_no bs a = Reads whole (args_kind proc_no) bs (args_value a)

-- the bytes, all of them, spell this result of a procedure
abbrev pub ReadsResult : ℕ → List ℕ → BpResult → Type 0
ReadsResult proc_no bs r = Reads whole (result_kind proc_no) bs (result_value r)

-- the arguments that have a spelling: addresses are words, and texts are within their limits
abbrev pub AreArgs : BpArgs → Type 0
AreArgs args.Null = Unit {0}
AreArgs (args.Whoami address) = address < 2 ^ 32
AreArgs (args.Getfile client key) = (length client ≤ name_limit) × (length key ≤ key_limit)

-- the results that have a spelling
abbrev pub IsResult : BpResult → Type 0
IsResult results.Void = Unit {0}
IsResult (results.Whoami client domain router) = (length client ≤ name_limit) × (length domain ≤ name_limit) × (router < 2 ^ 32)
IsResult (results.Getfile server address path) = (length server ≤ name_limit) × (address < 2 ^ 32) × (length path ≤ path_limit)

-- What is written for arguments is read as those, and as no others.
abbrev pub ArgsWrittenAreRead : Type 0
ArgsWrittenAreRead = (a b : BpArgs) → AreArgs a → ReadsArgs (proc_of a) (args_bytes a) b ↔ (b ≡ a)

-- Arguments that are read are of that procedure, and have a spelling.
abbrev pub ReadAreArgs : Type 0
ReadAreArgs = (proc_no : ℕ) (a : BpArgs) (bs : List ℕ) → ReadsArgs proc_no bs a → (proc_no ≡ proc_of a) × AreArgs a

-- The same of results.
abbrev pub ResultWrittenIsRead : Type 0
ResultWrittenIsRead = (r s : BpResult) → IsResult r → ReadsResult (result_proc r) (result_bytes r) s ↔ (s ≡ r)

abbrev pub ReadIsResult : Type 0
ReadIsResult = (proc_no : ℕ) (r : BpResult) (bs : List ℕ) → ReadsResult proc_no bs r → (proc_no ≡ result_proc r) × IsResult r

-- The word is this byte of an address: as it is, or from 128 on as the negative number that a char with a sign has.
abbrev pub IsChar : ℕ → ℕ → Type 0
IsChar byte word = (byte < 256) × ((word ≡ byte) ⊎ ((128 ≤ byte) × (word ≡ byte + (2 ^ 32 - 256))))

-- The spellings of an address: the word 1, and a word for each byte.
pub record SpellsIp (bs : List ℕ) (address : ℕ) : Type 0 where
  pub net : ℕ
  pub host : ℕ
  pub lh : ℕ
  pub impno : ℕ
  pub is : bs ≡ joined (1 ∷ net ∷ host ∷ lh ∷ impno ∷ [])
  pub is_net : IsChar (address / 2 ^ 24) net
  pub is_host : IsChar (address / 2 ^ 16 % 256) host
  pub is_lh : IsChar (address / 2 ^ 8 % 256) lh
  pub is_impno : IsChar (address % 256) impno

-- An address is read from these spellings and from no others.
abbrev pub IpSpellings : Type 0
IpSpellings = (address : ℕ) (bs : List ℕ) → Reads part ip bs (ip_value address) ↔ SpellsIp bs address
