-- What is written is read again, as it was and not otherwise, and what is read has a spelling.
use Rattle.std.proofs.Common.{◌≡◌, ℕ, ◌/◌, ◌%◌, ◌^◌, ◌<◌, refl, sym, subst, arith}
use Rattle.sd_xdr.specs.Kind.{char, meaning, written, whole, number, ◌⊗◌, second, Value}
use Rattle.sd_xdr.specs.Grammar.{HasSpelling, WordSpelled}
use Rattle.sd_xdr.proofs.Whole.{one_value}
use Rattle.sd_xdr.proofs.Writes.{written_is_read, read_has_spelling, char_spelled}
use Rattle.sd_bootparams.specs.declared.message.BpArgs.{BpArgs}
use Rattle.sd_bootparams.specs.declared.message.BpArgs.TheVariants as args
use Rattle.sd_bootparams.specs.declared.message.BpResult.{BpResult}
use Rattle.sd_bootparams.specs.declared.message.BpResult.TheVariants as results
use Rattle.sd_bootparams.specs.Layout.{ip, ip_value, args_kind, args_value, proc_of, args_bytes, result_kind, result_value, result_proc, result_bytes}
use Rattle.sd_bootparams.specs.Laws.{ReadsArgs, ReadsResult, AreArgs, IsResult, ArgsWrittenAreRead, ReadAreArgs, ResultWrittenIsRead, ReadIsResult}
use Rattle.sd_bootparams.proofs.Told.{told_args, told_result}

-- ---- what has a spelling

ip_spelled : (n : ℕ) → n < 2 ^ 32 → HasSpelling ip (ip_value n)
ip_spelled n lt = (refl, (refl, omega arith, refl), (refl, char_spelled (n / 2 ^ 24) (omega arith), (refl, char_spelled (n / 2 ^ 16 % 256) (omega arith), (refl, char_spelled (n / 2 ^ 8 % 256) (omega arith), char_spelled (n % 256) (omega arith)))))

args_spelled : (a : BpArgs) → AreArgs a → HasSpelling (args_kind (proc_of a)) (args_value a)
args_spelled args.Null h = (refl, refl)
args_spelled (args.Whoami address) h = (refl, ip_spelled address h)
args_spelled (args.Getfile client key) h = (refl, (refl, (refl, omega (arith, h.0), h.0), (refl, omega (arith, h.1), h.1)))

result_spelled : (r : BpResult) → IsResult r → HasSpelling (result_kind (result_proc r)) (result_value r)
result_spelled results.Void h = (refl, refl)
result_spelled (results.Whoami client domain router) h = (refl, (refl, (refl, omega (arith, h.0), h.0), (refl, (refl, omega (arith, h.1), h.1), ip_spelled router h.2)))
result_spelled (results.Getfile server address path) h = (refl, (refl, (refl, omega (arith, h.0), h.0), (refl, ip_spelled address h.1, (refl, omega (arith, h.2), h.2))))

-- ---- written, and read again

pub args_written_are_read_of : ArgsWrittenAreRead
args_written_are_read_of a b h =
    let again : ReadsArgs (proc_of a) (args_bytes a) a = written_is_read whole (args_kind (proc_of a)) (args_value a) (args_spelled a h) in (
      λ read. told_args b a (one_value (args_kind (proc_of a)) (args_bytes a) (args_value b) (args_value a) read again),
      λ same. subst (λ (c : BpArgs). ReadsArgs (proc_of a) (args_bytes a) c) (sym same) again,
    )

pub result_written_is_read_of : ResultWrittenIsRead
result_written_is_read_of r s h =
    let again : ReadsResult (result_proc r) (result_bytes r) r = written_is_read whole (result_kind (result_proc r)) (result_value r) (result_spelled r h) in (
      λ read. told_result s r (one_value (result_kind (result_proc r)) (result_bytes r) (result_value s) (result_value r) read again),
      λ same. subst (λ (c : BpResult). ReadsResult (result_proc r) (result_bytes r) c) (sym same) again,
    )

-- ---- what is read has a spelling

-- what a char means is a byte
char_below : (n : ℕ) → WordSpelled char (number n) → n < 256
char_below n h = below n (written char n) (number_is n (meaning char (written char n)) h.0)
  where
    number_is : (m k : ℕ) → number m ≡ number k → m ≡ k
    number_is m k e = cc

    below : (m k : ℕ) → m ≡ k % 256 → m < 256
    below m k e = omega arith

ip_is : (n : ℕ) → HasSpelling ip (ip_value n) → n < 2 ^ 32
ip_is n h = let net = char_below (n / 2 ^ 24) h.2.1 in omega (arith, net)

args_are : (a : BpArgs) → HasSpelling (args_kind (proc_of a)) (args_value a) → AreArgs a
args_are args.Null h = tt
args_are (args.Whoami address) h = ip_is address h.1
args_are (args.Getfile client key) h = (h.1.1.2, h.1.2.2)

result_is : (r : BpResult) → HasSpelling (result_kind (result_proc r)) (result_value r) → IsResult r
result_is results.Void h = tt
result_is (results.Whoami client domain router) h = (h.1.1.2, h.1.2.1.2, ip_is router h.1.2.2)
result_is (results.Getfile server address path) h = (h.1.1.2, ip_is address h.1.2.1, h.1.2.2.2)

-- the number before the value is the one that is known
given_is : (n m : ℕ) (x y : Value) → number m ⊗ x ≡ number n ⊗ y → n ≡ m
given_is n m x y h = cc

args_of : (n : ℕ) (a : BpArgs) → args_value a ≡ number n ⊗ second (args_value a) → n ≡ proc_of a
args_of n args.Null h = given_is n 0 _ _ h
args_of n (args.Whoami address) h = given_is n 1 _ _ h
args_of n (args.Getfile client key) h = given_is n 2 _ _ h

result_of : (n : ℕ) (r : BpResult) → result_value r ≡ number n ⊗ second (result_value r) → n ≡ result_proc r
result_of n results.Void h = given_is n 0 _ _ h
result_of n (results.Whoami client domain router) h = given_is n 1 _ _ h
result_of n (results.Getfile server address path) h = given_is n 2 _ _ h

pub read_are_args_of : ReadAreArgs
read_are_args_of proc_no a bs h =
    let s = read_has_spelling whole (args_kind proc_no) bs (args_value a) h in
    let same : proc_no ≡ proc_of a = args_of proc_no a s.0 in
    let read : ReadsArgs (proc_of a) bs a = subst (λ (n : ℕ). ReadsArgs n bs a) same h in
    (same, args_are a (read_has_spelling whole (args_kind (proc_of a)) bs (args_value a) read))

pub read_is_result_of : ReadIsResult
read_is_result_of proc_no r bs h =
    let s = read_has_spelling whole (result_kind proc_no) bs (result_value r) h in
    let same : proc_no ≡ result_proc r = result_of proc_no r s.0 in
    let read : ReadsResult (result_proc r) bs r = subst (λ (n : ℕ). ReadsResult n bs r) same h in
    (same, result_is r (read_has_spelling whole (result_kind (result_proc r)) bs (result_value r) read))
