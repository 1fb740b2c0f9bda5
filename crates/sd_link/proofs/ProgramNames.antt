-- The name of a boot program has no zero.
use Rattle.std.proofs.Common.{◌≡◌, ◌≢◌, ℕ, ◌/◌, ◌%◌, ◌<◌, ◌^◌, true, List, [], ◌∷◌, ◌++◌, Some, None, sym, ◌∙◌, ap, subst, arith, inl, inr}
use Rattle.std.specs.Prelude.{slice_index}
use Rattle.std.specs.List.{AllByRecursion}
use Rattle.std.specs.Int.{w32, to_be_bytes}
use Rattle.hex.specs.Hex.{encode_with, encode_upper, upper_digits, hex_digit_value}
use Rattle.hex.proofs.HexLemmas.{IsDigits-upper_digits}
use Rattle.sd_tftp.specs.Grammar.{HasNoZero}
use Rattle.sd_config.specs.Config.{IsArch, is_name_byte}
use Rattle.sd_config.specs.Program.{program_name, arch_suffix}
use Rattle.sd_config.proofs.Lists.{all_recursive}

clean_append : (xs ys : List ℕ) → HasNoZero xs → HasNoZero ys → HasNoZero (xs ++ ys)
clean_append [] ys first second = second
clean_append (x ∷ xs) ys first second = (first.0, clean_append xs ys first.1 second)

-- no digit is a zero byte
no_digit : (b d : ℕ) → hex_digit_value b ≡ Some d → b ≢ 0
no_digit b d e is = let none : None ≡ Some d = sym (ap hex_digit_value is) ∙ e in absurd (cc)

digits_clean : (bytes : List ℕ) → AllByRecursion (λ b. b < 256) bytes → HasNoZero (encode_with upper_digits bytes)
unfolding encode_with
digits_clean [] all = tt
digits_clean (b ∷ bytes) all = (
  no_digit (slice_index upper_digits (b / 16)) (b / 16) (IsDigits-upper_digits (b / 16) (omega (arith, all.0))),
  (no_digit (slice_index upper_digits (b % 16)) (b % 16) (IsDigits-upper_digits (b % 16) (omega arith)), digits_clean bytes all.1),
)

pass_clean : (bytes : List ℕ) → AllByRecursion (λ b. is_name_byte b ≡ true) bytes → HasNoZero bytes
pass_clean [] all = tt
pass_clean (b ∷ bytes) all = (λ is. let no : is_name_byte 0 ≡ true = sym (ap is_name_byte is) ∙ all.0 in absurd (cc), pass_clean bytes all.1)

suffix_clean : (arch : List ℕ) → HasNoZero arch → HasNoZero (arch_suffix arch)
suffix_clean [] clean = tt
suffix_clean (b ∷ arch) clean = (λ e. cc e, clean)

arch_clean : (arch : List ℕ) → IsArch arch → HasNoZero arch
arch_clean arch (inl none) = subst (λ (l : List ℕ). HasNoZero l) (sym none) tt
arch_clean arch (inr name) = pass_clean arch (all_recursive (λ b. is_name_byte b ≡ true) arch name.bytes)

-- No name of a boot program has a zero, so it is read as it was written.
pub program_name_clean : (arch : List ℕ) (ip : ℕ) → IsArch arch → ip < 2 ^ 32 → HasNoZero (program_name arch ip)
program_name_clean arch ip is fits =
    clean_append (encode_upper (to_be_bytes w32 ip)) (arch_suffix arch) (digits_clean (to_be_bytes w32 ip) (omega (arith, fits), (omega (arith, fits), (omega (arith, fits), (omega (arith, fits), tt))))) (suffix_clean arch (arch_clean arch is))
