-- Messages are told apart by the values that they are.
use Rattle.std.proofs.Common.{◌≡◌, ℕ, ◌/◌, ◌%◌, ◌^◌, refl, ap, arith}
use Rattle.sd_bootparams.specs.declared.message.BpArgs.{BpArgs}
use Rattle.sd_bootparams.specs.declared.message.BpArgs.TheVariants as args
use Rattle.sd_bootparams.specs.declared.message.BpResult.{BpResult}
use Rattle.sd_bootparams.specs.declared.message.BpResult.TheVariants as results
use Rattle.sd_bootparams.specs.Layout.{ip_value, args_value, result_value}

four_bytes : (m n : ℕ) → m / 2 ^ 24 ≡ n / 2 ^ 24 → m / 2 ^ 16 % 256 ≡ n / 2 ^ 16 % 256 → m / 2 ^ 8 % 256 ≡ n / 2 ^ 8 % 256 → m % 256 ≡ n % 256 → m ≡ n
four_bytes m n a b c d = omega arith

told_ip : (m n : ℕ) → ip_value m ≡ ip_value n → m ≡ n
told_ip m n h = four_bytes m n (cc) (cc) (cc) (cc)

pub told_args : (a b : BpArgs) → args_value a ≡ args_value b → a ≡ b
told_args args.Null args.Null h = refl
told_args (args.Whoami m) (args.Whoami n) h = ap args.Whoami (told_ip m n cc)
told_args (args.Getfile client key) (args.Getfile client' key') h = cc
told_args x y h = absurd cc

pub told_result : (r s : BpResult) → result_value r ≡ result_value s → r ≡ s
told_result results.Void results.Void h = refl
told_result (results.Whoami client domain m) (results.Whoami client' domain' n) h = let e = told_ip m n cc in cc
told_result (results.Getfile server m path) (results.Getfile server' n path') h = let e = told_ip m n cc in cc
told_result x y h = absurd cc
