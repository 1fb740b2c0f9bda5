-- An image that is longer than any can be is refused for what stands in its head, or at the end that it should have.
use Rattle.std.proofs.Common.{◌≡◌, ℕ, zero, suc, ◌+◌, ◌-◌, ◌<◌, ◌≤◌, min, List, ◌∷◌, ◌++◌, length, Option, Some, None, Result, Ok, Err, Bool, true, false, refl, sym, ◌∙◌, ap, arith, length-append}
use Rattle.std.proofs.lemmas.List.{same_lists, get_or_append_left}
use Rattle.std.proofs.lemmas.Bool.Decides.{nat_tests}
use Rattle.std.specs.Prelude.{IfOk, if◌then◌else◌, ◌==◌, ◌&&◌, nat_lt, nat_le}
use Rattle.sd_outside.specs.Ranges.{part}
use Rattle.sd_outside.proofs.RangeLaws.{length-part, get_or-part}
use Rattle.sd_stable_disk.specs.Image.{rounded, total, first_wrong, format_name, sizes_told, sizes_from, unless_wrong, if_ok, word32, word64, opens, files_of}
use Rattle.sd_stable_disk.specs.declared.errors.OpenError.{OpenError}
use Rattle.sd_stable_disk.specs.declared.errors.OpenError.TheVariants.{Damaged, Version}

fits : (size room : ℕ) → (nat_lt 0 size && nat_le size 33554432 && nat_le (rounded size) room) ≡ true → rounded size ≤ room
fits size room test = grind (arith, nat_tests)

-- the sizes that are read fit their room
sizes_fit : (place room count : ℕ) (head : List ℕ) → IfOk (sizes_from place room count head) (λ sizes. total sizes ≤ room)
sizes_fit place room zero head = omega arith
sizes_fit place room (suc more) head = of (nat_lt 0 size && nat_le size 33554432 && nat_le (rounded size) room) (fits size room) (sizes_from (place + 8) (room - rounded size) more head) (sizes_fit (place + 8) (room - rounded size) more head)
  where
    size : ℕ
    size = word64 place head

    of : (t : Bool) → (t ≡ true → rounded (word64 place head) ≤ room) → (told : Result (List ℕ) OpenError) → IfOk told (λ sizes. total sizes ≤ room - rounded (word64 place head))
        → IfOk (if t then if_ok told (λ sizes. Ok (word64 place head ∷ sizes)) else Err (Damaged place)) (λ sizes. total sizes ≤ room)
    of true test (Ok sizes) h = omega (arith, test refl, h)
    of true test (Err error) h = tt
    of false test told h = tt

eq_false : (a b : ℕ) → b < a → (a == b) ≡ false
eq_false a b other = grind (arith, nat_tests)

lt_false : (a b : ℕ) → b ≤ a → nat_lt a b ≡ false
lt_false a b more = grind (arith, nat_tests)

-- both lengths are refused for the same
pub record AreRefused (n m : ℕ) (head : List ℕ) : Type 0 where
  pub error : OpenError
  pub first : sizes_told n head ≡ Err error
  pub second : sizes_told m head ≡ Err error

abbrev by_sizes : ℕ → Result (List ℕ) OpenError → Result (List ℕ) OpenError
by_sizes n told = if_ok told (λ sizes. if n == 16384 + total sizes then Ok sizes else Err (Damaged (min n (16384 + total sizes))))

abbrev by_head : ℕ → List ℕ → Option ℕ → Bool → Bool → Result (List ℕ) OpenError → Result (List ℕ) OpenError
by_head n head wrong version count told = unless_wrong wrong (if version then (if count then by_sizes n told else Err (Damaged 12)) else Err (Version (word32 8 head)))

too_long : (n : ℕ) (sizes : List ℕ) → 50348032 < n → total sizes ≤ 50331648 → by_sizes n (Ok sizes) ≡ Err (Damaged (16384 + total sizes))
too_long n sizes long few =
    let least : min n (16384 + total sizes) ≡ 16384 + total sizes = omega (arith, long, few) in
    ap (λ (b : Bool). if b then Ok sizes else Err (Damaged (min n (16384 + total sizes)))) (eq_false n (16384 + total sizes) (omega (arith, long, few)))
    ∙ ap (λ (k : ℕ). Err (Damaged k)) least

refused_so : (n m : ℕ) (head : List ℕ) (wrong : Option ℕ) (version count : Bool) (told : Result (List ℕ) OpenError) → 50348032 < n → 50348032 < m → IfOk told (λ sizes. total sizes ≤ 50331648)
    → (error : OpenError) × (by_head n head wrong version count told ≡ Err error) × (by_head m head wrong version count told ≡ Err error)
refused_so n m head (Some place) version count told long_n long_m few = (Damaged place, refl, refl)
refused_so n m head None false count told long_n long_m few = (Version (word32 8 head), refl, refl)
refused_so n m head None true false told long_n long_m few = (Damaged 12, refl, refl)
refused_so n m head None true true (Err error) long_n long_m few = (error, refl, refl)
refused_so n m head None true true (Ok sizes) long_n long_m few = (Damaged (16384 + total sizes), too_long n sizes long_n few, too_long m sizes long_m few)

told_long : (n : ℕ) (head : List ℕ) → 50348032 < n
    → sizes_told n head ≡ by_head n head (first_wrong 0 format_name (part 0 8 head)) (word32 8 head == 1) (nat_le (word32 12 head) 16) (sizes_from 16 50331648 (word32 12 head) head)
unfolding sizes_told
told_long n head long =
    ap (λ (b : Bool). if b then Err (Damaged n) else by_head n head (first_wrong 0 format_name (part 0 8 head)) (word32 8 head == 1) (nat_le (word32 12 head) 16) (sizes_from 16 50331648 (word32 12 head) head))
    (lt_false n 16384 (omega (arith, long)))

are_refused : (n m : ℕ) (head : List ℕ) → 50348032 < n → 50348032 < m → AreRefused n m head
are_refused n m head long_n long_m =
    let told = sizes_from 16 50331648 (word32 12 head) head in
    let r = refused_so n m head (first_wrong 0 format_name (part 0 8 head)) (word32 8 head == 1) (nat_le (word32 12 head) 16) told long_n long_m (sizes_fit 16 50331648 (word32 12 head) head) in
    record { error = r.0; first = told_long n head long_n ∙ r.1; second = told_long m head long_m ∙ r.2 }

part_front : (at n : ℕ) (front rest : List ℕ) → at + n ≤ length front → part at n (front ++ rest) ≡ part at n front
part_front at n front rest fits =
    let whole : at + n ≤ length (front ++ rest) = omega (arith, fits, length-append front rest) in
    let left : length (part at n (front ++ rest)) ≡ n = length-part at n (front ++ rest) whole in
    let right : length (part at n front) ≡ n = length-part at n front fits in
    same_lists _ _ (left ∙ sym right) (λ k d below.
    let near : k < n = omega (arith, left, below) in
    get_or-part at n (front ++ rest) k d near ∙ get_or_append_left front rest d (at + k) (omega (arith, near, fits)) ∙ sym (get_or-part at n front k d near))

-- a front that is longer than an image can be is refused as the whole is
pub record BothRefused (front whole : List ℕ) : Type 0 where
  pub error : OpenError
  pub first : opens front ≡ Err error
  pub second : opens whole ≡ Err error

pub both_refused : (front rest whole : List ℕ) → front ++ rest ≡ whole → 50348032 < length front → BothRefused front whole
both_refused front rest whole cut long =
    let more : length whole ≡ length front + length rest = ap length (sym cut) ∙ length-append front rest in
    let r = are_refused (length front) (length whole) (part 0 512 front) long (omega (arith, long, more)) in
    let head : part 0 512 whole ≡ part 0 512 front = ap (part 0 512) (sym cut) ∙ part_front 0 512 front rest (omega (arith, long)) in
    record {
      error = r.error;
      first = ap (λ (told : Result (List ℕ) OpenError). if_ok told (files_of front)) r.first;
      second = ap (λ (told : Result (List ℕ) OpenError). if_ok told (files_of whole)) (ap (sizes_told (length whole)) head ∙ r.second);
    }
