-- The sizes that a head tells, and where homes begin.
use Rattle.std.proofs.Common.{◌≡◌, ◌⊎◌, inl, inr, ℕ, zero, suc, ◌+◌, ◌-◌, ◌<◌, ◌≤◌, min, List, [], ◌∷◌, ◌++◌, length, get_or, drop, refl, sym, ◌∙◌, ap, arith, add-one, append_assoc, Bool, true, false, Result, Ok, Err}
use Rattle.std.proofs.lemmas.List.{drop_more, get_or_append_left, get_or_push, length_push}
use Rattle.std.proofs.lemmas.Bool.{cases_lt}
use Rattle.std.proofs.lemmas.Bool.Decides.{nat_tests}
use Rattle.std.specs.Prelude.{Some, None, if◌then◌else◌, ◌==◌, ◌&&◌, nat_lt, nat_le}
use Rattle.sd_outside.specs.Ranges.{part}
use Rattle.sd_stable_disk.specs.Image.{rounded, total, home_of, first_wrong, format_name, sizes_told, sizes_from, unless_wrong, if_ok, word32, word64}
use Rattle.sd_stable_disk.specs.declared.errors.OpenError.{OpenError}
use Rattle.sd_stable_disk.specs.declared.errors.OpenError.TheVariants.{Damaged, Version}

pub lt_true : (a b : ℕ) → a < b → nat_lt a b ≡ true
lt_true a b less = grind (arith, nat_tests)

lt_false : (a b : ℕ) → b ≤ a → nat_lt a b ≡ false
lt_false a b more = grind (arith, nat_tests)

pub le_true : (a b : ℕ) → a ≤ b → nat_le a b ≡ true
le_true a b less = grind (arith, nat_tests)

le_false : (a b : ℕ) → b < a → nat_le a b ≡ false
le_false a b more = grind (arith, nat_tests)

eq_true : (a b : ℕ) → a ≡ b → (a == b) ≡ true
eq_true a b same = grind (arith, nat_tests)

eq_false : (a b : ℕ) → (a ≡ b → ⊥) → (a == b) ≡ false
eq_false a b other = grind (arith, nat_tests)

pub rounded_more : (size : ℕ) → size ≤ rounded size
unfolding rounded
rounded_more size = omega arith

home_of-suc : (base : ℕ) (sizes : List ℕ) (file : ℕ) → file < length sizes → home_of base sizes (suc file) ≡ home_of base sizes file + rounded (get_or sizes file 0)
home_of-suc base [] file below = absurd (omega arith)
home_of-suc base (size ∷ []) zero below = refl
home_of-suc base (size ∷ s ∷ sizes) zero below = refl
home_of-suc base (size ∷ sizes) (suc file) below = home_of-suc (base + rounded size) sizes file (omega (arith, below))

pub home_of-next : (base : ℕ) (sizes : List ℕ) (file : ℕ) → file < length sizes → home_of base sizes (file + 1) ≡ home_of base sizes file + rounded (get_or sizes file 0)
home_of-next base sizes file below = ap (home_of base sizes) (add-one file) ∙ home_of-suc base sizes file below

pub home_of_fits : (base : ℕ) (sizes : List ℕ) (file : ℕ) → file < length sizes → home_of base sizes file + rounded (get_or sizes file 0) ≤ base + total sizes
home_of_fits base [] file below = absurd (omega arith)
home_of_fits base (size ∷ sizes) zero below = omega arith
home_of_fits base (size ∷ sizes) (suc file) below = omega (arith, home_of_fits (base + rounded size) sizes file (omega (arith, below)))

pub home_of_after : (base : ℕ) (sizes : List ℕ) (file : ℕ) → base ≤ home_of base sizes file
home_of_after base [] file = omega arith
home_of_after base (size ∷ sizes) zero = omega arith
home_of_after base (size ∷ sizes) (suc file) = omega (arith, home_of_after (base + rounded size) sizes file)

pub first_wrong-next : (i : ℕ) (xs ys : List ℕ) → i < length xs → i < length ys → get_or xs i 0 ≡ get_or ys i 0 → first_wrong i (drop i xs) (drop i ys) ≡ first_wrong (i + 1) (drop (i + 1) xs) (drop (i + 1) ys)
first_wrong-next i xs ys in_xs in_ys same = (λ j. first_wrong i (drop_more xs i 0 in_xs j) (drop_more ys i 0 in_ys j)) ∙ step (get_or xs i 0) (get_or ys i 0) same
  where
    step : (x y : ℕ) → x ≡ y → first_wrong i (x ∷ drop (i + 1) xs) (y ∷ drop (i + 1) ys) ≡ first_wrong (i + 1) (drop (i + 1) xs) (drop (i + 1) ys)
    step x y same = grind (arith, nat_tests)

pub first_wrong_here : (i : ℕ) (xs ys : List ℕ) → i < length xs → i < length ys → (get_or xs i 0 ≡ get_or ys i 0 → ⊥) → first_wrong i (drop i xs) (drop i ys) ≡ Some i
first_wrong_here i xs ys in_xs in_ys differ = (λ j. first_wrong i (drop_more xs i 0 in_xs j) (drop_more ys i 0 in_ys j)) ∙ step (get_or xs i 0) (get_or ys i 0) differ
  where
    step : (x y : ℕ) → (x ≡ y → ⊥) → first_wrong i (x ∷ drop (i + 1) xs) (y ∷ drop (i + 1) ys) ≡ Some i
    step x y differ = grind (arith, nat_tests)

-- the first refusal of a head
module _ (size : ℕ) (head : List ℕ) where
  pub told_short : size < 16384 → sizes_told size head ≡ Err (Damaged size)
  unfolding sizes_told
  told_short short = ap (λ (b : Bool). if b then Err (Damaged size) else named) (lt_true size 16384 short)
    where
      named : Result (List ℕ) OpenError
      named = unless_wrong (first_wrong 0 format_name (part 0 8 head)) (
          if word32 8 head == 1 then (
          if nat_le (word32 12 head) 16
          then if_ok (sizes_from 16 50331648 (word32 12 head) head)
          (λ sizes. if size == 16384 + total sizes then Ok sizes else Err (Damaged (min size (16384 + total sizes))))
          else Err (Damaged 12))
          else Err (Version (word32 8 head)))

  module _ (long : 16384 ≤ size) where
    abbrev by_sizes : Result (List ℕ) OpenError → Result (List ℕ) OpenError
    by_sizes told = if_ok told (λ sizes. if size == 16384 + total sizes then Ok sizes else Err (Damaged (min size (16384 + total sizes))))

    abbrev by_count : Bool → Result (List ℕ) OpenError
    by_count b = if b then by_sizes (sizes_from 16 50331648 (word32 12 head) head) else Err (Damaged 12)

    abbrev by_version : Bool → Result (List ℕ) OpenError
    by_version b = if b then by_count (nat_le (word32 12 head) 16) else Err (Version (word32 8 head))

    by_name : sizes_told size head ≡ unless_wrong (first_wrong 0 format_name (part 0 8 head)) (by_version (word32 8 head == 1))
    unfolding sizes_told
    by_name = ap (λ (b : Bool). if b then Err (Damaged size) else unless_wrong (first_wrong 0 format_name (part 0 8 head)) (by_version (word32 8 head == 1))) (lt_false size 16384 long)

    pub told_wrong : (place : ℕ) → first_wrong 0 format_name (part 0 8 head) ≡ Some place → sizes_told size head ≡ Err (Damaged place)
    told_wrong place wrong = by_name ∙ ap (λ o. unless_wrong o (by_version (word32 8 head == 1))) wrong

    module _ (right : first_wrong 0 format_name (part 0 8 head) ≡ None) where
      named : sizes_told size head ≡ by_version (word32 8 head == 1)
      named = by_name ∙ ap (λ o. unless_wrong o (by_version (word32 8 head == 1))) right

      pub told_version : (word32 8 head ≡ 1 → ⊥) → sizes_told size head ≡ Err (Version (word32 8 head))
      told_version other = named ∙ ap by_version (eq_false (word32 8 head) 1 other)

      module _ (one : word32 8 head ≡ 1) where
        counted : sizes_told size head ≡ by_count (nat_le (word32 12 head) 16)
        counted = named ∙ ap by_version (eq_true (word32 8 head) 1 one)

        pub told_count : 16 < word32 12 head → sizes_told size head ≡ Err (Damaged 12)
        told_count many = counted ∙ ap by_count (le_false (word32 12 head) 16 many)

        module _ (few : word32 12 head ≤ 16) where
          sized : sizes_told size head ≡ by_sizes (sizes_from 16 50331648 (word32 12 head) head)
          sized = counted ∙ ap by_count (le_true (word32 12 head) 16 few)

          pub told_size : (error : OpenError) → sizes_from 16 50331648 (word32 12 head) head ≡ Err error → sizes_told size head ≡ Err error
          told_size error refused = sized ∙ ap by_sizes refused

          pub told_other : (sizes : List ℕ) → sizes_from 16 50331648 (word32 12 head) head ≡ Ok sizes → (size ≡ 16384 + total sizes → ⊥) → sizes_told size head ≡ Err (Damaged (min size (16384 + total sizes)))
          told_other sizes told other = sized ∙ ap by_sizes told ∙ ap (λ (b : Bool). if b then Ok sizes else Err (Damaged (min size (16384 + total sizes)))) (eq_false size (16384 + total sizes) other)

          pub told_whole : (sizes : List ℕ) → sizes_from 16 50331648 (word32 12 head) head ≡ Ok sizes → size ≡ 16384 + total sizes → sizes_told size head ≡ Ok sizes
          told_whole sizes told same = sized ∙ ap by_sizes told ∙ ap (λ (b : Bool). if b then Ok sizes else Err (Damaged (min size (16384 + total sizes)))) (eq_true size (16384 + total sizes) same)

some_test_fails : (size room : ℕ) → (size ≡ 0) ⊎ (33554432 < size) ⊎ (room < rounded size) → (nat_lt 0 size && nat_le size 33554432 && nat_le (rounded size) room) ≡ false
some_test_fails size room (inl none) = grind (arith, nat_tests)
some_test_fails size room (inr (inl large)) = grind (arith, nat_tests)
some_test_fails size room (inr (inr past)) = grind (arith, nat_tests)

-- some sizes are read, and these come next
abbrev pub and_then : List ℕ → Result (List ℕ) OpenError → Result (List ℕ) OpenError
and_then done told = if_ok told (λ sizes. Ok (done ++ sizes))

module _ (done : List ℕ) (place room count : ℕ) (head : List ℕ) where
  pub sizes_next : 0 < count → 0 < word64 place head → word64 place head ≤ 33554432 → rounded (word64 place head) ≤ room
      → and_then done (sizes_from place room count head) ≡ and_then (done ++ word64 place head ∷ []) (sizes_from (place + 8) (room - rounded (word64 place head)) (count - 1) head)
  sizes_next more some small fits = ap (and_then done) (step count more) ∙ regroup (sizes_from (place + 8) (room - rounded (word64 place head)) (count - 1) head)
    where
      step : (n : ℕ) → 0 < n → sizes_from place room n head ≡ if_ok (sizes_from (place + 8) (room - rounded (word64 place head)) (n - 1) head) (λ sizes. Ok (word64 place head ∷ sizes))
      step zero none = absurd (omega (arith, none))
      step (suc n) next =
          let one_less : n ≡ suc n - 1 = omega arith in
          ap (λ (b : Bool). if b then if_ok (sizes_from (place + 8) (room - rounded (word64 place head)) n head) (λ sizes. Ok (word64 place head ∷ sizes)) else Err (Damaged place))
          (λ i. lt_true 0 (word64 place head) some i && le_true (word64 place head) 33554432 small i && le_true (rounded (word64 place head)) room fits i)
          ∙ ap (λ (m : ℕ). if_ok (sizes_from (place + 8) (room - rounded (word64 place head)) m head) (λ sizes. Ok (word64 place head ∷ sizes))) one_less

      regroup : (told : Result (List ℕ) OpenError) → and_then done (if_ok told (λ sizes. Ok (word64 place head ∷ sizes))) ≡ and_then (done ++ word64 place head ∷ []) told
      regroup (Ok sizes) = ap Ok (sym (append_assoc done (word64 place head ∷ []) sizes))
      regroup (Err error) = refl

  pub sizes_bad : 0 < count → (word64 place head ≡ 0) ⊎ (33554432 < word64 place head) ⊎ (room < rounded (word64 place head)) → and_then done (sizes_from place room count head) ≡ Err (Damaged place)
  sizes_bad more bad = ap (and_then done) (step count more)
    where
      step : (n : ℕ) → 0 < n → sizes_from place room n head ≡ Err (Damaged place)
      step zero none = absurd (omega (arith, none))
      step (suc n) next = ap (λ (b : Bool). if b then if_ok (sizes_from (place + 8) (room - rounded (word64 place head)) n head) (λ sizes. Ok (word64 place head ∷ sizes)) else Err (Damaged place)) (some_test_fails (word64 place head) room bad)

pub total-push : (sizes : List ℕ) (size : ℕ) → total (sizes ++ size ∷ []) ≡ total sizes + rounded size
total-push [] size = omega arith
total-push (s ∷ sizes) size = omega (arith, total-push sizes size)

pub each_push : (sizes : List ℕ) (size : ℕ) → ((file : ℕ) → file < length sizes → (0 < get_or sizes file 0) × (get_or sizes file 0 ≤ 33554432)) → 0 < size → size ≤ 33554432
    → (file : ℕ) → file < length (sizes ++ size ∷ []) → (0 < get_or (sizes ++ size ∷ []) file 0) × (get_or (sizes ++ size ∷ []) file 0 ≤ 33554432)
each_push sizes size each some small file below = elim (cases_lt file (length sizes)) [
  | inl old ↦
      let same = get_or_append_left sizes (size ∷ []) 0 file old in
      (omega (arith, same, (each file old).0), omega (arith, same, (each file old).1))
  | inr new ↦
      let same = get_or_push sizes size 0 file (omega (arith, new, below, length_push sizes size)) in
      (omega (arith, same, some), omega (arith, same, small))
]

pub home_of_end : (base : ℕ) (sizes : List ℕ) (file : ℕ) → length sizes ≤ file → home_of base sizes file ≡ base + total sizes
home_of_end base [] file past = omega arith
home_of_end base (size ∷ sizes) zero past = absurd (omega (arith, past))
home_of_end base (size ∷ sizes) (suc file) past = omega (arith, home_of_end (base + rounded size) sizes file (omega (arith, past)))
