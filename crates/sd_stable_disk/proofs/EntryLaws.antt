-- What the head of a journal tells, and what was put there.
use Rattle.std.proofs.Common.{◌≡◌, ◌⊎◌, inl, inr, ⊎_elim, ℕ, ◌+◌, ◌-◌, ◌<◌, ◌≤◌, List, [], ◌++◌, length, get_or, take, replicate, refl, sym, ◌∙◌, ap, arith, length-append, append_assoc, Ok, Err}
use Rattle.std.proofs.lemmas.Bool.{cases_lt}
use Rattle.std.proofs.lemmas.Bool.Decides.{nat_tests}
use Rattle.std.proofs.lemmas.List.{take_at, drop_at, get_or_append_left, get_or-append_right, same_lists, length-replicate, append-nil}
use Rattle.std.proofs.lemmas.Nat.{from_be_bytes-to_be_bytes_4, from_be_bytes-to_be_bytes_8}
use Rattle.std.specs.Prelude.{◌^◌}
use Rattle.std.specs.Int.{w32, w64, to_be_bytes, from_be_bytes}
use Rattle.sd_outside.specs.Ranges.{part, put}
use Rattle.sd_outside.proofs.RangeLaws.{length-part, length-put, get_or-part, get_or-put, get_or-put_below}
use Rattle.sd_stable_disk.specs.Image.{word32, word64, entry_told, entry_bytes}
use Rattle.sd_stable_disk.specs.declared.errors.OpenError.TheVariants.{Damaged}

module _ (sizes head : List ℕ) where
  pub entry_no_file : length sizes ≤ word32 0 head → entry_told sizes head ≡ Err (Damaged 1024)
  unfolding entry_told
  entry_no_file none = grind (arith, nat_tests)

  pub entry_bad_len : word32 0 head < length sizes → (word32 4 head ≡ 0) ⊎ (8192 < word32 4 head) → entry_told sizes head ≡ Err (Damaged 1028)
  unfolding entry_told
  entry_bad_len file (inl none) = grind (arith, nat_tests)
  entry_bad_len file (inr long) = grind (arith, nat_tests)

  pub entry_past_end : word32 0 head < length sizes → 0 < word32 4 head → word32 4 head ≤ 8192 → get_or sizes (word32 0 head) 0 < word64 8 head + word32 4 head → entry_told sizes head ≡ Err (Damaged 1032)
  unfolding entry_told
  entry_past_end file some short past = grind (arith, nat_tests)

  pub entry_fits : word32 0 head < length sizes → 0 < word32 4 head → word32 4 head ≤ 8192 → word64 8 head + word32 4 head ≤ get_or sizes (word32 0 head) 0
      → entry_told sizes head ≡ Ok (record { file = word32 0 head; at = word64 8 head; len = word32 4 head })
  unfolding entry_told
  entry_fits file some short fits = grind (arith, nat_tests)

-- the front of what was written over
pub front_put : {A : Type 0} (n m : ℕ) (ys xs : List A) → m ≡ n + length ys → m ≤ length xs → part 0 m (put n ys xs) ≡ part 0 n xs ++ ys
front_put n m ys xs size fits =
    let whole : n + length ys ≤ length xs = omega (arith, size, fits) in
    let left : length (part 0 m (put n ys xs)) ≡ m = length-part 0 m (put n ys xs) (omega (arith, length-put n ys xs whole, fits)) in
    let front : length (part 0 n xs) ≡ n = length-part 0 n xs (omega (arith, whole)) in
    same_lists _ _ (left ∙ size ∙ (λ i. sym front i + length ys) ∙ sym (length-append (part 0 n xs) ys)) (λ k d below.
    let near : k < m = omega (arith, left, below) in
    get_or-part 0 m (put n ys xs) k d near
    ∙ (let zero_first : 0 + k ≡ k = omega arith in ap (λ (i : ℕ). get_or (put n ys xs) i d) zero_first)
    ∙ ⊎_elim
    (λ (low : k < n).
    get_or-put_below n ys xs k d (omega (arith, whole)) low
    ∙ sym (get_or_append_left (part 0 n xs) ys d k (omega (arith, front, low)) ∙ get_or-part 0 n xs k d low ∙ (let zero_first : 0 + k ≡ k = omega arith in ap (λ (i : ℕ). get_or xs i d) zero_first)))
    (λ (high : n ≤ k).
    let here : k ≡ n + (k - n) = omega (arith, high) in
    ap (λ (i : ℕ). get_or (put n ys xs) i d) here
    ∙ get_or-put n ys xs (k - n) d (omega (arith, whole)) (omega (arith, near, size, high))
    ∙ sym (get_or-append_right (part 0 n xs) ys n k d front high))
    (cases_lt k n))

nothing_first : (xs f : List ℕ) → part 0 0 xs ++ f ≡ f
unfolding part
nothing_first xs f = refl

-- five parts, one after another
pub filled : (xs f l a z bytes : List ℕ) → length f ≡ 4 → length l ≡ 4 → length a ≡ 8 → length z ≡ 48 → 64 + length bytes ≤ length xs
    → part 0 (64 + length bytes) (put 64 bytes (put 16 z (put 8 a (put 4 l (put 0 f xs))))) ≡ f ++ l ++ a ++ z ++ bytes
filled xs f l a z bytes f_size l_size a_size z_size fits =
    let one = put 0 f xs in
    let two = put 4 l one in
    let three = put 8 a two in
    let four = put 16 z three in
    let one_size : length one ≡ length xs = length-put 0 f xs (omega (arith, f_size, fits)) in
    let two_size : length two ≡ length xs = length-put 4 l one (omega (arith, l_size, one_size, fits)) ∙ one_size in
    let three_size : length three ≡ length xs = length-put 8 a two (omega (arith, a_size, two_size, fits)) ∙ two_size in
    let four_size : length four ≡ length xs = length-put 16 z three (omega (arith, z_size, three_size, fits)) ∙ three_size in
    front_put 64 (64 + length bytes) bytes four (omega arith) (omega (arith, four_size, fits))
    ∙ ap (λ (s : List ℕ). s ++ bytes) (
    front_put 16 64 z three (omega (arith, z_size)) (omega (arith, three_size, fits))
    ∙ ap (λ (s : List ℕ). s ++ z) (
    front_put 8 16 a two (omega (arith, a_size)) (omega (arith, two_size, fits))
    ∙ ap (λ (s : List ℕ). s ++ a) (
    front_put 4 8 l one (omega (arith, l_size)) (omega (arith, one_size, fits))
    ∙ ap (λ (s : List ℕ). s ++ l) (front_put 0 4 f xs (omega (arith, f_size)) (omega (arith, fits)) ∙ nothing_first xs f))))

pub length-bytes32 : (n : ℕ) → length (to_be_bytes w32 n) ≡ 4
length-bytes32 n = refl

pub length-bytes64 : (n : ℕ) → length (to_be_bytes w64 n) ≡ 8
length-bytes64 n = refl

-- a part behind a front, and one of a part
pub part_behind : {A : Type 0} (n m : ℕ) (xs ys zs : List A) → length xs ≡ n → length ys ≡ m → part n m (xs ++ (ys ++ zs)) ≡ ys
unfolding part
part_behind n m xs ys zs xs_size ys_size = ap (take m) (drop_at xs (ys ++ zs) n xs_size) ∙ take_at ys zs m ys_size

pub part-part : {A : Type 0} (base size at n : ℕ) (xs : List A) → at + n ≤ size → base + size ≤ length xs → part at n (part base size xs) ≡ part (base + at) n xs
part-part base size at n xs inside whole =
    let long : length (part base size xs) ≡ size = length-part base size xs whole in
    let left : length (part at n (part base size xs)) ≡ n = length-part at n (part base size xs) (omega (arith, long, inside)) in
    let right : length (part (base + at) n xs) ≡ n = length-part (base + at) n xs (omega arith) in
    same_lists _ _ (left ∙ sym right) (λ k d below.
    let near : k < n = omega (arith, left, below) in
    get_or-part at n (part base size xs) k d near ∙ get_or-part base size xs (at + k) d (omega (arith, near, inside))
    ∙ (let there : base + (at + k) ≡ (base + at) + k = omega arith in ap (λ (i : ℕ). get_or xs i d) there)
    ∙ sym (get_or-part (base + at) n xs k d near))

pub word32_front : (from : ℕ) (xs : List ℕ) → from + 4 ≤ 16 → 16 ≤ length xs → word32 from (part 0 16 xs) ≡ word32 from xs
unfolding word32
word32_front from xs inside long = ap (from_be_bytes w32) (part-part 0 16 from 4 xs inside (omega arith) ∙ (let same : 0 + from ≡ from = omega arith in ap (λ (n : ℕ). part n 4 xs) same))

pub word64_front : (from : ℕ) (xs : List ℕ) → from + 8 ≤ 16 → 16 ≤ length xs → word64 from (part 0 16 xs) ≡ word64 from xs
unfolding word64
word64_front from xs inside long = ap (from_be_bytes w64) (part-part 0 16 from 8 xs inside (omega arith) ∙ (let same : 0 + from ≡ from = omega arith in ap (λ (n : ℕ). part n 8 xs) same))

-- what a filled journal tells
module _ (file at : ℕ) (bytes : List ℕ) where
  abbrev head : List ℕ
  head = entry_bytes file at bytes

  regrouped : entry_bytes file at bytes ≡ to_be_bytes w32 file ++ (to_be_bytes w32 (length bytes) ++ (to_be_bytes w64 at ++ (replicate 48 0 ++ bytes)))
  regrouped = append_assoc (to_be_bytes w32 file ++ to_be_bytes w32 (length bytes) ++ to_be_bytes w64 at) (replicate 48 0) bytes
      ∙ append_assoc (to_be_bytes w32 file ++ to_be_bytes w32 (length bytes)) (to_be_bytes w64 at) (replicate 48 0 ++ bytes)
      ∙ append_assoc (to_be_bytes w32 file) (to_be_bytes w32 (length bytes)) (to_be_bytes w64 at ++ (replicate 48 0 ++ bytes))

  pub length-entry_bytes : length (entry_bytes file at bytes) ≡ 64 + length bytes
  length-entry_bytes =
      let rest = replicate 48 0 ++ bytes in
      omega (
        arith,
        ap length regrouped,
        length-append (to_be_bytes w32 file) (to_be_bytes w32 (length bytes) ++ (to_be_bytes w64 at ++ rest)),
        length-append (to_be_bytes w32 (length bytes)) (to_be_bytes w64 at ++ rest),
        length-append (to_be_bytes w64 at) rest,
        length-append (replicate 48 0) bytes,
        length-bytes32 file,
        length-bytes32 (length bytes),
        length-bytes64 at,
        length-replicate {A = ℕ} 48 0,
      )

  pub told_file : file < 2 ^ 32 → word32 0 (entry_bytes file at bytes) ≡ file
  unfolding word32
  told_file small = ap (from_be_bytes w32) (ap (part 0 4) regrouped ∙ part_behind 0 4 [] (to_be_bytes w32 file) (to_be_bytes w32 (length bytes) ++ (to_be_bytes w64 at ++ (replicate 48 0 ++ bytes))) refl refl)
      ∙ from_be_bytes-to_be_bytes_4 file small

  pub told_len : length bytes < 2 ^ 32 → word32 4 (entry_bytes file at bytes) ≡ length bytes
  unfolding word32
  told_len small = ap (from_be_bytes w32) (ap (part 4 4) regrouped ∙ part_behind 4 4 (to_be_bytes w32 file) (to_be_bytes w32 (length bytes)) (to_be_bytes w64 at ++ (replicate 48 0 ++ bytes)) refl refl)
      ∙ from_be_bytes-to_be_bytes_4 (length bytes) small

  pub told_at : at < 2 ^ 64 → word64 8 (entry_bytes file at bytes) ≡ at
  unfolding word64
  told_at small = ap (from_be_bytes w64) (
      ap (part 8 8) (regrouped ∙ sym (append_assoc (to_be_bytes w32 file) (to_be_bytes w32 (length bytes)) (to_be_bytes w64 at ++ (replicate 48 0 ++ bytes))))
      ∙ part_behind 8 8 (to_be_bytes w32 file ++ to_be_bytes w32 (length bytes)) (to_be_bytes w64 at) (replicate 48 0 ++ bytes) refl refl)
      ∙ from_be_bytes-to_be_bytes_8 at small

  pub told_bytes : part 64 (length bytes) (entry_bytes file at bytes) ≡ bytes
  told_bytes = ap (part 64 (length bytes)) (sym (ap (λ (l : List ℕ). (to_be_bytes w32 file ++ to_be_bytes w32 (length bytes) ++ to_be_bytes w64 at ++ replicate 48 0) ++ l) (append_nothing bytes)))
      ∙ part_behind 64 (length bytes) (to_be_bytes w32 file ++ to_be_bytes w32 (length bytes) ++ to_be_bytes w64 at ++ replicate 48 0) bytes [] refl refl
    where
      append_nothing : (l : List ℕ) → l ++ [] ≡ l
      append_nothing l = append-nil l
