-- A new image opens as files of zeros.
use Rattle.std.proofs.Common.{◌≡◌, ℕ, zero, suc, ◌+◌, ◌-◌, ◌*◌, ◌<◌, ◌≤◌, List, [], ◌∷◌, ◌++◌, length, get_or, replicate, refl, sym, ◌∙◌, ap, arith, length-append, append_assoc, Bool, false, Result, Ok, Err}
use Rattle.std.proofs.lemmas.List.{length-replicate, get_or-append_right, get_or-replicate, same_lists}
use Rattle.std.proofs.lemmas.Nat.{from_be_bytes-to_be_bytes_4, from_be_bytes-to_be_bytes_8}
use Rattle.std.specs.Prelude.{None, if◌then◌else◌, ◌==◌, ◌&&◌, slice_index}
use Rattle.std.specs.List.{flat_map}
use Rattle.std.specs.Int.{w32, w64, to_be_bytes, from_be_bytes}
use Rattle.sd_outside.specs.Ranges.{part}
use Rattle.sd_outside.proofs.RangeLaws.{length-part, get_or-part}
use Rattle.sd_stable_disk.specs.Image.{format_name, word32, word64, rounded, total, first_wrong, sizes_from, sizes_told, if_ok, homes, is_open, opens, new_image, zero_files, AreSizes}
use Rattle.sd_stable_disk.specs.declared.errors.OpenError.{OpenError}
use Rattle.sd_stable_disk.specs.declared.errors.OpenError.TheVariants.{Damaged}
use Rattle.sd_stable_disk.proofs.EntryLaws.{part_behind, part-part, length-bytes64}
use Rattle.sd_stable_disk.proofs.HeadLaws.{rounded_more, told_whole, lt_true, le_true}
use Rattle.sd_stable_disk.proofs.CrashLaws.{opens_shut}

length-sizes : (sizes : List ℕ) → length (flat_map (to_be_bytes w64) sizes) ≡ 8 * length sizes
length-sizes [] = refl
length-sizes (size ∷ sizes) = omega (arith, length-append (to_be_bytes w64 size) (flat_map (to_be_bytes w64) sizes), length-bytes64 size, length-sizes sizes)

-- zeros behind a head
part_zeros : (head : List ℕ) (m at n : ℕ) → length head ≤ at → at + n ≤ length head + m → part at n (head ++ replicate m 0) ≡ replicate n 0
part_zeros head m at n behind within =
    let all : length (head ++ replicate m 0) ≡ length head + m = omega (arith, length-append head (replicate m 0), length-replicate {A = ℕ} m 0) in
    let left : length (part at n (head ++ replicate m 0)) ≡ n = length-part at n (head ++ replicate m 0) (omega (arith, all, within)) in
    same_lists _ _ (left ∙ sym (length-replicate {A = ℕ} n 0)) (λ k d below.
    let near : k < n = omega (arith, left, below) in
    get_or-part at n (head ++ replicate m 0) k d near
    ∙ get_or-append_right head (replicate m 0) (length head) (at + k) d refl (omega (arith, behind))
    ∙ get_or-replicate m ((at + k) - length head) 0 d (omega (arith, near, behind, within))
    ∙ sym (get_or-replicate n k 0 d near))

-- the k-th of the sizes
part_sizes : (n : ℕ) (front sizes rest : List ℕ) (i : ℕ) → length front ≡ n → i < length sizes → part (n + 8 * i) 8 (front ++ (flat_map (to_be_bytes w64) sizes ++ rest)) ≡ to_be_bytes w64 (get_or sizes i 0)
part_sizes n front [] rest i size below = absurd (omega arith)
part_sizes n front (s ∷ sizes) rest zero size below =
    let same : n + 8 * 0 ≡ n = omega arith in
    ap (λ (m : ℕ). part m 8 (front ++ (flat_map (to_be_bytes w64) (s ∷ sizes) ++ rest))) same
    ∙ ap (λ (l : List ℕ). part n 8 (front ++ l)) (append_assoc (to_be_bytes w64 s) (flat_map (to_be_bytes w64) sizes) rest)
    ∙ part_behind n 8 front (to_be_bytes w64 s) (flat_map (to_be_bytes w64) sizes ++ rest) size (length-bytes64 s)
part_sizes n front (s ∷ sizes) rest (suc i) size below =
    let same : n + 8 * suc i ≡ (n + 8) + 8 * i = omega arith in
    let more : length (front ++ to_be_bytes w64 s) ≡ n + 8 = omega (arith, length-append front (to_be_bytes w64 s), length-bytes64 s, size) in
    ap (λ (m : ℕ). part m 8 (front ++ (flat_map (to_be_bytes w64) (s ∷ sizes) ++ rest))) same
    ∙ ap (part ((n + 8) + 8 * i) 8) (ap (λ (l : List ℕ). front ++ l) (append_assoc (to_be_bytes w64 s) (flat_map (to_be_bytes w64) sizes) rest) ∙ sym (append_assoc front (to_be_bytes w64 s) (flat_map (to_be_bytes w64) sizes ++ rest)))
    ∙ part_sizes (n + 8) (front ++ to_be_bytes w64 s) sizes rest i more (omega (arith, below))

-- sizes that stand in a head
all_read : (place room : ℕ) (sizes head : List ℕ) → ((i : ℕ) → i < length sizes → word64 (place + 8 * i) head ≡ get_or sizes i 0)
    → ((i : ℕ) → i < length sizes → (0 < get_or sizes i 0) × (get_or sizes i 0 ≤ 33554432)) → total sizes ≤ room → sizes_from place room (length sizes) head ≡ Ok sizes
all_read place room [] head read each fits = refl
all_read place room (s ∷ sizes) head read each fits =
    let first_place : place + 8 * 0 ≡ place = omega arith in
    let first : word64 place head ≡ s = ap (λ (m : ℕ). word64 m head) (sym first_place) ∙ read 0 (omega arith) in
    let ok = each 0 (omega arith) in
    let some : 0 < word64 place head = omega (arith, first, ok.0) in
    let small : word64 place head ≤ 33554432 = omega (arith, first, ok.1) in
    let within : rounded (word64 place head) ≤ room = omega (arith, ap rounded first, fits) in
    let others = all_read (place + 8) (room - rounded (word64 place head)) sizes head
    (λ i below. let there : (place + 8) + 8 * i ≡ place + 8 * suc i = omega arith in ap (λ (m : ℕ). word64 m head) there ∙ read (suc i) (omega (arith, below)))
    (λ i below. each (suc i) (omega (arith, below)))
    (omega (arith, ap rounded first, fits)) in
    ap (λ (b : Bool). if b then if_ok (sizes_from (place + 8) (room - rounded (word64 place head)) (length sizes) head) (λ rest. Ok (word64 place head ∷ rest)) else Err (Damaged place))
    (λ i. lt_true 0 (word64 place head) some i && le_true (word64 place head) 33554432 small i && le_true (rounded (word64 place head)) room within i)
    ∙ ap (λ (r : Result (List ℕ) OpenError). if_ok r (λ rest. Ok (word64 place head ∷ rest))) others
    ∙ ap (λ (w : ℕ). Ok (w ∷ sizes)) first

zero_homes : (head : List ℕ) (m base : ℕ) (sizes : List ℕ) → length head ≤ base → base + total sizes ≤ length head + m → homes base sizes (head ++ replicate m 0) ≡ zero_files sizes
zero_homes head m base [] behind fits = refl
zero_homes head m base (s ∷ sizes) behind fits = λ i.
    part_zeros head m base s behind (omega (arith, fits, rounded_more s)) i ∷ zero_homes head m (base + rounded s) sizes (omega (arith, behind)) (omega (arith, fits)) i

module _ (sizes : List ℕ) (fit : AreSizes sizes) where
  abbrev top : List ℕ
  top = format_name ++ to_be_bytes w32 1 ++ to_be_bytes w32 (length sizes) ++ flat_map (to_be_bytes w64) sizes

  abbrev zeros : List ℕ
  zeros = replicate (16384 + total sizes - length (format_name ++ to_be_bytes w32 1 ++ to_be_bytes w32 (length sizes) ++ flat_map (to_be_bytes w64) sizes)) 0

  pub length-top : length (format_name ++ to_be_bytes w32 1 ++ to_be_bytes w32 (length sizes) ++ flat_map (to_be_bytes w64) sizes) ≡ 16 + 8 * length sizes
  length-top = omega (arith, length-append (format_name ++ to_be_bytes w32 1 ++ to_be_bytes w32 (length sizes)) (flat_map (to_be_bytes w64) sizes), length-sizes sizes)

  length-image : length (new_image sizes) ≡ 16384 + total sizes
  length-image = omega (arith, length-append top zeros, length-top, fit.few, length-replicate {A = ℕ} (16384 + total sizes - length top) 0)

  regrouped : new_image sizes ≡ format_name ++ (to_be_bytes w32 1 ++ (to_be_bytes w32 (length sizes) ++ (flat_map (to_be_bytes w64) sizes ++ zeros)))
  regrouped = append_assoc (format_name ++ to_be_bytes w32 1 ++ to_be_bytes w32 (length sizes)) (flat_map (to_be_bytes w64) sizes) zeros
      ∙ append_assoc (format_name ++ to_be_bytes w32 1) (to_be_bytes w32 (length sizes)) (flat_map (to_be_bytes w64) sizes ++ zeros)
      ∙ append_assoc format_name (to_be_bytes w32 1) (to_be_bytes w32 (length sizes) ++ (flat_map (to_be_bytes w64) sizes ++ zeros))

  in_head : (at n : ℕ) → at + n ≤ 512 → part at n (part 0 512 (new_image sizes)) ≡ part at n (new_image sizes)
  in_head at n within =
      let same : 0 + at ≡ at = omega arith in
      part-part 0 512 at n (new_image sizes) within (omega (arith, length-image)) ∙ ap (λ (m : ℕ). part m n (new_image sizes)) same

  name : first_wrong 0 format_name (part 0 8 (part 0 512 (new_image sizes))) ≡ None
  name = ap (first_wrong 0 format_name) (in_head 0 8 (omega arith) ∙ ap (part 0 8) regrouped ∙ part_behind 0 8 [] format_name (to_be_bytes w32 1 ++ (to_be_bytes w32 (length sizes) ++ (flat_map (to_be_bytes w64) sizes ++ zeros))) refl refl) ∙ refl

  version : word32 8 (part 0 512 (new_image sizes)) ≡ 1
  unfolding word32
  version = ap (from_be_bytes w32) (in_head 8 4 (omega arith) ∙ ap (part 8 4) regrouped ∙ part_behind 8 4 format_name (to_be_bytes w32 1) (to_be_bytes w32 (length sizes) ++ (flat_map (to_be_bytes w64) sizes ++ zeros)) refl refl) ∙ from_be_bytes-to_be_bytes_4 1 (omega arith)

  count : word32 12 (part 0 512 (new_image sizes)) ≡ length sizes
  unfolding word32
  count = ap (from_be_bytes w32) (in_head 12 4 (omega arith)
      ∙ ap (part 12 4) (regrouped ∙ sym (append_assoc format_name (to_be_bytes w32 1) (to_be_bytes w32 (length sizes) ++ (flat_map (to_be_bytes w64) sizes ++ zeros))))
      ∙ part_behind 12 4 (format_name ++ to_be_bytes w32 1) (to_be_bytes w32 (length sizes)) (flat_map (to_be_bytes w64) sizes ++ zeros) refl refl) ∙ from_be_bytes-to_be_bytes_4 (length sizes) (omega (arith, fit.few))

  read : (i : ℕ) → i < length sizes → word64 (16 + 8 * i) (part 0 512 (new_image sizes)) ≡ get_or sizes i 0
  unfolding word64
  read i below = ap (from_be_bytes w64) (in_head (16 + 8 * i) 8 (omega (arith, fit.few, below))
      ∙ ap (part (16 + 8 * i) 8) (append_assoc (format_name ++ to_be_bytes w32 1 ++ to_be_bytes w32 (length sizes)) (flat_map (to_be_bytes w64) sizes) zeros)
      ∙ part_sizes 16 (format_name ++ to_be_bytes w32 1 ++ to_be_bytes w32 (length sizes)) sizes zeros i refl below)
      ∙ from_be_bytes-to_be_bytes_8 (get_or sizes i 0) (omega (arith, (fit.each i below).1))

  told : sizes_told (length (new_image sizes)) (part 0 512 (new_image sizes)) ≡ Ok sizes
  told = told_whole (length (new_image sizes)) (part 0 512 (new_image sizes)) (omega (arith, length-image)) name version (omega (arith, count, fit.few)) sizes
      (ap (λ (n : ℕ). sizes_from 16 50331648 n (part 0 512 (new_image sizes))) count ∙ all_read 16 50331648 sizes (part 0 512 (new_image sizes)) read fit.each fit.room) length-image

  shut : is_open (new_image sizes) ≡ false
  shut = ap (λ (l : List ℕ). slice_index l 0 == 1) (part_zeros top (16384 + total sizes - length top) 512 1 (omega (arith, length-top, fit.few)) (omega (arith, length-top, fit.few))) ∙ refl

  pub opens_new : opens (new_image sizes) ≡ Ok (zero_files sizes)
  opens_new = opens_shut sizes (new_image sizes) told shut ∙ ap Ok (zero_homes top (16384 + total sizes - length top) 16384 sizes (omega (arith, length-top, fit.few)) (omega (arith, length-top, fit.few)))
