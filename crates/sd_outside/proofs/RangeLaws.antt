-- Laws of ranges that are read and written over.
use Rattle.std.proofs.Common.{◌≡◌, ◌⊎◌, ⊎_elim, ℕ, ◌+◌, ◌-◌, ◌<◌, ◌≤◌, List, ◌++◌, length, get_or, take, drop, refl, sym, ◌∙◌, ap, arith, length-append, length-drop, append_assoc}
use Rattle.std.proofs.lemmas.List.{length-take-le, get_or_append_left, get_or-append_right, get_or-take, get_or-drop, same_lists, drop-drop, get_or_past, get_or_default, take_at}
use borrow.Rule.Slice.PartMut.{put_mid}
use Rattle.std.proofs.lemmas.Bool.{cases_lt}
use Rattle.sd_outside.specs.Ranges.{part, put, Torn}

module _ {A : Type 0} where
  pub length-part : (at n : ℕ) (xs : List A) → at + n ≤ length xs → length (part at n xs) ≡ n
  unfolding part
  length-part at n xs fits = length-take-le n (drop at xs) (omega (arith, length-drop at xs))

  pub get_or-part : (at n : ℕ) (xs : List A) (i : ℕ) (d : A) → i < n → get_or (part at n xs) i d ≡ get_or xs (at + i) d
  unfolding part
  get_or-part at n xs i d below = get_or-take n (drop at xs) i d below ∙ get_or-drop at xs i d

  pub length-put : (at : ℕ) (ys xs : List A) → at + length ys ≤ length xs → length (put at ys xs) ≡ length xs
  unfolding put
  length-put at ys xs fits =
      let front : length (take at xs) ≡ at = length-take-le at xs (omega arith) in
      omega (arith, front, length-append (take at xs ++ ys) (drop (at + length ys) xs), length-append (take at xs) ys, length-drop (at + length ys) xs)

  pub get_or-put_below : (at : ℕ) (ys xs : List A) (i : ℕ) (d : A) → at ≤ length xs → i < at → get_or (put at ys xs) i d ≡ get_or xs i d
  unfolding put
  get_or-put_below at ys xs i d fits below =
      let front : length (take at xs) ≡ at = length-take-le at xs fits in
      get_or_append_left (take at xs ++ ys) (drop (at + length ys) xs) d i (omega (arith, front, length-append (take at xs) ys))
      ∙ get_or_append_left (take at xs) ys d i (omega (arith, front))
      ∙ get_or-take at xs i d below

  pub get_or-put : (at : ℕ) (ys xs : List A) (i : ℕ) (d : A) → at ≤ length xs → i < length ys → get_or (put at ys xs) (at + i) d ≡ get_or ys i d
  unfolding put
  get_or-put at ys xs i d fits below =
      let front : length (take at xs) ≡ at = length-take-le at xs fits in
      let place : (at + i) - at ≡ i = omega arith in
      get_or_append_left (take at xs ++ ys) (drop (at + length ys) xs) d (at + i) (omega (arith, front, length-append (take at xs) ys))
      ∙ get_or-append_right (take at xs) ys at (at + i) d front (omega arith)
      ∙ ap (λ (k : ℕ). get_or ys k d) place

  pub get_or-put_above : (at : ℕ) (ys xs : List A) (i : ℕ) (d : A) → at + length ys ≤ length xs → at + length ys ≤ i → get_or (put at ys xs) i d ≡ get_or xs i d
  unfolding put
  get_or-put_above at ys xs i d fits above =
      let front : length (take at xs) ≡ at = length-take-le at xs (omega arith) in
      let place : (at + length ys) + (i - (at + length ys)) ≡ i = omega arith in
      get_or-append_right (take at xs ++ ys) (drop (at + length ys) xs) (at + length ys) i d (omega (arith, front, length-append (take at xs) ys)) above
      ∙ get_or-drop (at + length ys) xs (i - (at + length ys)) d
      ∙ ap (λ (k : ℕ). get_or xs k d) place

  -- a write over a range, read at the range
  pub part-put : (at : ℕ) (ys xs : List A) → at + length ys ≤ length xs → part at (length ys) (put at ys xs) ≡ ys
  part-put at ys xs fits =
      let long : length (part at (length ys) (put at ys xs)) ≡ length ys = length-part at (length ys) (put at ys xs) (omega (arith, fits, length-put at ys xs fits)) in
      same_lists _ _ long (λ k d below.
      let near : k < length ys = omega (arith, long, below) in
      get_or-part at (length ys) (put at ys xs) k d near ∙ get_or-put at ys xs k d (omega (arith, fits)) near)

  -- a write inside of a range, read at the whole range
  pub part-put_inside : (base size at : ℕ) (ys xs : List A) → base + size ≤ length xs → at + length ys ≤ size → part base size (put (base + at) ys xs) ≡ put at ys (part base size xs)
  part-put_inside base size at ys xs whole inside =
      let fits : (base + at) + length ys ≤ length xs = omega arith in
      let same_length : length (put (base + at) ys xs) ≡ length xs = length-put (base + at) ys xs fits in
      let left : length (part base size (put (base + at) ys xs)) ≡ size = length-part base size (put (base + at) ys xs) (omega arith) in
      let part_length : length (part base size xs) ≡ size = length-part base size xs whole in
      let right : length (put at ys (part base size xs)) ≡ size = length-put at ys (part base size xs) (omega arith) ∙ part_length in
      same_lists _ _ (left ∙ sym right) (λ k d below.
      let near : k < size = omega (arith, left, below) in
      get_or-part base size (put (base + at) ys xs) k d near ∙ ⊎_elim
      (λ (low : k < at).
      get_or-put_below (base + at) ys xs (base + k) d (omega arith) (omega (arith, low))
      ∙ sym (get_or-put_below at ys (part base size xs) k d (omega arith) low ∙ get_or-part base size xs k d near))
      (λ (high : at ≤ k). ⊎_elim
      (λ (inner : k - at < length ys).
      let there : base + k ≡ (base + at) + (k - at) = omega (arith, high) in
      let here : at + (k - at) ≡ k = omega (arith, high) in
      ap (λ (i : ℕ). get_or (put (base + at) ys xs) i d) there ∙ get_or-put (base + at) ys xs (k - at) d (omega arith) inner
      ∙ sym (ap (λ (i : ℕ). get_or (put at ys (part base size xs)) i d) (sym here) ∙ get_or-put at ys (part base size xs) (k - at) d (omega arith) inner))
      (λ (outer : length ys ≤ k - at).
      get_or-put_above (base + at) ys xs (base + k) d fits (omega (arith, outer, high))
      ∙ sym (get_or-put_above at ys (part base size xs) k d (omega arith) (omega (arith, outer, high)) ∙ get_or-part base size xs k d near))
      (cases_lt (k - at) (length ys)))
      (cases_lt k at))

pub put_torn : (at : ℕ) (ys xs : List ℕ) → at + length ys ≤ length xs → Torn at (length ys) xs (put at ys xs)
put_torn at ys xs fits = record {
  size = length-put at ys xs fits;
  below = λ i low. get_or-put_below at ys xs i 0 (omega arith) low;
  above = λ i high. get_or-put_above at ys xs i 0 fits high;
}

pub torn_nothing : (at n : ℕ) (xs : List ℕ) → Torn at n xs xs
torn_nothing at n xs = record { size = refl; below = λ i low. refl; above = λ i high. refl }

pub torn_again : {at n : ℕ} {xs ys zs : List ℕ} → Torn at n xs ys → Torn at n ys zs → Torn at n xs zs
torn_again first second = record {
  size = second.size ∙ first.size;
  below = λ i low. second.below i low ∙ first.below i low;
  above = λ i high. second.above i high ∙ first.above i high;
}

-- what stands apart from the torn range
pub part-torn : {at n : ℕ} {old new : List ℕ} → Torn at n old new → (from size : ℕ) → from + size ≤ length old → (from + size ≤ at) ⊎ (at + n ≤ from) → part from size new ≡ part from size old
part-torn {at} {n} {old} {new} torn from size fits apart =
    let left : length (part from size new) ≡ size = length-part from size new (omega (arith, torn.size, fits)) in
    let right : length (part from size old) ≡ size = length-part from size old fits in
    same_lists _ _ (left ∙ sym right) (λ k d below.
    let near : k < size = omega (arith, left, below) in
    let inside_new : from + k < length new = omega (arith, near, fits, torn.size) in
    let inside_old : from + k < length old = omega (arith, near, fits) in
    get_or-part from size new k d near
    ∙ get_or_default new (from + k) d 0 inside_new
    ∙ ⊎_elim
    (λ (low : from + size ≤ at). torn.below (from + k) (omega (arith, low, near)))
    (λ (high : at + n ≤ from). torn.above (from + k) (omega (arith, high)))
    apart
    ∙ get_or_default old (from + k) 0 d inside_old
    ∙ sym (get_or-part from size old k d near))

-- the torn range, seen inside of a larger one
pub part-torn_inside : (base at : ℕ) {n : ℕ} {old new : List ℕ} → Torn (base + at) n old new → (size : ℕ) → base + size ≤ length old → Torn at n (part base size old) (part base size new)
part-torn_inside base at {n} {old} {new} torn size fits =
    let left : length (part base size new) ≡ size = length-part base size new (omega (arith, torn.size, fits)) in
    let right : length (part base size old) ≡ size = length-part base size old fits in
    record {
      size = left ∙ sym right;
      below = λ i low. ⊎_elim
          (λ (near : i < size). get_or-part base size new i 0 near ∙ torn.below (base + i) (omega (arith, low)) ∙ sym (get_or-part base size old i 0 near))
          (λ (far : size ≤ i). get_or_past (part base size new) i 0 (omega (arith, left, far)) ∙ sym (get_or_past (part base size old) i 0 (omega (arith, right, far))))
          (cases_lt i size);
      above = λ i high. ⊎_elim
          (λ (near : i < size). get_or-part base size new i 0 near ∙ torn.above (base + i) (omega (arith, high)) ∙ sym (get_or-part base size old i 0 near))
          (λ (far : size ≤ i). get_or_past (part base size new) i 0 (omega (arith, left, far)) ∙ sym (get_or_past (part base size old) i 0 (omega (arith, right, far))))
          (cases_lt i size);
    }

-- a write over all that was torn
pub put-torn : (at : ℕ) (ys : List ℕ) {old new : List ℕ} → Torn at (length ys) old new → at + length ys ≤ length old → put at ys new ≡ put at ys old
put-torn at ys {old} {new} torn fits =
    let fits_new : at + length ys ≤ length new = omega (arith, torn.size, fits) in
    let left : length (put at ys new) ≡ length new = length-put at ys new fits_new in
    let right : length (put at ys old) ≡ length old = length-put at ys old fits in
    same_lists _ _ (left ∙ torn.size ∙ sym right) (λ k d below.
    let in_new : k < length new = omega (arith, left, below) in
    let in_old : k < length old = omega (arith, torn.size, in_new) in
    ⊎_elim
    (λ (low : k < at).
    get_or-put_below at ys new k d (omega arith) low ∙ get_or_default new k d 0 in_new ∙ torn.below k low ∙ get_or_default old k 0 d in_old
    ∙ sym (get_or-put_below at ys old k d (omega arith) low))
    (λ (high : at ≤ k). ⊎_elim
    (λ (inner : k - at < length ys).
    let here : k ≡ at + (k - at) = omega (arith, high) in
    ap (λ (i : ℕ). get_or (put at ys new) i d) here ∙ get_or-put at ys new (k - at) d (omega arith) inner
    ∙ sym (ap (λ (i : ℕ). get_or (put at ys old) i d) here ∙ get_or-put at ys old (k - at) d (omega arith) inner))
    (λ (outer : length ys ≤ k - at).
    get_or-put_above at ys new k d fits_new (omega (arith, outer, high)) ∙ get_or_default new k d 0 in_new ∙ torn.above k (omega (arith, outer, high)) ∙ get_or_default old k 0 d in_old
    ∙ sym (get_or-put_above at ys old k d fits (omega (arith, outer, high))))
    (cases_lt (k - at) (length ys)))
    (cases_lt k at))

-- what a write to `xs[at..at + k]` leaves
pub put_mid-put : {A : Type 0} (at k : ℕ) (xs ys zs : List A) → ys ≡ zs → k ≡ length zs → put_mid at k xs ys ≡ put at zs xs
unfolding put
put_mid-put {A = A} at k xs ys zs same size =
    ap (λ (l : List A). take at xs ++ (l ++ drop k (drop at xs))) same
    ∙ sym (append_assoc (take at xs) zs (drop k (drop at xs)))
    ∙ ap (λ (l : List A). take at xs ++ zs ++ l) (drop-drop k at xs ∙ ap (λ (n : ℕ). drop (at + n) xs) size)

-- a vector whose items were all written over
pub whole_vector : {A : Type 0} (len : ℕ) (xs ys : List A) → len ≡ length ys → take len (ys ++ drop (length ys) xs) ≡ ys
whole_vector len xs ys size = take_at ys (drop (length ys) xs) len (sym size)
