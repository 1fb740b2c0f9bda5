-- What an image opens as, after it is torn or written.
use Rattle.std.proofs.Common.{◌≡◌, ◌⊎◌, inl, inr, ⊎_elim, ℕ, zero, suc, ◌+◌, ◌<◌, ◌≤◌, List, [], ◌∷◌, length, get_or, set, refl, sym, ◌∙◌, ap, arith}
use Rattle.std.proofs.lemmas.List.{set-set, get_or-set_same}
use Rattle.sd_outside.specs.Ranges.{part, put, Torn}
use Rattle.sd_outside.proofs.RangeLaws.{length-part, part-put_inside, part-torn, part-torn_inside, put-torn, put_torn}
use Rattle.sd_stable_disk.specs.Image.{homes, home_of, rounded, total, written}
use Rattle.sd_stable_disk.proofs.HeadLaws.{rounded_more, home_of_after, home_of_fits}

-- homes apart from what was torn
pub homes_apart : {at n : ℕ} {old new : List ℕ} → Torn at n old new → (base : ℕ) (sizes : List ℕ) → base + total sizes ≤ length old → (base + total sizes ≤ at) ⊎ (at + n ≤ base) → homes base sizes new ≡ homes base sizes old
homes_apart torn base [] fits apart = refl
homes_apart {at} {n} torn base (size ∷ sizes) fits apart = λ i.
    part-torn torn base size (omega (arith, fits, rounded_more size)) (⊎_elim (λ (low : base + (rounded size + total sizes) ≤ at). inl (omega (arith, low, rounded_more size))) (λ (high : at + n ≤ base). inr high) apart) i
    ∷ homes_apart torn (base + rounded size) sizes (omega (arith, fits)) (⊎_elim (λ (low : base + (rounded size + total sizes) ≤ at). inl (omega (arith, low))) (λ (high : at + n ≤ base). inr (omega (arith, high))) apart) i

-- one home torn
pub homes_torn : {n : ℕ} {old new : List ℕ} (base : ℕ) (sizes : List ℕ) (file at : ℕ) → file < length sizes → at + n ≤ get_or sizes file 0 → Torn (home_of base sizes file + at) n old new → base + total sizes ≤ length old
    → homes base sizes new ≡ set (homes base sizes old) file (part (home_of base sizes file) (get_or sizes file 0) new)
homes_torn base [] file at below inside torn fits = absurd (omega arith)
homes_torn {new = new} base (size ∷ sizes) zero at below inside torn fits = λ i.
    part base size new ∷ homes_apart torn (base + rounded size) sizes (omega (arith, fits)) (inr (omega (arith, inside, rounded_more size))) i
homes_torn base (size ∷ sizes) (suc file) at below inside torn fits = λ i.
    part-torn torn base size (omega (arith, fits, rounded_more size)) (inl (omega (arith, rounded_more size, home_of_after (base + rounded size) sizes file))) i
    ∷ homes_torn (base + rounded size) sizes file at (omega (arith, below)) inside torn (omega (arith, fits)) i

pub homes_at : (base : ℕ) (sizes : List ℕ) (file : ℕ) (image : List ℕ) → file < length sizes → get_or (homes base sizes image) file [] ≡ part (home_of base sizes file) (get_or sizes file 0) image
homes_at base [] file image below = absurd (omega arith)
homes_at base (size ∷ sizes) zero image below = refl
homes_at base (size ∷ sizes) (suc file) image below = homes_at (base + rounded size) sizes file image (omega (arith, below))

pub length-homes : (base : ℕ) (sizes image : List ℕ) → length (homes base sizes image) ≡ length sizes
length-homes base [] image = refl
length-homes base (size ∷ sizes) image = ap suc (length-homes (base + rounded size) sizes image)

module _ (sizes : List ℕ) (file at : ℕ) (bytes : List ℕ) (below : file < length sizes) (inside : at + length bytes ≤ get_or sizes file 0) where
  place : ℕ
  place = home_of 16384 sizes file

  size : ℕ
  size = get_or sizes file 0

  home_fits : (image : List ℕ) → 16384 + total sizes ≤ length image → home_of 16384 sizes file + get_or sizes file 0 ≤ length image
  home_fits image fits = omega (arith, fits, home_of_fits 16384 sizes file below, rounded_more (get_or sizes file 0))

  -- a write over a home that was torn in the same range
  pub written_torn : (old new : List ℕ) → 16384 + total sizes ≤ length old → Torn (home_of 16384 sizes file + at) (length bytes) old new → written file at bytes (homes 16384 sizes new) ≡ written file at bytes (homes 16384 sizes old)
  written_torn old new fits torn =
      let fs = homes 16384 sizes old in
      let there : file < length fs = omega (arith, below, length-homes 16384 sizes old) in
      let torn_home = homes_torn {n = length bytes} {old = old} {new = new} 16384 sizes file at below inside torn fits in
      let x = part (home_of 16384 sizes file) (get_or sizes file 0) new in
      let y = part (home_of 16384 sizes file) (get_or sizes file 0) old in
      let long : length y ≡ get_or sizes file 0 = length-part (home_of 16384 sizes file) (get_or sizes file 0) old (home_fits old fits) in
      let same : put at bytes x ≡ put at bytes y = put-torn at bytes (part-torn_inside (home_of 16384 sizes file) at torn (get_or sizes file 0) (home_fits old fits)) (omega (arith, long, inside)) in
      ap (written file at bytes) torn_home
      ∙ ap (λ (z : List ℕ). set (set fs file x) file (put at bytes z)) (get_or-set_same fs file x [] there)
      ∙ set-set fs file x (put at bytes x)
      ∙ ap (λ (z : List ℕ). set fs file z) (same ∙ ap (put at bytes) (sym (homes_at 16384 sizes file old below)))

  -- a write to a home
  pub homes-put : (image : List ℕ) → 16384 + total sizes ≤ length image → homes 16384 sizes (put (home_of 16384 sizes file + at) bytes image) ≡ written file at bytes (homes 16384 sizes image)
  homes-put image fits =
      let h = home_of 16384 sizes file in
      let s = get_or sizes file 0 in
      let whole = home_fits image fits in
      let torn = put_torn (h + at) bytes image (omega (arith, whole, inside)) in
      homes_torn {n = length bytes} {old = image} {new = put (h + at) bytes image} 16384 sizes file at below inside torn fits
      ∙ ap (λ (z : List ℕ). set (homes 16384 sizes image) file z) (part-put_inside h s at bytes image whole inside ∙ ap (put at bytes) (sym (homes_at 16384 sizes file image below)))

  -- a write that is there already
  pub written_again : (image : List ℕ) → 16384 + total sizes ≤ length image → written file at bytes (written file at bytes (homes 16384 sizes image)) ≡ written file at bytes (homes 16384 sizes image)
  written_again image fits =
      ap (written file at bytes) (sym (homes-put image fits))
      ∙ written_torn image (put (home_of 16384 sizes file + at) bytes image) fits (put_torn (home_of 16384 sizes file + at) bytes image (omega (arith, home_fits image fits, inside)))
