-- Fields that are written one behind the other.
use Rattle.std.proofs.Common.{◌≡◌, ℕ, ◌+◌, List, ◌++◌, length, take, drop, sym, ◌∙◌, ap, arith}
use Rattle.std.proofs.lemmas.List.{take_at, drop-drop, length-append}
use Rattle.std.proofs.Math.Seq.{drop-append_seam}

-- what stands before is kept, the field follows, and the rest loses as many bytes
pub record Follows (front field rest now : List ℕ) (at n : ℕ) : Type 0 where
  pub list : now ≡ front ++ field ++ drop n rest
  pub wide : length (front ++ field) ≡ at + n

pub follows : (front field rest old put now : List ℕ) (at n : ℕ) → length front ≡ at → put ≡ field → length field ≡ n → old ≡ front ++ rest
    → now ≡ take at old ++ put ++ drop (at + length put) old → Follows front field rest now at n
follows front field rest old put now at n front_wide same field_wide was is =
    let before : take at old ≡ front = ap (take at) was ∙ take_at front rest at front_wide in
    let seam : drop at (front ++ rest) ≡ rest = ap (λ (m : ℕ). drop m (front ++ rest)) (sym front_wide) ∙ drop-append_seam front rest in
    let wide : length put ≡ n = ap length same ∙ field_wide in
    let behind : drop (at + length put) old ≡ drop n rest =
    ap (λ (m : ℕ). drop (at + m) old) wide ∙ ap (drop (at + n)) was ∙ sym (drop-drop n at (front ++ rest)) ∙ ap (drop n) seam in
    record {
      list = is ∙ (λ i. before i ++ same i ++ behind i);
      wide = omega (arith, length-append front field, front_wide, field_wide);
    }
