-- A checksum, word by word.
use Rattle.std.proofs.Common.{◌≡◌, ℕ, ◌+◌, ◌*◌, ◌≤◌, List, [], ◌∷◌, length, get_or, drop, refl, arith}
use Rattle.std.specs.Prelude.{fold}
use Rattle.sd_view.specs.Internet.{ones_add, words_of}

-- the words of some bytes added to a sum
abbrev pub summed : ℕ → List ℕ → ℕ
summed sum bytes = fold ones_add sum (words_of bytes)

pub next_word : (sum : ℕ) (bytes : List ℕ) → 2 ≤ length bytes → summed sum bytes ≡ summed (ones_add sum (get_or bytes 0 0 * 256 + get_or bytes 1 0)) (drop 2 bytes)
next_word sum [] h = absurd (omega arith)
next_word sum (high ∷ []) h = absurd (omega arith)
next_word sum (high ∷ low ∷ bytes) h = refl
