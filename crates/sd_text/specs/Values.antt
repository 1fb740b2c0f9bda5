-- Words for the functions that read single values.
use Rattle.std.specs.Prelude.{◌≡◌, ◌≢◌, ℕ, ◌<◌, nat_le, ◌&&◌, ◌||◌, Bool, List, length, slice_index}
use Rattle.hex.specs.Hex.{encode_lower, IsBytes}
use Rattle.sd_text.specs.Texts.{Text}

-- the first byte is no `+`, and no zero before another byte
pub record BeginsPlain (text : Text) : Type 0 where
  pub sign : slice_index text 0 ≢ 43
  pub zero : slice_index text 0 ≡ 48 → length text ≡ 1

-- `0` to `9`, or `a` to `f`
abbrev pub is_lower_digit : ℕ → Bool
is_lower_digit b = (nat_le 48 b && nat_le b 57) || (nat_le 97 b && nat_le b 102)

-- digits in lower case that stand for some bytes
pub record IsPairs (text : Text) (bytes : List ℕ) : Type 0 where
  pub some : 0 < length bytes
  pub are : IsBytes bytes
  pub is : text ≡ encode_lower bytes
