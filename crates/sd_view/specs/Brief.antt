-- Texts that are cut where they are too long, and filled up where they are too short. All are of printed characters of ASCII, each of
-- one byte and one column.
use Rattle.std.specs.Prelude.{ℕ, ◌-◌, nat_le, ◌++◌, length, take, map, replicate, codes, if◌then◌else◌}
use Rattle.std.specs.List.{join_with_byte}
use Rattle.sd_text.specs.Texts.{Text, fields}

-- at most so many columns; two dots say that something was cut
abbrev pub fit : ℕ → Text → Text
fit most text = if nat_le (length text) most then text else take (most - 2) text ++ codes ".."

-- Long byte runs are cut: a word of a text has at most 40 columns, and the text 120.
abbrev pub cut_words : Text → Text
cut_words text = join_with_byte 32 (map (λ word. fit 40 word) (fields text))

abbrev pub brief : Text → Text
brief text = fit 120 (cut_words text)

abbrev pub spaces : ℕ → Text
spaces n = replicate n 32

-- at least so many columns, with the text at their left or at their right
abbrev pub at_left : ℕ → Text → Text
at_left least text = text ++ spaces (least - length text)

abbrev pub at_right : ℕ → Text → Text
at_right least text = spaces (least - length text) ++ text
