use Rattle.std.proofs.Common.{◌≡◌, ◌≤◌, ◌-◌, ◌++◌, length, take, drop}
use Rattle.sd_text.specs.Kind.{has}
use Rattle.sd_text.specs.Reading.{front, behind}
use Rattle.sd_text.proofs.words.front_len.Given as goal

-- what was counted and what is still counted is all
abbrev pub invariant-counting : goal.invariant-counting
invariant-counting l = record {
  fits : l.len ≤ length l.text;
  front : take l.len l.text ++ front (has l.class) (drop l.len l.text) ≡ front (has l.class) l.text;
  behind : behind (has l.class) (drop l.len l.text) ≡ behind (has l.class) l.text;
}

abbrev pub decreases-counting : goal.decreases-counting
decreases-counting l = length l.text - l.len
