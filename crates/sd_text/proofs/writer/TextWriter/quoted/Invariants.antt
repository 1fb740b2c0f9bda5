use Rattle.std.proofs.Common.{◌≡◌, ◌++◌, ◌∷◌, [], map, drop}
use Rattle.std.specs.List.{concat}
use Rattle.sd_text.specs.Grammar.{escaped}
use Rattle.sd_text.proofs.writer.TextWriter.quoted.Given as goal

-- what was written and what is still written is all
abbrev pub invariant-loop-byte : goal.invariant-loop-byte
invariant-loop-byte l = l.self ++ (concat (map escaped (drop l.byte-index l.bytes)) ++ 34 ∷ []) ≡ l.fn.self ++ 34 ∷ (concat (map escaped l.bytes) ++ 34 ∷ [])
