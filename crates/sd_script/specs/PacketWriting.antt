-- Words for the functions that write record lines.
use Rattle.std.specs.Prelude.{ℕ, ◌∷◌, ◌++◌, [], codes}
use Rattle.std.specs.Fmt.{decimal}
use Rattle.sd_text.specs.Texts.{Text}

-- what stands before the packet in the record line of a send
abbrev pub head_of_sent : ℕ → ℕ → Text
head_of_sent tick id = codes "sent " ++ (decimal tick ++ (32 ∷ (decimal id ++ (32 ∷ []))))
