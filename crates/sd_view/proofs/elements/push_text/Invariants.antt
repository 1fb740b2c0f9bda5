use Rattle.std.proofs.Common.{◌≡◌, ◌++◌, take}
use Rattle.sd_view.specs.Picture.{escape}
use Rattle.sd_view.proofs.elements.push_text.Given as goal

abbrev pub invariant-loop-byte : goal.invariant-loop-byte
invariant-loop-byte l = l.out ≡ l.initial.out ++ escape (take l.byte-index l.text)
