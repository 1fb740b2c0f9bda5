use Rattle.std.proofs.Common.{◌≡◌, ◌&&◌, not, eqb, drop}
use Rattle.sd_text.specs.Kind.{all_pass}
use Rattle.sd_text.proofs.words.all_but.Given as goal

-- what was looked at and what is left is all
abbrev pub invariant-looking : goal.invariant-looking
invariant-looking l = (l.all && all_pass (λ b. not (eqb b l.byte)) (drop l.b-index l.text)) ≡ all_pass (λ b. not (eqb b l.byte)) l.text
