use Rattle.std.proofs.Common.{◌≡◌}
use Rattle.sd_show.specs.declared.procedures.Known.{Known}
use Rattle.sd_show.specs.Programs.{all_known, known_text}
use Rattle.sd_show.proofs.Names.{NoneBefore}
use Rattle.sd_show.proofs.procedures.find_name.Given as goal

abbrev pub invariant-loop-known : goal.invariant-loop-known
invariant-loop-known l = NoneBefore (λ (k : Known). l.fn.text ≡ known_text k) all_known l.known-index
