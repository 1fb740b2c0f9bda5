use Rattle.std.proofs.Common.{◌≡◌}
use Rattle.sd_show.specs.declared.procedures.Known.{Known}
use Rattle.sd_show.specs.Programs.{all_known, numbers}
use Rattle.sd_show.proofs.Names.{NoneBefore}
use Rattle.sd_show.proofs.procedures.known_by_numbers.Given as goal

abbrev pub invariant-loop-known : goal.invariant-loop-known
invariant-loop-known l = NoneBefore (λ (k : Known). numbers k ≡ l.fn.procedure) all_known l.known-index
