use Rattle.std.proofs.Common.{◌≡◌, ◌+◌, ◌-◌, length}
use Rattle.sd_script.specs.Limits.{input_limit}
use Rattle.sd_outside.specs.Streams.{Gave}
use Rattle.sd_boot.proofs.input.read_all.Given as goal

abbrev pub invariant-reading : goal.invariant-reading
invariant-reading g l = record {
  gave : Gave (g.S.Source.left l.initial.source) (g.S.Source.left l.source) l.text;
  calm : g.S.Source.faults l.source ≡ g.S.Source.faults l.initial.source;
}

abbrev pub decreases-reading : goal.decreases-reading
decreases-reading g l = input_limit + 1 - length l.text
