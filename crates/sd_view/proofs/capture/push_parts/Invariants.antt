use Rattle.std.proofs.Common.{◌≡◌, ◌++◌, ◌-◌, length}
use Rattle.sd_view.specs.Internet.{parts_of}
use Rattle.sd_view.proofs.Framing.{framed_from}
use Rattle.sd_view.proofs.capture.push_parts.Given as goal

abbrev pub invariant-loop-index : goal.invariant-loop-index
invariant-loop-index l =
    l.out ++ framed_from l.tick l.id l.src l.dst l.bytes l.index (parts_of (length l.bytes) - l.index) ≡ l.initial.out ++ framed_from l.tick l.id l.src l.dst l.bytes 0 (parts_of (length l.bytes))
