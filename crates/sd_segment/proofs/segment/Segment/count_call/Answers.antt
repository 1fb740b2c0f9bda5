use Rattle.std.proofs.Common.{ℕ, sym, subst}
use Rattle.sd_segment.specs.Inside.{view_of}
use Rattle.sd_segment.specs.Segment.{IsSound}
use Rattle.sd_segment.proofs.Passing.{sound_counted}
use Rattle.sd_segment.proofs.segment.Segment.count_call.Goals as goal

pub invariant_of-self : goal.invariant_of-self
invariant_of-self c =
    let s = view_of c.self.inside in
    subst (λ (n : ℕ). IsSound (record s { calls = n })) (sym c.saturating_add-self-inside.ensures) (sound_counted s c.self.invariant)
