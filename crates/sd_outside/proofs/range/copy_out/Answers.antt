use Rattle.std.proofs.Common.{◌≡◌, ◌+◌, ◌-◌, length, take, drop, ap, ◌∙◌, arith}
use Rattle.sd_outside.specs.Ranges.{part}
use Rattle.sd_outside.proofs.range.copy_out.Goals as goal

pub returns : goal.returns
unfolding part
returns c =
    let size : (c.args.at + length c.args.into.now) - c.args.at ≡ length c.args.into.now = omega arith in
    c.copy_from_slice.ensures.after ∙ ap (λ n. take n (drop c.args.at c.args.bytes.now)) size
