use Rattle.std.proofs.Common.{◌≡◌, ◌+◌, ◌-◌, take, drop, ap, ◌∙◌, arith}
use Rattle.std.specs.Int.{w32, from_be_bytes}
use Rattle.sd_outside.specs.Ranges.{part}
use Rattle.sd_stable_disk.specs.Image.{word32}
use Rattle.sd_stable_disk.proofs.entry.word32_at.Goals as goal

pub returns : goal.returns
unfolding part word32
returns c =
    let size : (c.args.at + 4) - c.args.at ≡ 4 = omega arith in
    c.from_be_bytes.ensures ∙ ap (from_be_bytes w32) (c.copy_from_slice.ensures.after ∙ ap (λ n. take n (drop c.args.at c.args.bytes.now)) size)
