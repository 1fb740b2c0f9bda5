use Rattle.std.proofs.Common.{◌≤◌, sym, subst, arith}
use Rattle.std.specs.Prelude.{IfErr}
use Rattle.sd_script.specs.Limits.{input_limit}
use Rattle.sd_boot.specs.declared.packet_texts.Direction.{Direction}
use Rattle.sd_boot.specs.declared.packet_texts.Direction.TheVariants.{Show}
use Rattle.sd_boot.specs.PacketTexts.{IsLineRefused}
use Rattle.sd_boot.proofs.Turning.{refused_within}
use Rattle.sd_boot.proofs.packet_texts.turned.Goals as goal

pub returns-in-Show-clause-refused : goal.returns-in-Show-clause-refused
returns-in-Show-clause-refused c =
    let fits : c.args.end ≤ input_limit = omega (arith, c.if-end-gt-INPUT_LIMIT.false) in
    subst (λ (d : Direction). IfErr c.shown.result (IsLineRefused d c.args.seen.now c.args.line.now c.args.end)) (sym c.in-Show.is)
    (refused_within Show c.args.seen.now c.args.line.now c.without_feed.result.now c.args.end c.shown.result fits c.without_feed.ensures c.shown.ensures.refused)
