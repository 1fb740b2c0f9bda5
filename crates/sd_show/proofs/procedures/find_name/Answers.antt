use Rattle.std.proofs.Common.{◌≡◌, refl, ap, length, arith}
use Rattle.sd_show.specs.declared.procedures.Known.{Known}
use Rattle.sd_show.specs.Programs.{all_known, known_text}
use Rattle.sd_show.proofs.Names.{none_ends}
use Rattle.sd_show.proofs.procedures.find_name.Goals as goal

pub returns : goal.returns
returns c =
    let all = c.all_known-known-items.ensures in
    none_ends (λ (k : Known). c.args.text.now ≡ known_text k) all_known c.loop-known.known-index refl (omega (arith, c.loop-known-test.false, ap length all)) c.loop-known.invariant
