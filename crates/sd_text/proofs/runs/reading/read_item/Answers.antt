use Rattle.std.proofs.Common.{take, arith}
use Rattle.std.proofs.lemmas.Result.{err_from_is_err_and}
use Rattle.std.proofs.lemmas.List.{take_rest}
use Rattle.sd_text.specs.Values.{IsPairs}
use Rattle.sd_text.specs.RunReading.{IsItemText}
use Rattle.sd_text.proofs.Exits.{reads_exit}
use Rattle.sd_text.proofs.ItemLemmas.{not_pairs, no_pair, no_count, repeated_item}
use Rattle.sd_text.proofs.runs.reading.read_item.Goals as goal
use Rattle.sd_text.proofs.runs.reading.read_item.Goals.{then-text-lt3-via-then-text-lt3, then-text-lt3-via-else-text-lt3+then-text-ne42}

pub returns-in_err-read_pairs : goal.returns-in_err-read_pairs
returns-in_err-read_pairs c =
    let p = err_from_is_err_and c.from_residual.result c.from_residual.ensures.1 in
    let text = c.args.text.now in
    reads_exit (IsPairs text) (IsItemText c.args.most text) p.1 p.2 c.in_err-read_pairs.ensures
    (not_pairs c.args.most text (λ long star. elim c.then-text-lt3.branch [
      | then-text-lt3-via-then-text-lt3 w ↦ omega arith
      | then-text-lt3-via-else-text-lt3+then-text-ne42 w ↦ w.if-text-ne42.true star
    ]))

pub returns-in_err-pair : goal.returns-in_err-pair
returns-in_err-pair c =
    let p = err_from_is_err_and c.from_residual-in_err-pair.result c.from_residual-in_err-pair.ensures.1 in
    let text = c.args.text.now in
    reads_exit (IsPairs (take 2 text)) (IsItemText c.args.most text) p.1 p.2 c.in_err-pair.ensures
    (no_pair c.args.most text c.if-text-lt3.false c.if-text-ne42.false)

pub returns-in_default : goal.returns-in_default
returns-in_default c =
    let text = c.args.text.now in
    no_count c.args.most text c.if-text-lt3.false c.if-text-ne42.false (rw take_rest at (c.in_default.ensures))

pub returns : goal.returns
returns c =
    let text = c.args.text.now in
    let number = rw take_rest at (c.in-Some.ensures) in
    rw c.as_slice.ensures (repeated_item c.args.most text c.in_ok-pair.pair c.in-Some.count c.ranges.most.fits c.if-text-lt3.false c.if-text-ne42.false (c.in_ok-pair.ensures) number)
