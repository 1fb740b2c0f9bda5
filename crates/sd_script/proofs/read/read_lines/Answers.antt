use Rattle.std.proofs.Common.{◌≤◌, ◌+◌, length, sym, inr, arith}
use Rattle.std.proofs.lemmas.Bool.{eqb-true}
use Rattle.std.proofs.lemmas.List.{nil_from_length}
use Rattle.sd_script.specs.Limits.{input_limit}
use Rattle.sd_outside.specs.Lines.{without_feed}
use Rattle.sd_script.specs.Grammar.{IsLine}
use Rattle.sd_script.specs.declared.draft.Draft.{Draft}
use Rattle.sd_script.proofs.ScriptLemmas.{IsNextLine, so_far_goes_on, refused_here, all_read}
use Rattle.sd_script.proofs.read.read_lines.Goals as goal

pub returns-in-Err-Outside : goal.returns-in-Err-Outside
returns-in-Err-Outside c =
    let next : IsNextLine c.loop-rest.rest.now c.split_line.result.0.now c.split_line.result.1.now =
    record { lines_are = c.split_line.ensures.lines; whole = c.split_line.ensures.whole; some = c.split_line.ensures.some } in
    let none : (new : Draft) → IsLine c.loop-rest.draft (without_feed c.split_line.result.0.now) new → ⊥ = rw (c.in-Err-Outside.field-0-is, c.without_feed.ensures) at (c.in-Err-Outside.ensures) in
    refused_here c.args.text.now c.loop-rest.rest.now c.loop-rest.draft c.loop-rest.number _ _ c.loop-rest.invariant next (inr none)

pub loop-rest-preserved : goal.loop-rest-preserved
loop-rest-preserved c =
    let next : IsNextLine c.loop-rest.rest.now c.split_line.result.0.now c.split_line.result.1.now =
    record { lines_are = c.split_line.ensures.lines; whole = c.split_line.ensures.whole; some = c.split_line.ensures.some } in
    let fits : length c.args.text.now ≤ input_limit + length c.split_line.result.1.now = omega (arith, c.if-text-after-gt-INPUT_LIMIT.false) in
    let line : IsLine c.loop-rest.draft (without_feed c.split_line.result.0.now) c.read_line.new.draft = rw c.without_feed.ensures at (c.in-Ok.ensures) in
    so_far_goes_on c.args.text.now c.loop-rest.rest.now c.loop-rest.draft c.loop-rest.number _ _ _ c.loop-rest.invariant next fits line

pub returns : goal.returns
returns c =
    let none = nil_from_length c.loop-rest.rest.now (eqb-true _ _ (sym (c.loop-rest-test.ensures))) in
    all_read c.args.text.now c.loop-rest.rest.now c.loop-rest.draft c.loop-rest.number none c.loop-rest.invariant
