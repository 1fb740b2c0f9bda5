use Rattle.std.proofs.Common.{◌≡◌, ◌+◌, drop, get_or, sym, ◌∙◌, ap, arith}
use Rattle.std.proofs.lemmas.List.{drop_all}
use Rattle.sd_outside.specs.Ranges.{part}
use Rattle.sd_outside.proofs.RangeLaws.{length-part, get_or-part}
use Rattle.sd_stable_disk.specs.Image.{first_wrong, format_name}
use Rattle.sd_stable_disk.proofs.HeadLaws.{first_wrong-next, first_wrong_here}
use Rattle.sd_stable_disk.proofs.head.wrong_name.Goals as goal

pub loop-place-preserved : goal.loop-place-preserved
loop-place-preserved c =
    let name = c.args.name.now in
    let i = c.loop-place.place in
    let read : get_or (part 0 8 name) i 0 ≡ get_or name i 0 = get_or-part 0 8 name i 0 c.loop-place-test.true ∙ (let same : 0 + i ≡ i = omega arith in ap (λ k. get_or name k 0) same) in
    c.loop-place.invariant ∙ first_wrong-next i format_name (part 0 8 name) (omega (arith, c.loop-place-test.true)) (omega (arith, c.loop-place-test.true, length-part 0 8 name (omega (arith, c.requires)))) (sym (read ∙ c.if-name-place.false))

pub returns-then-name-place : goal.returns-then-name-place
returns-then-name-place c =
    let name = c.args.name.now in
    let i = c.loop-place.place in
    let read : get_or (part 0 8 name) i 0 ≡ get_or name i 0 = get_or-part 0 8 name i 0 c.loop-place-test.true ∙ (let same : 0 + i ≡ i = omega arith in ap (λ k. get_or name k 0) same) in
    sym (c.loop-place.invariant ∙ first_wrong_here i format_name (part 0 8 name) (omega (arith, c.loop-place-test.true)) (omega (arith, c.loop-place-test.true, length-part 0 8 name (omega (arith, c.requires)))) (λ same. c.if-name-place.true (sym (same ∙ read))))

pub returns : goal.returns
returns c =
    let i = c.loop-place.place in
    sym (c.loop-place.invariant ∙ ap (λ l. first_wrong i l (drop i (part 0 8 c.args.name.now))) (drop_all i format_name c.loop-place-test.false))
