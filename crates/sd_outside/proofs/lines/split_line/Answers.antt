use Rattle.std.proofs.Common.{length, sym, arith, add-one}
use Rattle.std.proofs.lemmas.List.{take_all, drop_all}
use Rattle.sd_outside.proofs.Cutting.{place_is, no_place, first_line, last_line}
use Rattle.sd_outside.proofs.lines.split_line.Goals as goal

pub returns-in-Some-clause-lines : goal.returns-in-Some-clause-lines
returns-in-Some-clause-lines c =
    let text = c.args.text.now in
    let place = place_is 10 text c.in-Some.at (sym (c.in-Some.ensures)) in
    let first = first_line text (omega (arith, place.0, place.1)) in
    rw (c.split_at.ensures.front, c.split_at.ensures.back, place.0, add-one) first

pub returns-in-None-clause-lines : goal.returns-in-None-clause-lines
returns-in-None-clause-lines c =
    let text = c.args.text.now in
    let past = no_place 10 text (sym (c.in-None.ensures)) in
    rw (c.split_at-in-None.ensures.front, c.split_at-in-None.ensures.back, take_all (length text) text (omega arith), drop_all (length text) text (omega arith)) (last_line text c.requires past)
