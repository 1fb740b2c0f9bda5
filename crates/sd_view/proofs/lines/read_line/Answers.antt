use Rattle.sd_view.proofs.OneLine.{line_unparted, line_read}
use Rattle.sd_view.proofs.lines.read_line.Goals as goal

pub returns-in_default : goal.returns-in_default
returns-in_default c = line_unparted c.args.line.now c.in_default.ensures

pub returns : goal.returns
returns c = line_read c.args.line.now c.in-Some.first.now c.in-Some.text.now c.in-Some-word_of.word c.word_line.result c.in-Some.ensures c.in-Some-word_of.ensures c.word_line.ensures
