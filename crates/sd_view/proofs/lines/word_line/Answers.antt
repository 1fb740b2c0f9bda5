use Rattle.sd_view.specs.declared.words.Word.TheVariants as words
use Rattle.sd_text.specs.Texts.{fields}
use Rattle.sd_view.proofs.OneLine.{word_read}
use Rattle.sd_view.proofs.lines.word_line.Goals as goal

pub returns-in-Sent : goal.returns-in-Sent
returns-in-Sent c = word_read words.Sent c.args.word c.args.line.now (fields c.args.text.now) c.read_sent.result c.in-Sent.is c.read_sent.ensures

pub returns-in-Served : goal.returns-in-Served
returns-in-Served c = word_read words.Served c.args.word c.args.line.now (fields c.args.text.now) c.read_came.result c.in-Served.is c.read_came.ensures

pub returns-in-Crashed : goal.returns-in-Crashed
returns-in-Crashed c = word_read words.Crashed c.args.word c.args.line.now (fields c.args.text.now) c.read_came-in-Crashed.result c.in-Crashed.is c.read_came-in-Crashed.ensures

pub returns-in-Faulted : goal.returns-in-Faulted
returns-in-Faulted c = word_read words.Faulted c.args.word c.args.line.now (fields c.args.text.now) c.read_came-in-Faulted.result c.in-Faulted.is c.read_came-in-Faulted.ensures

pub returns-in-Got : goal.returns-in-Got
returns-in-Got c = word_read words.Got c.args.word c.args.line.now (fields c.args.text.now) c.read_came-in-Got.result c.in-Got.is c.read_came-in-Got.ensures

pub returns-in-Failed : goal.returns-in-Failed
returns-in-Failed c = word_read words.Failed c.args.word c.args.line.now (fields c.args.text.now) c.read_failed.result c.in-Failed.is c.read_failed.ensures
