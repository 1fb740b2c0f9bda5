use Rattle.sd_rarp.proofs.Unanswered.{unanswered}
use Rattle.sd_rarp.proofs.serving.answer.Goals as goal

pub returns-clause-none : goal.returns-clause-none
returns-clause-none c = rw c.reply_by.ensures (unanswered c.args.table.now c.args.me c.args.frame.now)
