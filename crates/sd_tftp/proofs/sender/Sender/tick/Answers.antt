use Rattle.sd_tftp.proofs.Again.{ticks_is_tick, resends}
use Rattle.sd_tftp.proofs.sender.Sender.tick.Goals as goal

pub returns-clause-exact : goal.returns-clause-exact
returns-clause-exact c =
    (ticks_is_tick c.args.self.now c.args.now c.args.wait c.args.tries c.look.result c.look.new.self).1 (c.look.ensures.says, c.look.ensures.then)

pub returns-clause-again : goal.returns-clause-again
returns-clause-again c =
    resends c.args.self.now c.args.now c.args.wait c.args.tries c.look.result c.look.new.self
    ((ticks_is_tick c.args.self.now c.args.now c.args.wait c.args.tries c.look.result c.look.new.self).1 (c.look.ensures.says, c.look.ensures.then))
