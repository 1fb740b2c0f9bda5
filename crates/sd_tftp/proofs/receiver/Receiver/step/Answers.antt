use Rattle.sd_tftp.proofs.Receives.{answered, wanted}
use Rattle.sd_tftp.proofs.receiver.Receiver.step.Goals as goal

pub returns-clause-exact : goal.returns-clause-exact
returns-clause-exact c = answered c.args.self.now c.answer.new.self c.args.from c.args.packet.now c.answer.result c.answer.ensures

pub returns-clause-memory : goal.returns-clause-memory
returns-clause-memory c = wanted c.args.self.now c.answer.new.self c.args.from c.args.packet.now c.answer.result c.answer.ensures
