use Rattle.sd_tftp.proofs.Acks.{sending_is_turn, present_ack}
use Rattle.sd_tftp.proofs.sender.Sender.step.Goals as goal

pub returns-clause-exact : goal.returns-clause-exact
returns-clause-exact c =
    (sending_is_turn c.args.self.now c.args.now c.args.from c.args.packet.now c.args.file.now c.answer.result c.answer.new.self).1 (c.answer.ensures.says, c.answer.ensures.then)

pub returns-clause-no_apprentice : goal.returns-clause-no_apprentice
returns-clause-no_apprentice c =
    present_ack c.args.self.now c.args.now c.args.from c.args.packet.now c.args.file.now c.answer.result c.answer.new.self
    ((sending_is_turn c.args.self.now c.args.now c.args.from c.args.packet.now c.args.file.now c.answer.result c.answer.new.self).1 (c.answer.ensures.says, c.answer.ensures.then))
