use Rattle.sd_segment.proofs.Waiting.{serves_then}
use Rattle.sd_segment.proofs.segment.Segment.settle.Goals as goal

pub returns-in_err-send_due-clause-moves : goal.returns-in_err-send_due-clause-moves
returns-in_err-send_due-clause-moves c = serves_then c.args.self.now c.serve_all.new.self c.send_due.new.self c.serve_all.ensures.moves c.send_due.ensures.moves

pub returns-clause-moves : goal.returns-clause-moves
returns-clause-moves c = serves_then c.args.self.now c.serve_all.new.self c.send_due.new.self c.serve_all.ensures.moves c.send_due.ensures.moves
