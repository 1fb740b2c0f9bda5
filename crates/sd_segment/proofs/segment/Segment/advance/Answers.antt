use Rattle.std.proofs.Common.{inr}
use Rattle.sd_segment.proofs.Waiting.{advances}
use Rattle.sd_segment.proofs.segment.Segment.advance.Goals as goal

pub returns-in_err-settle-clause-moves : goal.returns-in_err-settle-clause-moves
returns-in_err-settle-clause-moves c = inr (advances c.args.self.now c.pass.new.self c.settle.new.self c.in_ok-pass.ensures.ok c.settle.ensures.moves)

pub returns-clause-moves : goal.returns-clause-moves
returns-clause-moves c = inr (advances c.args.self.now c.pass.new.self c.settle.new.self c.in_ok-pass.ensures.ok c.settle.ensures.moves)

pub returns-clause-passed : goal.returns-clause-passed
returns-clause-passed c = advances c.args.self.now c.pass.new.self c.settle.new.self c.in_ok-pass.ensures.ok c.settle.ensures.moves
