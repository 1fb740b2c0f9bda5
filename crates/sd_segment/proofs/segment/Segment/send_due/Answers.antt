use Rattle.std.proofs.Common.{sym, ◌∙◌}
use Rattle.sd_segment.proofs.SessionTurns.{rest_where}
use Rattle.sd_segment.proofs.Waiting.{serves_turns}
use Rattle.sd_segment.proofs.segment.Segment.send_due.Goals as goal

pub returns-else-is_due-clause-ready : goal.returns-else-is_due-clause-ready
returns-else-is_due-clause-ready c =
    let v = c.args.self.now in
    record { served = c.requires.served; sessions = rest_where v.config v.server v.flight v.tick (sym c.is_due.ensures ∙ c.if-is_due.false) }

pub returns-in_ok-take_turns-clause-moves : goal.returns-in_ok-take_turns-clause-moves
returns-in_ok-take_turns-clause-moves c = serves_turns c.args.self.now c.take_turns.new.self c.in_ok-take_turns.ensures.ok
