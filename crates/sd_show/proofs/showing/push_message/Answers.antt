use Rattle.sd_show.proofs.Joined.{call_said}
use Rattle.sd_show.proofs.showing.push_message.Goals as goal

pub returns-in_ok-said-in-Asked : goal.returns-in_ok-said-in-Asked
returns-in_ok-said-in-Asked c = rw c.in-Asked.is (call_said c.args.asked c.in-Asked.call c.args.writer.now c.said.new.self c.push_call.new.writer c.push_call.result c.in_ok-said-in-Asked.ensures c.push_call.ensures)
