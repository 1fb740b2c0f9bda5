use Rattle.std.proofs.Common.{◌∙◌}
use Rattle.sd_segment.proofs.Waiting.{serves_more, none_left}
use Rattle.sd_segment.proofs.segment.Segment.serve_all.Goals as goal

pub loop-id-preserved : goal.loop-id-preserved
loop-id-preserved c = record {
  moves = serves_more c.args.self.now c.loop-id.self c.serve.new.self c.in-Some.id c.loop-id.invariant.moves c.in_ok-serve.ensures.ok;
  tick = c.serve.ensures.tick ∙ c.loop-id.invariant.tick;
  handed = c.serve.ensures.handed ∙ c.loop-id.invariant.handed;
  calls = c.serve.ensures.calls ∙ c.loop-id.invariant.calls;
}

pub returns-clause-ready : goal.returns-clause-ready
returns-clause-ready c = none_left c.loop-id.self.to_server c.next_to_server.result c.next_to_server.ensures c.in_default.is
