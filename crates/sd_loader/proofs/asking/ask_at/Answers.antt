use Rattle.std.proofs.Common.{ap, subst}
use Rattle.sd_link.specs.Link.{Moves}
use Rattle.sd_rpc_retry.specs.declared.calling.Caller.{Caller}
use Rattle.sd_loader.specs.Causes.{CallCame}
use Rattle.sd_loader.specs.Went.{Went, load_fails}
use Rattle.sd_loader.proofs.Telling.{answer_trusted, of_step, call_went}
use Rattle.sd_loader.proofs.asking.ask_at.Goals as goal

pub returns-in-Ok-clause-went : goal.returns-in-Ok-clause-went
returns-in-Ok-clause-went g c =
    let caller = c.args.caller.now in
    let old = g.L.Link.told c.args.link.now in
    let new = g.L.Link.told c.call.new.link in
    let what = g.Q.Question.ask c.args.question.now in
    subst (λ r. Moves old new (Went (CallCame c.args.step caller c.args.dst what g.Q.Question.shown (of_step c.args.step r)) (load_fails (of_step c.args.step r)) caller.next_xid c.call.new.self.next_xid)) c.in-Ok.is
    (call_went old new c.args.step caller c.args.dst what g.Q.Question.shown c.call.result c.call.new.self.next_xid (ap (λ (k : Caller). k.next_xid) c.call.ensures.xid) c.call.ensures.told c.call.ensures.lasts c.call.ensures.fails)

pub returns-in-Err-clause-went : goal.returns-in-Err-clause-went
returns-in-Err-clause-went g c =
    let caller = c.args.caller.now in
    let old = g.L.Link.told c.args.link.now in
    let new = g.L.Link.told c.call.new.link in
    let what = g.Q.Question.ask c.args.question.now in
    subst (λ r. Moves old new (Went (CallCame c.args.step caller c.args.dst what g.Q.Question.shown (of_step c.args.step r)) (load_fails (of_step c.args.step r)) caller.next_xid c.call.new.self.next_xid)) c.in-Err.is
    (call_went old new c.args.step caller c.args.dst what g.Q.Question.shown c.call.result c.call.new.self.next_xid (ap (λ (k : Caller). k.next_xid) c.call.ensures.xid) c.call.ensures.told c.call.ensures.lasts c.call.ensures.fails)

pub returns-in-Ok-clause-trusted : goal.returns-in-Ok-clause-trusted
returns-in-Ok-clause-trusted g c =
    answer_trusted (g.L.Link.told c.args.link.now) (g.L.Link.told c.call.new.link) c.args.caller.now c.args.dst (g.Q.Question.ask c.args.question.now) g.Q.Question.shown c.in-Ok.told c.call.new.self.next_xid c.requires.machine c.requires.xid
    (ap (λ (k : Caller). k.next_xid) c.call.ensures.xid) c.in-Ok.ensures.told
