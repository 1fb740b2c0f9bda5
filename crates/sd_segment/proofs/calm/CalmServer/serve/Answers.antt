use Rattle.std.proofs.Common.{◌≡◌, subst}
use Rattle.sd_services.specs.Reply.{out_of, next_of}
use Rattle.sd_segment.specs.Calm.{CalmView, part_of}
use Rattle.sd_segment.proofs.Calming.{served_calm}
use Rattle.sd_segment.proofs.calm.CalmServer.serve.Goals as goal

pub invariant_of-self-2 : goal.invariant_of-self-2
invariant_of-self-2 c =
    let e = c.in_ok-replies.ensures in
    (served_calm c.self.inside.server c.serve.new.self c.args.tick c.args.packet.now c.in_ok-replies.replies.packets c.in_ok-replies.replies.faulted c.self.invariant e.plan e.turns).2

pub returns-clause-out : goal.returns-clause-out
returns-clause-out c =
    let e = c.in_ok-replies.ensures in
    subst (λ (v : CalmView). c.in_ok-replies.replies.packets ≡ out_of v.config c.args.tick v.part c.args.packet.now) c.self.view_is
    (served_calm c.self.inside.server c.serve.new.self c.args.tick c.args.packet.now c.in_ok-replies.replies.packets c.in_ok-replies.replies.faulted c.self.invariant e.plan e.turns).0

pub returns-clause-next : goal.returns-clause-next
returns-clause-next c =
    let e = c.in_ok-replies.ensures in
    let new = c.serve.new.self in
    let view : CalmView = record { config = new.config; part = part_of new } in
    let next = (served_calm c.self.inside.server new c.args.tick c.args.packet.now c.in_ok-replies.replies.packets c.in_ok-replies.replies.faulted c.self.invariant e.plan e.turns).1 in
    subst (λ (v : CalmView). view ≡ record { config = v.config; part = next_of v.config c.args.tick v.part c.args.packet.now }) c.self.view_is
    (λ i. record { config = e.config i; part = next i })
