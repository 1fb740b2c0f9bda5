use Rattle.std.proofs.Common.{◌≡◌, ℕ, List, [], map, true, false, Some, None, refl, sym, ap, ◌∙◌, subst}
use Rattle.std.specs.Option.{option_map}
use Rattle.sd_outside.specs.declared.packet.Packet.TheVariants.{Udp}
use Rattle.sd_services.specs.Reply.{is_heard}
use Rattle.sd_services.specs.RpcReply.{rpc_packet, as_packets}
use Rattle.sd_server.specs.declared.replies.Answer.{Answer}
use Rattle.sd_server.specs.declared.replies.Change.TheVariants.{Stays}
use Rattle.sd_server.specs.Deciding.{DeskView, IsNow, IsLater, volatile_with}
use Rattle.sd_server.proofs.Decided.{pmap_now}
use Rattle.sd_server.proofs.desk.Desk.portmapper.Goals as goal

pub returns : goal.returns
returns c = λ tick.
    let s = c.self.inside in
    let heard = subst (λ (d : DeskView). is_heard d.config c.args.dst ≡ true) (sym c.self.view_is) c.requires.heard in
    let sent = c.in_ok-out.ensures ∙ ap (λ k. as_packets (option_map (rpc_packet k c.args.dst.port c.args.from) c.in_ok-reply.reply)) c.config.ensures.same in
    subst (λ (d : DeskView). IsNow d.config d.volatile tick (Udp c.args.from c.args.dst c.args.body.now) (record { out = c.in_ok-out.out; change = Stays })) c.self.view_is
    (pmap_now s.setup (volatile_with s.setup s.sessions.items s.made s.mounts) tick c.args.from c.args.dst c.args.body.now c.in_ok-out.out c.in_ok-reply.reply heard c.requires.port c.in_ok-reply.ensures.reply sent)
