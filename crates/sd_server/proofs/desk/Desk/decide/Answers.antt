use Rattle.std.proofs.Common.{◌≡◌, ℕ, List, [], map, Bool, true, false, Some, None, refl, sym, ap, ◌∙◌, subst, arith}
use Rattle.std.specs.Prelude.{◌==◌, ◌||◌}
use Rattle.sd_outside.specs.declared.packet.Packet.{Packet}
use Rattle.sd_outside.specs.declared.packet.Packet.TheVariants.{Udp, Frame}
use Rattle.sd_services.specs.Reply.{is_heard, rarp_out}
use Rattle.sd_services.specs.RpcReply.{is_rpc_port}
use Rattle.sd_tftp.specs.Grammar.{tftp_port}
use Rattle.sd_services.specs.Sessions.{is_session_port}
use Rattle.sd_server.specs.declared.replies.Answer.{Answer}
use Rattle.sd_server.specs.declared.replies.Change.TheVariants.{Stays}
use Rattle.sd_server.specs.Deciding.{DeskView, IsNow, volatile_with}
use Rattle.sd_server.proofs.Decided.{frame_now, unheard_now}
use Rattle.sd_server.proofs.desk.Desk.decide.Goals as goal

pub returns-in_ok-out-in-Frame : goal.returns-in_ok-out-in-Frame
returns-in_ok-out-in-Frame c =
    let s = c.self.inside in
    let sent = c.in_ok-out-in-Frame.ensures ∙ (λ i. rarp_out (c.config.ensures.same i) (c.as_slice.ensures i)) in
    subst (λ (p : Packet). IsNow c.args.self.now.config c.args.self.now.volatile c.args.tick p (record { out = c.in_ok-out-in-Frame.out; change = Stays })) (sym c.in-Frame.is)
    (subst (λ (d : DeskView). IsNow d.config d.volatile c.args.tick (Frame c.in-Frame.bytes) (record { out = c.in_ok-out-in-Frame.out; change = Stays })) c.self.view_is
    (frame_now s.setup (volatile_with s.setup s.sessions.items s.made s.mounts) c.args.tick c.in-Frame.bytes c.in_ok-out-in-Frame.out sent))

pub returns-else-is_heard : goal.returns-else-is_heard
returns-else-is_heard c =
    let s = c.self.inside in
    let heard : is_heard s.setup c.in-Udp.dst ≡ false = ap (λ k. is_heard k c.in-Udp.dst) (sym c.config-in-Udp.ensures.same) ∙ sym c.is_heard.ensures ∙ c.if-is_heard.false in
    subst (λ (p : Packet). IsNow c.args.self.now.config c.args.self.now.volatile c.args.tick p c.quiet.result) (sym c.in-Udp.is)
    (subst (λ (a : Answer). IsNow c.args.self.now.config c.args.self.now.volatile c.args.tick (Udp c.in-Udp.src c.in-Udp.dst c.in-Udp.body) a) (sym c.quiet.ensures)
    (subst (λ (d : DeskView). IsNow d.config d.volatile c.args.tick (Udp c.in-Udp.src c.in-Udp.dst c.in-Udp.body) (record { out = None; change = Stays })) c.self.view_is
    (unheard_now s.setup (volatile_with s.setup s.sessions.items s.made s.mounts) c.args.tick c.in-Udp.src c.in-Udp.dst c.in-Udp.body heard)))
