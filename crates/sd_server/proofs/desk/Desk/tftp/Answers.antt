use Rattle.std.proofs.Common.{◌≡◌, ℕ, List, [], map, true, false, Some, None, refl, sym, ap, ◌∙◌, subst}
use Rattle.std.specs.Option.{option_map}
use Rattle.sd_outside.specs.declared.packet.Packet.TheVariants.{Udp}
use Rattle.sd_services.specs.Reply.{is_heard}
use Rattle.sd_services.specs.RpcReply.{rpc_packet, as_packets}
use Rattle.sd_server.specs.declared.replies.Answer.{Answer}
use Rattle.sd_server.specs.declared.replies.Change.TheVariants.{Stays}
use Rattle.sd_server.specs.Deciding.{DeskView, IsNow, IsLater, volatile_with}
use Rattle.sd_server.proofs.Decided.{tftp_now}
use Rattle.sd_server.proofs.desk.Desk.tftp.Goals as goal
use Rattle.sd_services.specs.Part.{ServerPart}
use Rattle.sd_services.specs.Sessions.{tftp_reply}
use Rattle.sd_config.specs.declared.config.Config.{Config}
use Rattle.sd_server.specs.declared.sessions.Sending.{Sending}
use Rattle.sd_server.specs.Sessions.{session_of, Answers}

pub returns : goal.returns
returns c =
    let s = c.self.inside in
    let heard = subst (λ (d : DeskView). is_heard d.config c.args.dst ≡ true) (sym c.self.view_is) c.requires.heard in
    let same : c.config.result.now ≡ s.setup = c.config.ensures.same in
    let answers : (part : ServerPart) → part.sessions ≡ map (session_of s.setup) s.sessions.items → part.made ≡ s.made → Answers s.setup part c.in_ok-answer.answer (tftp_reply s.setup c.args.tick part c.args.from c.args.dst.port c.args.body.now) =
    λ part are number. subst (λ k. Answers k part c.in_ok-answer.answer (tftp_reply k c.args.tick part c.args.from c.args.dst.port c.args.body.now)) same
    (c.in_ok-answer.ensures part (are ∙ sym (ap (λ (k : Config). map (session_of k) c.as_slice.result.now) same ∙ ap (λ (l : List Sending). map (session_of s.setup) l) c.as_slice.ensures.value)) number) in
    subst (λ (d : DeskView). IsNow d.config d.volatile c.args.tick (Udp c.args.from c.args.dst c.args.body.now) c.in_ok-answer.answer) c.self.view_is
    (tftp_now s.setup (volatile_with s.setup s.sessions.items s.made s.mounts) c.args.tick c.args.from c.args.dst c.args.body.now c.in_ok-answer.answer heard c.requires.port answers)
