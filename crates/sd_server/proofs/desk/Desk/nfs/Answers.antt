use Rattle.std.proofs.Common.{◌≡◌, ℕ, List, [], map, true, false, Some, None, refl, sym, ap, ◌∙◌, subst}
use Rattle.std.specs.Option.{option_map}
use Rattle.sd_outside.specs.declared.packet.Packet.TheVariants.{Udp}
use Rattle.sd_services.specs.Reply.{is_heard}
use Rattle.sd_services.specs.RpcReply.{rpc_packet, as_packets}
use Rattle.sd_server.specs.declared.replies.Answer.{Answer}
use Rattle.sd_server.specs.declared.replies.Change.TheVariants.{Stays}
use Rattle.sd_server.specs.Deciding.{DeskView, IsNow, IsLater, volatile_with}
use Rattle.sd_server.proofs.Decided.{nfs_now, nfs_later}
use Rattle.sd_server.proofs.desk.Desk.nfs.Goals as goal
use Rattle.sd_server.specs.declared.nfs.NfsTurn.{NfsTurn}
use Rattle.sd_server.specs.NfsTurns.{IsTurn}

pub returns-in-Ignores : goal.returns-in-Ignores
returns-in-Ignores c = λ tick.
    let s = c.self.inside in
    let heard = subst (λ (d : DeskView). is_heard d.config c.args.dst ≡ true) (sym c.self.view_is) c.requires.heard in
    let quiet = subst (λ (t : NfsTurn). IsTurn s.setup c.args.from.ip c.args.body.now t) c.in-Ignores.is c.in_ok-nfs_turn.ensures in
    subst (λ (a : Answer). IsNow c.args.self.now.config c.args.self.now.volatile tick (Udp c.args.from c.args.dst c.args.body.now) a) (sym c.quiet.ensures)
    (subst (λ (d : DeskView). IsNow d.config d.volatile tick (Udp c.args.from c.args.dst c.args.body.now) (record { out = None; change = Stays })) c.self.view_is
    (nfs_now s.setup (volatile_with s.setup s.sessions.items s.made s.mounts) tick c.args.from c.args.dst c.args.body.now None None heard c.requires.port quiet refl))

pub returns-in_ok-out-in-Replies : goal.returns-in_ok-out-in-Replies
returns-in_ok-out-in-Replies c = λ tick.
    let s = c.self.inside in
    let heard = subst (λ (d : DeskView). is_heard d.config c.args.dst ≡ true) (sym c.self.view_is) c.requires.heard in
    let quiet = subst (λ (t : NfsTurn). IsTurn s.setup c.args.from.ip c.args.body.now t) c.in-Replies.is c.in_ok-nfs_turn.ensures in
    let sent = c.in_ok-out-in-Replies.ensures ∙ ap (λ k. as_packets (option_map (rpc_packet k c.args.dst.port c.args.from) (Some c.in-Replies.reply))) c.config.ensures.same in
    subst (λ (d : DeskView). IsNow d.config d.volatile tick (Udp c.args.from c.args.dst c.args.body.now) (record { out = c.in_ok-out-in-Replies.out; change = Stays })) c.self.view_is
    (nfs_now s.setup (volatile_with s.setup s.sessions.items s.made s.mounts) tick c.args.from c.args.dst c.args.body.now c.in_ok-out-in-Replies.out (Some c.in-Replies.reply) heard c.requires.port quiet.0 sent)

pub returns-in_ok-prepared-in-Does : goal.returns-in_ok-prepared-in-Does
returns-in_ok-prepared-in-Does c = λ tick.
    let s = c.self.inside in
    let heard = subst (λ (d : DeskView). is_heard d.config c.args.dst ≡ true) (sym c.self.view_is) c.requires.heard in
    let loud = subst (λ (t : NfsTurn). IsTurn s.setup c.args.from.ip c.args.body.now t) c.in-Does.is c.in_ok-nfs_turn.ensures in
    subst (λ (d : DeskView). IsLater d.config d.volatile tick (Udp c.args.from c.args.dst c.args.body.now) c.in_ok-prepared-in-Does.field-0) c.self.view_is
    (nfs_later s.setup (volatile_with s.setup s.sessions.items s.made s.mounts) tick c.args.from c.args.dst c.args.body.now c.in-Does.xid c.in-Does.done c.in-Does.act c.in_ok-prepared-in-Does.field-0 heard c.requires.port loud
    c.in_ok-prepared-in-Does.ensures.bodies c.in_ok-prepared-in-Does.ensures.room)
