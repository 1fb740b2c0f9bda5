use Rattle.std.proofs.Common.{◌≡◌, ℕ, List, [], map, Bool, true, false, Some, None, refl, sym, ap, ◌∙◌, subst, arith}
use Rattle.std.specs.Prelude.{◌==◌, ◌||◌}
use Rattle.sd_outside.specs.declared.packet.Packet.{Packet}
use Rattle.sd_outside.specs.declared.packet.Packet.TheVariants.{Udp, Frame}
use Rattle.sd_services.specs.Reply.{is_heard, rarp_out}
use Rattle.sd_services.specs.RpcReply.{is_rpc_port}
use Rattle.sd_tftp.specs.Grammar.{tftp_port}
use Rattle.sd_services.specs.Sessions.{is_session_port}
use Rattle.sd_server.specs.declared.replies.Answer.{Answer}
use Rattle.sd_server.specs.declared.replies.Change.TheVariants.{Stays}
use Rattle.sd_server.specs.Deciding.{DeskView, IsNow, volatile_with}
use Rattle.sd_server.proofs.Decided.{other_now}
use Rattle.sd_server.proofs.desk.Desk.heard.Goals as goal

pub returns : goal.returns
returns c =
    let port = c.args.dst.port in
    let nfs : (port == 2049) ≡ false = grind (arith, c.if-dst-eq-NFS_PORT.false) in
    let rpc : is_rpc_port port ≡ false = grind (arith, c.if-dst-eq-PMAP_PORT.false, c.if-dst-eq-BOOTPARAMS_PORT.false, c.if-dst-eq-MOUNT_PORT.false, c.if-dst-eq-NFS_PORT.false) in
    let tftp : ((port == tftp_port) || is_session_port port) ≡ false = sym c.is_tftp_port.ensures ∙ c.if-is_tftp_port.false in
    subst (λ (a : Answer). IsNow c.args.self.now.config c.args.self.now.volatile c.args.tick (Udp c.args.from c.args.dst c.args.body.now) a) (sym c.quiet.ensures)
    (other_now c.args.self.now.config c.args.self.now.volatile c.args.tick c.args.from c.args.dst c.args.body.now c.requires rpc nfs tftp)
