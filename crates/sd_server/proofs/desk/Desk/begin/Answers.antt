use Rattle.std.proofs.Common.{◌≡◌, ◌+◌, ◌-◌, ◌++◌, ◌∷◌, length, drop, List, [], map, ◌∙◌, ap, sym, subst}
use Rattle.sd_services.specs.Part.{Session}
use Rattle.sd_services.specs.Sessions.{with_session, without_session}
use Rattle.sd_server.specs.declared.sessions.Sending.{Sending}
use Rattle.sd_server.specs.declared.replies.Change.TheVariants.{Moves, Ends}
use Rattle.sd_server.specs.Sessions.{session_of, AreSessions, IsSending}
use Rattle.sd_server.specs.Deciding.{DeskView, IsDesk, volatile_after}
use Rattle.sd_server.proofs.Numbering.{sound-begin}
use Rattle.sd_server.proofs.desk.Desk.begin.Goals as goal

pub invariant_of-self-2 : goal.invariant_of-self-2
invariant_of-self-2 c =
    let s = c.self.inside in
    let one : IsSending s.setup c.args.session = subst (λ (d : DeskView). IsSending d.config c.args.session) (sym c.self.view_is) c.requires.1 in
    let number : c.args.session.number ≡ s.made = subst (λ (d : DeskView). c.args.session.number ≡ d.volatile.made) (sym c.self.view_is) c.requires.0 in
    record {
      sessions_are = subst (λ (l : List Sending). AreSessions s.setup l (s.made + 1)) (sym c.in_ok-push_session.ensures.ok) (sound-begin s.setup c.args.session s.sessions.items s.made c.self.invariant.sessions_are number one);
      room = c.self.invariant.room;
    }
