use Rattle.std.proofs.Common.{◌≡◌, ◌+◌, ◌-◌, ◌++◌, ◌∷◌, length, drop, List, [], map, ◌∙◌, ap, sym, subst}
use Rattle.sd_services.specs.Part.{Session}
use Rattle.sd_services.specs.Sessions.{with_session, without_session}
use Rattle.sd_server.specs.declared.sessions.Sending.{Sending}
use Rattle.sd_server.specs.declared.replies.Change.TheVariants.{Moves, Ends}
use Rattle.sd_server.specs.Sessions.{session_of, AreSessions, IsSending}
use Rattle.sd_server.specs.Deciding.{DeskView, IsDesk, volatile_after}
use Rattle.sd_server.proofs.Numbering.{sound-put, seen-put}
use Rattle.sd_server.proofs.desk.Desk.put.Goals as goal

pub invariant_of-self : goal.invariant_of-self
invariant_of-self c =
    let s = c.self.inside in
    let one : IsSending s.setup c.args.session = subst (λ (d : DeskView). IsSending d.config c.args.session) (sym c.self.view_is) c.requires in
    record {
      sessions_are = subst (λ (l : List Sending). AreSessions s.setup l s.made) (sym c.put_session.ensures) (sound-put s.setup c.args.session s.sessions.items s.made c.self.invariant.sessions_are one);
      room = c.self.invariant.room;
    }

pub returns : goal.returns
returns c =
    let s = c.self.inside in
    let view : List Session → DeskView = λ l. record { config = s.setup; volatile = record { sessions = l; made = s.made; mounts = s.mounts } } in
    let seen : map (session_of s.setup) c.put_session.new.sessions.items ≡ with_session (session_of s.setup c.args.session) (map (session_of s.setup) s.sessions.items) =
    ap (λ (l : List Sending). map (session_of s.setup) l) c.put_session.ensures ∙ seen-put s.setup c.args.session s.sessions.items in
    subst (λ (d : DeskView). view (map (session_of s.setup) c.put_session.new.sessions.items) ≡ record d { volatile = volatile_after d.config d.volatile (Moves c.args.session) }) c.self.view_is (ap view seen)
