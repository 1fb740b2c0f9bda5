use Rattle.std.proofs.Common.{◌≡◌, ◌+◌, ◌-◌, ◌++◌, ◌∷◌, length, drop, List, [], map, ◌∙◌, ap, sym, subst}
use Rattle.sd_services.specs.Part.{Session}
use Rattle.sd_services.specs.Sessions.{with_session, without_session}
use Rattle.sd_server.specs.declared.sessions.Sending.{Sending}
use Rattle.sd_server.specs.declared.replies.Change.TheVariants.{Moves, Ends}
use Rattle.sd_server.specs.Sessions.{session_of, AreSessions, IsSending}
use Rattle.sd_server.specs.Deciding.{DeskView, IsDesk, volatile_after}
use Rattle.sd_server.proofs.Numbering.{sound-end, seen-end}
use Rattle.sd_server.proofs.desk.Desk.end.Goals as goal

pub invariant_of-self : goal.invariant_of-self
invariant_of-self c =
    let s = c.self.inside in
    record {
      sessions_are = subst (λ (l : List Sending). AreSessions s.setup l s.made) (sym c.drop_session.ensures) (sound-end s.setup c.args.number s.sessions.items s.made c.self.invariant.sessions_are);
      room = c.self.invariant.room;
    }

pub returns : goal.returns
returns c =
    let s = c.self.inside in
    let view : List Session → DeskView = λ l. record { config = s.setup; volatile = record { sessions = l; made = s.made; mounts = s.mounts } } in
    let seen : map (session_of s.setup) c.drop_session.new.sessions.items ≡ without_session c.args.number (map (session_of s.setup) s.sessions.items) =
    ap (λ (l : List Sending). map (session_of s.setup) l) c.drop_session.ensures ∙ seen-end s.setup c.args.number s.sessions.items in
    subst (λ (d : DeskView). view (map (session_of s.setup) c.drop_session.new.sessions.items) ≡ record d { volatile = volatile_after d.config d.volatile (Ends c.args.number) }) c.self.view_is (ap view seen)
