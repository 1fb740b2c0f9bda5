use Rattle.std.proofs.Common.{◌≡◌, List, map, sym, ap, ◌∙◌, subst}
use Rattle.std.specs.List.{flat_map, AllByRecursion}
use Rattle.sd_outside.specs.declared.packet.Packet.{Packet}
use Rattle.sd_config.specs.declared.config.Config.{Config}
use Rattle.sd_services.specs.Part.{Session}
use Rattle.sd_server.specs.declared.sessions.Sending.{Sending}
use Rattle.sd_server.specs.Sessions.{session_of, AreSessions}
use Rattle.sd_server.specs.Ticks.{after_tick, sent_at, Ascending}
use Rattle.sd_server.specs.Ticking.{sending_kept}
use Rattle.sd_server.specs.Deciding.{DeskView, IsDesk}
use Rattle.sd_server.proofs.TickTurns.{sessions_after, seen_after, sent_after, ascending_of}
use Rattle.sd_server.proofs.desk.Desk.tick.Goals as goal

pub returns-clause-ascending : goal.returns-clause-ascending
returns-clause-ascending c = subst (λ (d : DeskView). Ascending d.volatile.sessions) c.self.view_is (ascending_of c.self.inside.setup c.self.inside.made c.self.inside.sessions.items c.self.invariant.sessions_are.numbers)

pub invariant_of-self : goal.invariant_of-self
invariant_of-self c =
    let s = c.self.inside in
    let same : c.in_ok-done.done.sessions.items ≡ flat_map (sending_kept s.setup c.args.tick) s.sessions.items =
    c.in_ok-done.ensures.sessions ∙ ap (λ (k : Config). flat_map (sending_kept k c.args.tick) c.as_slice.result.now) c.config.ensures.same ∙ ap (λ (l : List Sending). flat_map (sending_kept s.setup c.args.tick) l) c.as_slice.ensures.value in
    record {
      sessions_are = subst (λ (l : List Sending). AreSessions s.setup l s.made) (sym same) (sessions_after s.setup c.args.tick s.sessions.items s.made c.self.invariant.sessions_are);
      room = c.self.invariant.room;
    }

pub returns-clause-ok : goal.returns-clause-ok
returns-clause-ok c =
    let s = c.self.inside in
    let view : List Session → DeskView = λ l. record { config = s.setup; volatile = record { sessions = l; made = s.made; mounts = s.mounts } } in
    let same : c.in_ok-done.done.sessions.items ≡ flat_map (sending_kept s.setup c.args.tick) s.sessions.items =
    c.in_ok-done.ensures.sessions ∙ ap (λ (k : Config). flat_map (sending_kept k c.args.tick) c.as_slice.result.now) c.config.ensures.same ∙ ap (λ (l : List Sending). flat_map (sending_kept s.setup c.args.tick) l) c.as_slice.ensures.value in
    let seen : map (session_of s.setup) c.in_ok-done.done.sessions.items ≡ flat_map (after_tick s.setup c.args.tick) (map (session_of s.setup) s.sessions.items) =
    ap (λ (l : List Sending). map (session_of s.setup) l) same ∙ seen_after s.setup c.args.tick s.sessions.items c.self.invariant.sessions_are.each in
    subst (λ (d : DeskView). view (map (session_of s.setup) c.in_ok-done.done.sessions.items) ≡ record d { volatile = record d.volatile { sessions = flat_map (after_tick d.config c.args.tick) d.volatile.sessions } }) c.self.view_is (ap view seen)

pub returns-clause-packets : goal.returns-clause-packets
returns-clause-packets c =
    let s = c.self.inside in
    subst (λ (d : DeskView). c.in_ok-done.done.packets ≡ flat_map (sent_at d.config c.args.tick) d.volatile.sessions) c.self.view_is
    (c.in_ok-done.ensures.packets ∙ ap (λ (k : Config). flat_map (λ x. sent_at k c.args.tick (session_of k x)) c.as_slice.result.now) c.config.ensures.same
    ∙ ap (λ (l : List Sending). flat_map (λ x. sent_at s.setup c.args.tick (session_of s.setup x)) l) c.as_slice.ensures.value ∙ sent_after s.setup c.args.tick s.sessions.items)

pub returns-in_err-done-clause-ascending : goal.returns-in_err-done-clause-ascending
returns-in_err-done-clause-ascending c = subst (λ (d : DeskView). Ascending d.volatile.sessions) c.self.view_is (ascending_of c.self.inside.setup c.self.inside.made c.self.inside.sessions.items c.self.invariant.sessions_are.numbers)
