use Rattle.std.proofs.Common.{◌≡◌, List, sym, ap, ◌∙◌, subst}
use Rattle.std.specs.List.{flat_map}
use Rattle.sd_config.specs.declared.config.Config.{Config}
use Rattle.sd_server.specs.declared.sessions.Sending.{Sending}
use Rattle.sd_server.specs.Sessions.{session_of}
use Rattle.sd_server.specs.Ticks.{dues}
use Rattle.sd_server.specs.Ticking.{due_at}
use Rattle.sd_server.specs.Deciding.{DeskView}
use Rattle.sd_server.proofs.TickTurns.{dues_seen}
use Rattle.sd_server.proofs.desk.Desk.due.Goals as goal

pub returns : goal.returns
returns c =
    let s = c.self.inside in
    subst (λ (d : DeskView). c.in_ok-all_due.field-0 ≡ dues d.config c.args.tick d.volatile.sessions) c.self.view_is
    (c.in_ok-all_due.ensures
    ∙ ap (λ (k : Config). flat_map (λ x. due_at k c.args.tick (session_of k x)) c.as_slice.result.now) c.config.ensures.same
    ∙ ap (λ (l : List Sending). flat_map (λ x. due_at s.setup c.args.tick (session_of s.setup x)) l) c.as_slice.ensures.value
    ∙ dues_seen s.setup c.args.tick s.sessions.items)
