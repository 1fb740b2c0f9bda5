use Rattle.std.proofs.Common.{◌≡◌, List, Bool, sym, ap, ◌∙◌, subst}
use Rattle.std.specs.List.{list_any}
use Rattle.sd_config.specs.declared.config.Config.{Config}
use Rattle.sd_services.specs.Sessions.{is_due}
use Rattle.sd_server.specs.declared.sessions.Sending.{Sending}
use Rattle.sd_server.specs.Sessions.{session_of}
use Rattle.sd_server.specs.Deciding.{DeskView}
use Rattle.sd_server.proofs.TickTurns.{any_seen}
use Rattle.sd_server.proofs.desk.Desk.is_due.Goals as goal

pub returns : goal.returns
returns c =
    let s = c.self.inside in
    subst (λ (d : DeskView). c.any_due.result ≡ list_any (is_due d.config c.args.tick) d.volatile.sessions) c.self.view_is
    (c.any_due.ensures
    ∙ ap (λ (k : Config). list_any (λ x. is_due k c.args.tick (session_of k x)) c.as_slice.result.now) c.config.ensures.same
    ∙ ap (λ (l : List Sending). list_any (λ x. is_due s.setup c.args.tick (session_of s.setup x)) l) c.as_slice.ensures.value
    ∙ any_seen s.setup c.args.tick s.sessions.items)
