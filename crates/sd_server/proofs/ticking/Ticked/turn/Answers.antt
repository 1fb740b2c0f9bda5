use Rattle.std.proofs.Common.{◌≡◌, List, [], ◌∷◌, ◌++◌, sym, ap, ◌∙◌, subst}
use Rattle.sd_tftp.specs.Transfer.{Transfer}
use Rattle.sd_tftp.specs.Sending.{Ticks}
use Rattle.sd_tftp.specs.declared.step.SenderTick.{SenderTick}
use Rattle.sd_server.specs.declared.sessions.Sending.{Sending}
use Rattle.sd_server.specs.Ticking.{kept_as}
use Rattle.sd_server.proofs.TickTurns.{kept_so, append_none}
use Rattle.sd_server.proofs.ticking.Ticked.turn.Goals as goal

pub returns-in_ok-keep-in-Rest-clause-sessions : goal.returns-in_ok-keep-in-Rest-clause-sessions
returns-in_ok-keep-in-Rest-clause-sessions c =
    let s = c.args.session.now in
    let ticks = subst (λ (t : Transfer). Ticks t c.args.tick c.args.config.now.wait c.args.config.now.tries c.tick.result c.tick.new.self) c.copy-sender.ensures c.tick.ensures.exact in
    let kept = kept_so c.args.config.now c.args.tick s c.requires c.tick.result c.tick.new.self ticks ∙ ap (λ (r : SenderTick). kept_as s r c.tick.new.self) c.in-Rest.is in
    c.in_ok-keep-in-Rest.ensures.sessions ∙ ap (λ (x : Sending). c.args.self.now.sessions.items ++ x ∷ []) c.copy.ensures ∙ ap (λ (l : List Sending). c.args.self.now.sessions.items ++ l) (sym kept)

pub returns-in_ok-keep-in-Resend-clause-sessions : goal.returns-in_ok-keep-in-Resend-clause-sessions
returns-in_ok-keep-in-Resend-clause-sessions c =
    let s = c.args.session.now in
    let ticks = subst (λ (t : Transfer). Ticks t c.args.tick c.args.config.now.wait c.args.config.now.tries c.tick.result c.tick.new.self) c.copy-sender.ensures c.tick.ensures.exact in
    let kept = kept_so c.args.config.now c.args.tick s c.requires c.tick.result c.tick.new.self ticks ∙ ap (λ (r : SenderTick). kept_as s r c.tick.new.self) c.in-Resend.is in
    c.in_ok-keep-in-Resend.ensures.sessions ∙ ap (λ (l : List Sending). c.args.self.now.sessions.items ++ l) (sym kept)

pub returns-in-Ended-clause-sessions : goal.returns-in-Ended-clause-sessions
returns-in-Ended-clause-sessions c =
    let s = c.args.session.now in
    let ticks = subst (λ (t : Transfer). Ticks t c.args.tick c.args.config.now.wait c.args.config.now.tries c.tick.result c.tick.new.self) c.copy-sender.ensures c.tick.ensures.exact in
    let kept = kept_so c.args.config.now c.args.tick s c.requires c.tick.result c.tick.new.self ticks ∙ ap (λ (r : SenderTick). kept_as s r c.tick.new.self) c.in-Ended.is in
    sym (append_none c.args.self.now.sessions.items) ∙ ap (λ (l : List Sending). c.args.self.now.sessions.items ++ l) (sym kept)
