use Rattle.std.proofs.Common.{None, Some, ◌∙◌, sym}
use Rattle.sd_services.specs.Sessions.{is_session_of}
use Rattle.sd_server.specs.Sessions.{session_of, IsSending}
use Rattle.sd_server.proofs.Found.{found_holds}
use Rattle.sd_server.proofs.Transfers.{heard_at}
use Rattle.sd_server.proofs.tftp.transferred.Goals as goal

pub heard-requires-clause-sending : goal.heard-requires-clause-sending
heard-requires-clause-sending c =
    found_holds (IsSending c.args.config.now) (λ s. is_session_of c.args.port c.args.from (session_of c.args.config.now s)) c.args.sessions.now c.in-Some.session c.requires.each
    (sym c.session_at.ensures ∙ c.in-Some.is)

pub returns-in_ok-not_known-in-None : goal.returns-in_ok-not_known-in-None
returns-in_ok-not_known-in-None c = λ part are.
    heard_at c.args.config.now c.args.tick c.args.port part c.args.from c.args.packet.now c.args.sessions.now c.in_ok-not_known-in-None.field-0 None are (sym c.session_at.ensures ∙ c.in-None.is)
    (c.in_ok-not_known-in-None.ensures part)

pub returns-in_ok-heard-in-Some : goal.returns-in_ok-heard-in-Some
returns-in_ok-heard-in-Some c = λ part are.
    heard_at c.args.config.now c.args.tick c.args.port part c.args.from c.args.packet.now c.args.sessions.now c.in_ok-heard-in-Some.field-0 (Some c.in-Some.session) are (sym c.session_at.ensures ∙ c.in-Some.is)
    (c.in_ok-heard-in-Some.ensures part)
