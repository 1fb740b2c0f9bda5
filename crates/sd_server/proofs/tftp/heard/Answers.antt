use Rattle.std.proofs.Common.{◌≡◌, List, ℕ, ◌≤◌, length, sym, subst}
use Rattle.std.proofs.lemmas.Result.{IfOk-weaker}
use Rattle.sd_tftp.specs.Transfer.{Transfer}
use Rattle.sd_tftp.specs.Sending.{Sends}
use Rattle.sd_services.specs.Part.{ServerPart}
use Rattle.sd_services.specs.Sessions.{heard}
use Rattle.sd_server.specs.Sessions.{session_of, Answers}
use Rattle.sd_server.specs.Stepping.{after_step}
use Rattle.sd_server.proofs.Steps.{step_so, may_so}
use Rattle.sd_server.proofs.tftp.heard.Goals as goal

pub stepped-requires-clause-next : goal.stepped-requires-clause-next
stepped-requires-clause-next c =
    let sends = subst (λ (t : Transfer). Sends t c.args.tick c.args.session.now.peer c.args.packet.now c.bytes_at-file.result.now c.step-says.result c.step-says.new.self) c.copy-sender.ensures c.step-says.ensures.exact in
    may_so c.args.config.now c.args.tick c.args.session.now c.args.packet.now c.bytes_at-file.result.now c.step-says.result c.step-says.new.self c.requires.sending sends

pub returns : goal.returns
returns c =
    let config = c.args.config.now in
    let s = c.args.session.now in
    let sends = subst (λ (t : Transfer). Sends t c.args.tick c.args.session.now.peer c.args.packet.now c.bytes_at-file.result.now c.step-says.result c.step-says.new.self) c.copy-sender.ensures c.step-says.ensures.exact in
    IfOk-weaker c.stepped.result (λ a. (part : ServerPart) → Answers config part a (after_step config part s c.step-says.result c.step-says.new.self)) (λ a. (part : ServerPart) → Answers config part a (heard config c.args.tick part (session_of config s) c.args.packet.now))
    (λ a is part. step_so config c.args.tick part s c.requires.sending c.args.packet.now c.bytes_at-file.result.now c.step-says.result c.step-says.new.self a c.bytes_at-file.ensures sends (is part)) c.stepped.ensures
