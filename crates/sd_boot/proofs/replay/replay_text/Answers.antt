use Rattle.std.proofs.Common.{subst}
use Rattle.sd_script.specs.declared.error.ScriptError.{ScriptError}
use Rattle.sd_script.specs.Grammar.{IsScriptError}
use Rattle.sd_boot.proofs.Replaying.{refused, played_text}
use Rattle.sd_boot.proofs.replay.replay_text.Goals as goal

pub returns-in-Err-Line-clause-told : goal.returns-in-Err-Line-clause-told
returns-in-Err-Line-clause-told g c =
    refused c.args.text.now c.in-Err-Line.number (g.K.Sink.written c.args.sink.now) (g.K.Sink.written c.refuse.new.sink) c.refuse.result
    (subst (λ (e : ScriptError). IsScriptError c.args.text.now e) c.in-Err-Line.field-0-is c.in-Err-Line.ensures.refused) c.refuse.ensures.ok c.refuse.ensures.err c.refuse.ensures.ended c.refuse.ensures.source

pub returns-in-Ok-clause-told : goal.returns-in-Ok-clause-told
returns-in-Ok-clause-told g c =
    played_text c.args.text.now c.in-Ok.script (g.K.Sink.written c.args.sink.now) (g.K.Sink.written c.play.new.sink) c.play.result c.in-Ok.ensures.script c.play.ensures.done c.play.ensures.cut c.play.ensures.ended c.play.ensures.source
