use Rattle.std.proofs.Common.{◌∷◌, [], sym, ◌∙◌, refl}
use Rattle.std.specs.Prelude.{codes}
use Rattle.sd_text.specs.Kind.{spaced}
use Rattle.sd_show.specs.Lines.{carried_arm, reply}
use Rattle.sd_show.specs.Packing.{message_told}
use Rattle.sd_show.proofs.Knowing.{reply_at, chosen_is}
use Rattle.sd_show.proofs.lines.take_load.Goals as goal

pub returns-then-is_word-3-clause-takes : goal.returns-then-is_word-3-clause-takes
returns-then-is_word-3-clause-takes c =
    chosen_is (codes "tftp" ∷ codes "call" ∷ codes "reply" ∷ []) carried_arm c.args.reader.now c.front-word.result.now c.front-word.new.self c.take_reply.new.reader 2 (spaced reply) (message_told c.in_ok-take_reply.field-0)
    c.front-word.ensures.front c.front-word.ensures.behind
    (reply_at c.front-word.result.now (sym c.is_word.ensures ∙ c.if-is_word.false) (sym c.is_word-2.ensures ∙ c.if-is_word-2.false) (sym c.is_word-3.ensures ∙ c.if-is_word-3.true)) refl c.in_ok-take_reply.ensures.takes
