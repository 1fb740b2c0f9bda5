use Rattle.std.proofs.Common.{ℕ, List, subst}
use Rattle.sd_streams.specs.Writing.{GainsSome}
use Rattle.sd_boot.specs.PacketTexts.{Translates}
use Rattle.sd_boot.proofs.Translating.{translated, read_whole}
use Rattle.sd_boot.proofs.packet_texts.translate.Goals as goal

pub returns-clause-told : goal.returns-clause-told
returns-clause-told g c =
    translated c.args.direction (g.S.Source.left c.args.source.now) (g.S.Source.left c.read_all.new.source) c.in_ok-text.text (g.K.Sink.written c.args.sink.now) (g.K.Sink.written c.translate_text.new.sink) c.translate_text.result
    c.in_ok-text.ensures.told
    (subst (λ (t : List ℕ). GainsSome (g.K.Sink.written c.args.sink.now) (g.K.Sink.written c.translate_text.new.sink) (Translates c.args.direction c.translate_text.result t)) c.as_slice.ensures c.translate_text.ensures.told)

pub returns-clause-whole : goal.returns-clause-whole
returns-clause-whole g c =
    read_whole c.args.direction (g.S.Source.left c.args.source.now) (g.S.Source.left c.read_all.new.source) c.in_ok-text.text (g.K.Sink.written c.args.sink.now) (g.K.Sink.written c.translate_text.new.sink) c.translate_text.result
    c.in_ok-text.ensures.told
    (subst (λ (t : List ℕ). GainsSome (g.K.Sink.written c.args.sink.now) (g.K.Sink.written c.translate_text.new.sink) (Translates c.args.direction c.translate_text.result t)) c.as_slice.ensures c.translate_text.ensures.told)
