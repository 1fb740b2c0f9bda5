use Rattle.std.proofs.Common.{ℕ, List, subst}
use Rattle.sd_streams.specs.Writing.{GainsSome}
use Rattle.sd_boot.specs.Images.{Answers}
use Rattle.sd_boot.proofs.Carrying.{carried, all_read}
use Rattle.sd_boot.proofs.Imaging.{alike, within_limit, refused_word, no_image_word}
use Rattle.sd_boot.proofs.images.images.Goals as goal

pub returns-clause-told : goal.returns-clause-told
returns-clause-told g c =
    carried (Answers c.args.word) c.write_answer.result (alike c.args.word c.write_answer.result) (g.S.Source.left c.args.source.now) (g.S.Source.left c.read_all.new.source) c.in_ok-input.input
    (g.K.Sink.written c.args.sink.now) (g.K.Sink.written c.write_answer.new.sink) c.in_ok-input.ensures.told
    (subst (λ (t : List ℕ). GainsSome (g.K.Sink.written c.args.sink.now) (g.K.Sink.written c.write_answer.new.sink) (Answers c.args.word c.write_answer.result t)) c.as_slice.ensures c.write_answer.ensures.told)

pub returns-clause-whole : goal.returns-clause-whole
returns-clause-whole g c =
    all_read (Answers c.args.word) (within_limit c.args.word) (g.S.Source.left c.args.source.now) (g.S.Source.left c.read_all.new.source) c.in_ok-input.input
    (g.K.Sink.written c.args.sink.now) (g.K.Sink.written c.write_answer.new.sink) c.write_answer.result c.in_ok-input.ensures.told
    (subst (λ (t : List ℕ). GainsSome (g.K.Sink.written c.args.sink.now) (g.K.Sink.written c.write_answer.new.sink) (Answers c.args.word c.write_answer.result t)) c.as_slice.ensures c.write_answer.ensures.told)

pub returns-clause-refused : goal.returns-clause-refused
returns-clause-refused g c = refused_word c.args.word c.write_answer.result c.as_slice.result.now (g.K.Sink.written c.args.sink.now) (g.K.Sink.written c.write_answer.new.sink) c.write_answer.ensures.told

pub returns-clause-no_image : goal.returns-clause-no_image
returns-clause-no_image g c = no_image_word c.args.word c.write_answer.result c.as_slice.result.now (g.K.Sink.written c.args.sink.now) (g.K.Sink.written c.write_answer.new.sink) c.write_answer.ensures.told
