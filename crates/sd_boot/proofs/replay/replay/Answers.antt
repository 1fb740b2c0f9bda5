use Rattle.std.proofs.Common.{ℕ, List, subst}
use Rattle.sd_streams.specs.Writing.{GainsSome}
use Rattle.sd_boot.specs.Replay.{Replays}
use Rattle.sd_boot.proofs.Replaying.{replayed, read_whole}
use Rattle.sd_boot.proofs.replay.replay.Goals as goal

pub returns-clause-told : goal.returns-clause-told
returns-clause-told g c =
    replayed (g.S.Source.left c.args.source.now) (g.S.Source.left c.read_all.new.source) c.in_ok-text.text (g.K.Sink.written c.args.sink.now) (g.K.Sink.written c.replay_text.new.sink) c.replay_text.result
    c.in_ok-text.ensures.told
    (subst (λ (t : List ℕ). GainsSome (g.K.Sink.written c.args.sink.now) (g.K.Sink.written c.replay_text.new.sink) (Replays c.replay_text.result t)) c.as_slice.ensures c.replay_text.ensures.told)

pub returns-clause-whole : goal.returns-clause-whole
returns-clause-whole g c =
    read_whole (g.S.Source.left c.args.source.now) (g.S.Source.left c.read_all.new.source) c.in_ok-text.text (g.K.Sink.written c.args.sink.now) (g.K.Sink.written c.replay_text.new.sink) c.replay_text.result
    c.in_ok-text.ensures.told
    (subst (λ (t : List ℕ). GainsSome (g.K.Sink.written c.args.sink.now) (g.K.Sink.written c.replay_text.new.sink) (Replays c.replay_text.result t)) c.as_slice.ensures c.replay_text.ensures.told)
