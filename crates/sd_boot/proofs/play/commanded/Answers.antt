use Rattle.sd_segment.specs.Segment.{history_of, text_drained}
use Rattle.sd_boot.specs.Play.{script_of}
use Rattle.sd_boot.proofs.Composing.{first_of, all_drained, play_done, play_cut}
use Rattle.sd_boot.proofs.play.commanded.Goals as goal

pub returns-in-Ok-clause-done : goal.returns-in-Ok-clause-done
returns-in-Ok-clause-done g c =
    let h = history_of c.args.link.now in
    let s = script_of h c.args.commands.now in
    let first = first_of h c.args.commands.now c.requires.new.nothing in
    play_done s c.args.client (text_drained c.args.link.now) (g.K.Sink.written c.args.sink.now) (g.K.Sink.written c.session-done.new.sink) h (history_of c.session-done.new.link) c.session-done.new.link.tick
    c.requires.new.config c.requires.new.events c.requires.new.same first c.facts.ensures.orderly c.facts.ensures.receives c.facts.ensures.clock c.session-done.ensures.lasts
    (all_drained s h (text_drained c.args.link.now) first c.requires.new.drained) c.in-Ok.ensures.done

pub returns-in-Err-SinkFault-clause-cut : goal.returns-in-Err-SinkFault-clause-cut
returns-in-Err-SinkFault-clause-cut g c =
    let h = history_of c.args.link.now in
    let s = script_of h c.args.commands.now in
    let first = first_of h c.args.commands.now c.requires.new.nothing in
    play_cut s c.args.client (text_drained c.args.link.now) (g.K.Sink.written c.args.sink.now) (g.K.Sink.written c.session-done.new.sink) h (history_of c.session-done.new.link) c.session-done.new.link.tick
    c.requires.new.config c.requires.new.events c.requires.new.same first c.facts.ensures.orderly c.facts.ensures.receives c.facts.ensures.clock c.session-done.ensures.lasts
    (all_drained s h (text_drained c.args.link.now) first c.requires.new.drained) c.in-Err-SinkFault.ensures-1.cut

pub returns-in-Err-NoMemory-clause-cut : goal.returns-in-Err-NoMemory-clause-cut
returns-in-Err-NoMemory-clause-cut g c =
    let h = history_of c.args.link.now in
    let s = script_of h c.args.commands.now in
    let first = first_of h c.args.commands.now c.requires.new.nothing in
    play_cut s c.args.client (text_drained c.args.link.now) (g.K.Sink.written c.args.sink.now) (g.K.Sink.written c.session-done.new.sink) h (history_of c.session-done.new.link) c.session-done.new.link.tick
    c.requires.new.config c.requires.new.events c.requires.new.same first c.facts.ensures.orderly c.facts.ensures.receives c.facts.ensures.clock c.session-done.ensures.lasts
    (all_drained s h (text_drained c.args.link.now) first c.requires.new.drained) c.in-Err-NoMemory.ensures-1.cut
