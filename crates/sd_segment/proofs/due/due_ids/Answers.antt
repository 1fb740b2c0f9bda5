use Rattle.std.proofs.Common.{take, sym, ◌∙◌}
use Rattle.sd_config.specs.Events.{fate_in}
use Rattle.sd_segment.specs.Flight.{goes_to}
use Rattle.sd_segment.proofs.Fates.{timely}
use Rattle.sd_segment.proofs.Dues.{due_more}
use Rattle.sd_segment.proofs.Outlived.{none_outlived}
use Rattle.sd_segment.proofs.due.due_ids.Goals as goal

pub loop-id-init : goal.loop-id-init
loop-id-init c =
    let life = c.args.config.now.life in
    c.empty-ids.ensures
    ∙ sym
    (none_outlived (goes_to c.args.end c.args.config.now) life (fate_in c.args.fates.now) (take c.outlived-id.result c.args.flight.now) c.args.tick
    (timely life c.args.fates.now c.requires.life c.requires.fates) c.outlived-id.ensures.old)

pub loop-id-preserved : goal.loop-id-preserved
loop-id-preserved c =
    due_more (goes_to c.args.end c.args.config.now) c.args.fates.now c.args.flight.now c.args.tick c.loop-id.id c.index-flight-id.result c.loop-id.ids c.add_packet.new.ids
    c.loop-id-test.true c.index-flight-id.is c.requires.fated c.loop-id.invariant c.in_ok-add_packet.ensures
