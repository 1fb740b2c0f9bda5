use Rattle.std.proofs.Common.{◌++◌, arith}
use Rattle.sd_segment.specs.Kept.{strays_kept}
use Rattle.sd_segment.proofs.InFlight.{strays_more}
use Rattle.sd_segment.proofs.pushing.push_strays.Goals as goal

pub loop-place-preserved : goal.loop-place-preserved
loop-place-preserved c = record {
  all = strays_more c.loop-place.kept.items c.push_reserved.new.list.items (c.args.kept.now.items ++ strays_kept c.args.tick c.args.first c.args.count) c.args.tick c.args.first c.loop-place.place c.args.count c.loop-place-test.true c.push_reserved.ensures.items c.loop-place.invariant.all;
  room = omega (arith, c.loop-place.invariant.room, c.push_reserved.ensures.len, c.push_reserved.ensures.room, c.loop-place-test.true);
}
