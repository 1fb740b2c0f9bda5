use Rattle.std.proofs.Common.{◌+◌, ◌<◌, ◌^◌, length, arith}
use Rattle.sd_segment.proofs.Printed.{sent_more}
use Rattle.sd_segment.proofs.printing.write_all_sent.Goals as goal

pub loop-flown-preserved : goal.loop-flown-preserved
loop-flown-preserved c =
    let i = c.loop-flown.flown-index in
    let lt = c.loop-flown-test.true in
    let at = c.loop-flown.invariant.id in
    let room : c.args.first + length c.args.sent.now < 2 ^ 64 = c.requires (omega arith) in
    record {
      text = sent_more c.args.tick c.args.first c.loop-flown.id i c.args.sent.now c.flown-item.result c.loop-flown.text c.write_sent.new.text c.args.text.now lt c.flown-item.is at c.loop-flown.invariant.text c.in_ok-write_sent.ensures.ok;
      id = omega (arith, c.saturating_add-id.ensures, at, lt, room);
    }
