use Rattle.sd_loader.proofs.WayLaws.{way_joined}
use Rattle.sd_loader.proofs.way.Way.joined.Goals as goal

pub returns : goal.returns
returns c =
    let w = c.self.inside in
    way_joined w.more c.args.self.now w.text c.as_slice.result.now c.args.text.now c.in_ok-joined.joined c.push_slice.new.self c.push_slice-2.new.self w.at c.if-not-self.false c.self.view_is c.as_slice.ensures
    c.in_ok-joined.ensures c.in_ok-push_slice.ensures.ok c.in_ok-push_slice-2.ensures.ok
