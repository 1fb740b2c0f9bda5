use Rattle.sd_loader.proofs.WayLaws.{way_some, way_none}
use Rattle.sd_loader.proofs.way.Way.next.Goals as goal

pub returns-in_ok-name-in-Some : goal.returns-in_ok-name-in-Some
returns-in_ok-name-in-Some c =
    let w = c.self.inside in
    way_some w.more c.args.self.now w.text c.as_slice.result.now c.in_ok-name-in-Some.name w.at c.in-Some.place c.if-not-self.false c.self.view_is c.as_slice.ensures c.in-Some.ensures c.in_ok-name-in-Some.ensures

pub returns-in_ok-name-in-None : goal.returns-in_ok-name-in-None
returns-in_ok-name-in-None c =
    let w = c.self.inside in
    way_none w.more c.args.self.now w.text c.as_slice.result.now c.in_ok-name-in-None.name w.at c.if-not-self.false c.self.view_is c.as_slice.ensures c.in-None.ensures c.in_ok-name-in-None.ensures
