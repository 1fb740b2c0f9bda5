use Rattle.std.proofs.Common.{◌≡◌, Bool, true, false, refl, sym, ◌∙◌}
use Rattle.std.specs.Prelude.{not, IsTrue}
use Rattle.sd_segment.proofs.Waiting.{none_left}
use Rattle.sd_segment.proofs.SessionTurns.{rest_where}
use Rattle.sd_segment.proofs.segment.Segment.is_at_rest.Goals as goal

not_true : (b : Bool) → IsTrue (not b) → b ≡ false
not_true true e = sym e
not_true false e = refl

pub returns-in-None : goal.returns-in-None
returns-in-None c = λ rests.
    let v = c.args.self.now in
    record {
      served = none_left v.to_server c.next_to_server.result c.next_to_server.ensures c.in-None.is;
      sessions = rest_where v.config v.server v.flight v.tick (sym c.is_due.ensures ∙ not_true c.is_due.result rests);
    }
