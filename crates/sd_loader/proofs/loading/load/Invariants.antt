use Rattle.std.proofs.Common.{◌≡◌, ◌+◌, ◌*◌, ◌-◌, ◌<◌, ◌≤◌, length}
use Rattle.sd_link.specs.Link.{Moves, IsSettledBy}
use Rattle.sd_loader.specs.Found.{AreFirstBytes}
use Rattle.sd_loader.specs.Trust.{Trusted}
use Rattle.sd_loader.specs.Went.{Went}
use Rattle.sd_loader.specs.LoadCalls.{HasRead}
use Rattle.sd_loader.proofs.loading.load.Given as goal

abbrev pub invariant-reading : goal.invariant-reading
invariant-reading g l = record {
  same : l.caller ≡ record l.initial.caller { next_xid = l.caller.next_xid };
  few : length l.bytes ≤ l.attr.size;
  blocks : length l.bytes < l.attr.size → length l.bytes + l.initial.caller.next_xid * 8192 ≡ l.caller.next_xid * 8192;
  most : l.caller.next_xid ≤ l.initial.caller.next_xid + 2048;
  went : Moves (g.L.Link.told l.initial.link) (g.L.Link.told l.link) (Went (λ h part. HasRead (IsSettledBy h) l.nfs l.file l.attr.size l.initial.caller l.bytes l.caller part) 0 l.initial.caller.next_xid l.caller.next_xid);
  trusted : Moves (g.L.Link.told l.initial.link) (g.L.Link.told l.link) (Trusted l.initial.caller l.nfs l.caller.next_xid (λ c. AreFirstBytes c l.file l.attr.size l.bytes));
  faults : g.L.Link.faults l.initial.link ≤ g.L.Link.faults l.link;
  drained : g.L.Link.drained l.link ≡ g.L.Link.drained l.initial.link;
}

abbrev pub decreases-reading : goal.decreases-reading
decreases-reading g l = l.attr.size - length l.bytes
