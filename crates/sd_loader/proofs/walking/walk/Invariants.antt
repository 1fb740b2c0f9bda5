use Rattle.std.proofs.Common.{◌≡◌, ◌+◌, ◌*◌, ◌-◌, ◌≤◌, length, None}
use Rattle.sd_link.specs.Link.{Moves, IsSettledBy}
use Rattle.sd_loader.specs.Walk.{root, components}
use Rattle.sd_loader.specs.Found.{IsFile}
use Rattle.sd_loader.specs.Walking.{OnPath}
use Rattle.sd_loader.specs.Trust.{Trusted}
use Rattle.sd_loader.specs.Went.{Went}
use Rattle.sd_loader.specs.WalkCalls.{at, Comes}
use Rattle.sd_loader.proofs.walking.walk.Given as goal

abbrev pub invariant-loop-name : goal.invariant-loop-name
invariant-loop-name g l = record {
  same : l.caller ≡ record l.initial.caller { next_xid = l.caller.next_xid };
  links : l.place.links ≤ 8;
  room : l.caller.next_xid + length l.place.way ≤ l.initial.caller.next_xid + 1025 + l.place.links * 1026;
  each : l.initial.caller.next_xid + 2 * l.place.links ≤ l.caller.next_xid;
  went : Moves (g.L.Link.told l.initial.link) (g.L.Link.told l.link) (Went (λ h part. Comes (IsSettledBy h) l.nfs l.root (at l.root None (components l.path) 0) l.initial.caller (at l.place.file l.place.attr l.place.way l.place.links) l.caller part) 0 l.initial.caller.next_xid l.caller.next_xid);
  trusted : Moves (g.L.Link.told l.initial.link) (g.L.Link.told l.link) (Trusted l.initial.caller l.nfs l.caller.next_xid (λ c. IsFile c l.root root → OnPath c l.path l.place.links l.place.way l.place.file l.place.attr));
  faults : g.L.Link.faults l.initial.link ≤ g.L.Link.faults l.link;
  drained : g.L.Link.drained l.link ≡ g.L.Link.drained l.initial.link;
}

abbrev pub decreases-loop-name : goal.decreases-loop-name
decreases-loop-name g l = (8 - l.place.links) * 1025 + length l.place.way
