use Rattle.std.proofs.Common.{◌≡◌, ◌≤◌, ◌<◌, ◌*◌, ◌-◌, length, false}
use Rattle.sd_link.specs.Link.{Moves, IsSettledBy}
use Rattle.sd_claims.specs.Fetching.{Takes, request_of}
use Rattle.sd_rpc_retry.specs.Lasting.{Lasts, Fails}
use Rattle.sd_boot_chain.specs.Fetch.{fetch_of}
use Rattle.sd_boot_chain.proofs.fetch.fetch.Given as goal

abbrev pub invariant-fetching : goal.invariant-fetching
invariant-fetching g l = record {
  moves : Moves (g.L.Link.told l.initial.link) (g.L.Link.told l.link) (λ old part. Takes (IsSettledBy old) (fetch_of l.fetch) part l.receiver);
  request : l.request ≡ request_of (fetch_of l.fetch) l.receiver;
  server : l.receiver.server ≡ l.fetch.server;
  going : l.receiver.ended ≡ false;
  few : length l.receiver.blocks < 65535;
  lasts : Lasts (length l.receiver.blocks * 64000) (g.L.Link.told l.initial.link) (g.L.Link.told l.link);
  fails : Fails 0 (g.L.Link.told l.initial.link) (g.L.Link.told l.link);
  counts : g.L.Link.handed l.initial.link ≤ g.L.Link.handed l.link;
  later : g.L.Link.clock l.initial.link ≤ g.L.Link.clock l.link;
  faults : g.L.Link.faults l.initial.link ≤ g.L.Link.faults l.link;
  drained : g.L.Link.drained l.link ≡ g.L.Link.drained l.initial.link;
}

-- the blocks that may still come
abbrev pub decreases-fetching : goal.decreases-fetching
decreases-fetching g l = 65535 - length l.receiver.blocks
