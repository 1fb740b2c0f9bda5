use Rattle.std.proofs.Common.{[], Ok, Err}
use Rattle.sd_link.specs.Link.{IsSettledBy}
use Rattle.sd_loader.specs.declared.errors.LoadError.TheVariants as errors
use Rattle.sd_loader.specs.WalkCalls.{at, Walked, Knows}
use Rattle.sd_loader.proofs.Composing.{went_weaker}
use Rattle.sd_loader.proofs.Walks.{file_here, no_file_here}
use Rattle.sd_loader.proofs.walking.finish.Goals as goal

pub returns-then-attr-eq-FILE-clause-went : goal.returns-then-attr-eq-FILE-clause-went
returns-then-attr-eq-FILE-clause-went g c =
    let p = c.args.place.now in
    went_weaker (g.L.Link.told c.args.link.now) (g.L.Link.told c.attributes_at.new.link)
    (Knows c.args.nfs c.args.root (at p.file p.attr [] p.links) c.args.caller.now p.file p.links c.attributes_at.new.caller (Ok c.in-Ok.attr))
    (λ h part. Walked (IsSettledBy h) c.args.nfs c.args.root (at p.file p.attr p.way p.links) c.args.caller.now (Ok (p.file, c.in-Ok.attr)) part) 0 c.args.caller.now.next_xid c.attributes_at.new.caller.next_xid
    (λ h part k. file_here (IsSettledBy h) c.args.nfs c.args.root p.file p.attr p.way c.in-Ok.attr p.links c.args.caller.now c.attributes_at.new.caller part c.requires.end c.if-attr-eq-FILE.true k)
    c.in-Ok.ensures.went

pub returns-else-attr-eq-FILE-clause-went : goal.returns-else-attr-eq-FILE-clause-went
returns-else-attr-eq-FILE-clause-went g c =
    let p = c.args.place.now in
    went_weaker (g.L.Link.told c.args.link.now) (g.L.Link.told c.attributes_at.new.link)
    (Knows c.args.nfs c.args.root (at p.file p.attr [] p.links) c.args.caller.now p.file p.links c.attributes_at.new.caller (Ok c.in-Ok.attr))
    (λ h part. Walked (IsSettledBy h) c.args.nfs c.args.root (at p.file p.attr p.way p.links) c.args.caller.now (Err (errors.NotFile c.in-Ok.attr.kind)) part) 0 c.args.caller.now.next_xid c.attributes_at.new.caller.next_xid
    (λ h part k. no_file_here (IsSettledBy h) c.args.nfs c.args.root p.file p.attr p.way c.in-Ok.attr p.links c.args.caller.now c.attributes_at.new.caller part c.requires.end c.if-attr-eq-FILE.false k)
    c.in-Ok.ensures.went
