use Rattle.std.proofs.Common.{ℕ, [], Ok, Err, refl}
use Rattle.sd_nfs_msg.specs.declared.message.NfsArgs.TheVariants as args
use Rattle.sd_config.specs.declared.stage.Stage.TheVariants as stage
use Rattle.sd_link.specs.Link.{IsSettledBy}
use Rattle.sd_rpc_retry.specs.declared.calling.Ask.TheVariants as asks
use Rattle.sd_rpc_retry.specs.Questions.{attributes}
use Rattle.sd_loader.specs.Found.{IsFile, AreOf}
use Rattle.sd_loader.specs.Walking.{IsAt}
use Rattle.sd_loader.specs.Causes.{StatusCame}
use Rattle.sd_loader.specs.Went.{error_fails}
use Rattle.sd_loader.specs.WalkCalls.{at, Knows}
use Rattle.sd_loader.proofs.Composing.{went_not, went_weaker}
use Rattle.sd_loader.proofs.Telling.{trusted_weaker}
use Rattle.sd_loader.proofs.Walks.{status_ends, walk_error, no_loop, known_here, ask_here, asks_here}
use Rattle.sd_loader.proofs.walking.attributes_at.Goals as goal

pub returns-in-Some-clause-went : goal.returns-in-Some-clause-went
returns-in-Some-clause-went g c =
    let p = c.args.place.now in
    went_not (g.L.Link.told c.args.link.now) (Knows c.args.nfs c.args.root (at p.file p.attr [] p.links) c.args.caller.now p.file p.links c.args.caller.now (Ok c.in-Some.attr)) c.args.caller.now.next_xid
    (λ h. known_here (IsSettledBy h) c.args.nfs c.args.root p.file p.attr c.in-Some.attr p.links c.args.caller.now c.in-Some.is)

pub returns-in-Ok-clause-went : goal.returns-in-Ok-clause-went
returns-in-Ok-clause-went g c =
    let p = c.args.place.now in
    went_weaker (g.L.Link.told c.args.link.now) (g.L.Link.told c.getattr.new.link)
    (StatusCame stage.Getattr c.args.caller.now c.args.nfs (asks.Nfs (args.Getattr p.file)) attributes (Ok c.in-Ok.attr))
    (Knows c.args.nfs c.args.root (at p.file p.attr [] p.links) c.args.caller.now p.file p.links c.getattr.new.caller (Ok c.in-Ok.attr)) 0 c.args.caller.now.next_xid c.getattr.new.caller.next_xid
    (λ h part k. ask_here (IsSettledBy h) c.args.nfs c.args.root p.file p.attr c.in-Ok.attr p.links c.args.caller.now c.getattr.new.caller part c.in-None.is c.getattr.ensures.xid k)
    c.in-Ok.ensures.went

pub returns-in-Ok-clause-trusted : goal.returns-in-Ok-clause-trusted
returns-in-Ok-clause-trusted g c =
    let p = c.args.place.now in
    trusted_weaker (g.L.Link.told c.args.link.now) (g.L.Link.told c.getattr.new.link) c.args.caller.now c.args.nfs c.getattr.new.caller.next_xid
    (λ k. (number : ℕ) → IsFile k p.file number → AreOf k number c.in-Ok.attr) (λ k. (number : ℕ) → IsAt k p.file p.attr number → AreOf k number c.in-Ok.attr)
    (λ k is f number at. f number at.is) c.in-Ok.ensures.trusted

pub returns-in-Err-clause-error : goal.returns-in-Err-clause-error
returns-in-Err-clause-error g c = walk_error c.in-Err.why c.in-Err.ensures.error

pub returns-in-Err-clause-no_loop : goal.returns-in-Err-clause-no_loop
returns-in-Err-clause-no_loop g c = no_loop c.in-Err.why c.in-Err.ensures.error

pub returns-in-Err-clause-went : goal.returns-in-Err-clause-went
returns-in-Err-clause-went g c =
    let p = c.args.place.now in
    let what = asks.Nfs (args.Getattr p.file) in
    went_weaker (g.L.Link.told c.args.link.now) (g.L.Link.told c.getattr.new.link)
    (StatusCame stage.Getattr c.args.caller.now c.args.nfs what attributes (Err c.in-Err.why))
    (Knows c.args.nfs c.args.root (at p.file p.attr [] p.links) c.args.caller.now p.file p.links c.getattr.new.caller (Err c.in-Err.why)) (error_fails c.in-Err.why) c.args.caller.now.next_xid c.getattr.new.caller.next_xid
    (λ h part k. status_ends c.args.nfs c.args.root (at p.file p.attr [] p.links) c.args.caller.now stage.Getattr what attributes c.in-Err.why h part (λ status. refl) (asks_here p.file p.attr p.links c.in-None.is) k)
    c.in-Err.ensures.went
