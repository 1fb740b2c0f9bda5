use Rattle.std.proofs.Common.{◌≡◌, ℕ, ◌+◌, ◌<◌, true, false, List, ◌++◌, None, Ok, Err, refl, sym, ap, subst, ◌∙◌, arith}
use Rattle.sd_nfs_msg.specs.declared.message.NfsArgs.TheVariants as args
use Rattle.sd_config.specs.declared.stage.Stage.TheVariants as stage
use Rattle.sd_services.specs.Files.{exported}
use Rattle.sd_services.specs.declared.node.Standing.TheVariants.{Symlink}
use Rattle.sd_link.specs.Link.{Moves, IsSettledBy}
use Rattle.sd_rpc_retry.specs.declared.calling.Ask.TheVariants as asks
use Rattle.sd_rpc_retry.specs.declared.calling.CallError.TheVariants as call_error
use Rattle.sd_rpc_retry.specs.Questions.{target}
use Rattle.sd_loader.specs.declared.errors.LoadError.{LoadError}
use Rattle.sd_loader.specs.declared.errors.LoadError.TheVariants as errors
use Rattle.sd_loader.specs.Walk.{root as the_root, components, is_absolute, what_at}
use Rattle.sd_loader.specs.Found.{IsFile}
use Rattle.sd_loader.specs.Walking.{OnPath, OnLink}
use Rattle.sd_loader.specs.Causes.{StatusCame}
use Rattle.sd_loader.specs.Went.{Went, error_fails}
use Rattle.sd_loader.specs.WalkCalls.{at, at_link, asks_readlink, memory, WalksOn}
use Rattle.sd_loader.proofs.Composing.{went_not, went_weaker}
use Rattle.sd_loader.proofs.Telling.{trusted_weaker}
use Rattle.sd_loader.proofs.WalkSteps.{follow_few, followed_root, followed_dir}
use Rattle.sd_loader.proofs.Walks.{status_ends, loop_here, absolute_link, relative_link}
use Rattle.sd_loader.proofs.walking.follow.Goals as goal

pub returns-then-place-eq-MOST_LINKS-clause-went : goal.returns-then-place-eq-MOST_LINKS-clause-went
returns-then-place-eq-MOST_LINKS-clause-went g c =
    let p = c.args.place.now in
    let first = c.args.caller.now in
    went_not (g.L.Link.told c.args.link.now) (WalksOn c.args.nfs c.args.root (at_link p.file p.attr c.args.file p.way p.links) first (at p.file p.attr p.way p.links) first (Err errors.Loop)) first.next_xid
    (λ h. loop_here (IsSettledBy h) c.args.nfs c.args.root p.file c.args.file p.attr p.way p.links first c.if-place-eq-MOST_LINKS.true)

pub returns-in-Err-clause-went : goal.returns-in-Err-clause-went
returns-in-Err-clause-went g c =
    let p = c.args.place.now in
    let first = c.args.caller.now in
    let what = asks.Nfs (args.Readlink c.args.file) in
    let few : p.links < 8 = omega (arith, c.if-place-eq-MOST_LINKS.false, c.requires.links) in
    went_weaker (g.L.Link.told c.args.link.now) (g.L.Link.told c.readlink.new.link) (StatusCame stage.Readlink first c.args.nfs what target (Err c.in-Err.why))
    (WalksOn c.args.nfs c.args.root (at_link p.file p.attr c.args.file p.way p.links) first (at p.file p.attr p.way p.links) c.readlink.new.caller (Err c.in-Err.why)) (error_fails c.in-Err.why) first.next_xid c.readlink.new.caller.next_xid
    (λ h part k. status_ends c.args.nfs c.args.root (at_link p.file p.attr c.args.file p.way p.links) first stage.Readlink what target c.in-Err.why h part (λ status. refl) (asks_readlink p.file p.attr c.args.file p.way p.links few) k)
    c.in-Err.ensures.went

pub returns-in-Err-turn-clause-went : goal.returns-in-Err-turn-clause-went
returns-in-Err-turn-clause-went g c =
    let p = c.args.place.now in
    let first = c.args.caller.now in
    let what = asks.Nfs (args.Readlink c.args.file) in
    let old = g.L.Link.told c.args.link.now in
    let new = g.L.Link.told c.readlink.new.link in
    let start = at_link p.file p.attr c.args.file p.way p.links in
    let there = at p.file p.attr c.turn.new.self p.links in
    subst (λ (e : LoadError). Moves old new (Went (WalksOn c.args.nfs c.args.root start first there c.readlink.new.caller (Err e)) (error_fails e) first.next_xid c.readlink.new.caller.next_xid)) (sym c.out_of_memory.ensures)
    (went_weaker old new (StatusCame stage.Readlink first c.args.nfs what target (Ok c.in-Ok.target))
    (WalksOn c.args.nfs c.args.root start first there c.readlink.new.caller (Err (errors.Call stage.Readlink call_error.NoMemory))) 0 first.next_xid c.readlink.new.caller.next_xid
    (λ h part k. memory stage.Readlink part) c.in-Ok.ensures.went)

pub returns-then-is_absolute-clause-few : goal.returns-then-is_absolute-clause-few
returns-then-is_absolute-clause-few g c = follow_few c.as_slice-text.result.now c.args.place.now.way c.turn.new.self c.in-Ok-turn.ensures c.as_slice-text.ensures.few

pub returns-clause-few : goal.returns-clause-few
returns-clause-few g c = follow_few c.as_slice-text.result.now c.args.place.now.way c.turn.new.self c.in-Ok-turn.ensures c.as_slice-text.ensures.few

pub returns-then-is_absolute-clause-went : goal.returns-then-is_absolute-clause-went
returns-then-is_absolute-clause-went g c =
    let p = c.args.place.now in
    let first = c.args.caller.now in
    let text = c.in-Ok.target in
    let what = asks.Nfs (args.Readlink c.args.file) in
    let few : p.links < 8 = omega (arith, c.if-place-eq-MOST_LINKS.false, c.requires.links) in
    let way : c.turn.new.self ≡ components text ++ p.way = c.in-Ok-turn.ensures ∙ ap (λ (t : List ℕ). components t ++ p.way) c.as_slice-text.ensures.bytes in
    let absolute : is_absolute text ≡ true = ap is_absolute (sym c.as_slice-text.ensures.bytes) ∙ sym c.is_absolute.ensures ∙ c.if-is_absolute.true in
    went_weaker (g.L.Link.told c.args.link.now) (g.L.Link.told c.readlink.new.link) (StatusCame stage.Readlink first c.args.nfs what target (Ok text))
    (WalksOn c.args.nfs c.args.root (at_link p.file p.attr c.args.file p.way p.links) first (at c.args.root None c.turn.new.self (p.links + 1)) c.readlink.new.caller (Ok tt)) 0 first.next_xid c.readlink.new.caller.next_xid
    (λ h part k. absolute_link (IsSettledBy h) c.args.nfs c.args.root p.file c.args.file p.attr p.way c.turn.new.self p.links (p.links + 1) first c.readlink.new.caller text part few absolute way refl c.readlink.ensures.xid k)
    c.in-Ok.ensures.went

pub returns-clause-went : goal.returns-clause-went
returns-clause-went g c =
    let p = c.args.place.now in
    let first = c.args.caller.now in
    let text = c.in-Ok.target in
    let what = asks.Nfs (args.Readlink c.args.file) in
    let few : p.links < 8 = omega (arith, c.if-place-eq-MOST_LINKS.false, c.requires.links) in
    let way : c.turn.new.self ≡ components text ++ p.way = c.in-Ok-turn.ensures ∙ ap (λ (t : List ℕ). components t ++ p.way) c.as_slice-text.ensures.bytes in
    let relative : is_absolute text ≡ false = ap is_absolute (sym c.as_slice-text.ensures.bytes) ∙ sym c.is_absolute.ensures ∙ c.if-is_absolute.false in
    went_weaker (g.L.Link.told c.args.link.now) (g.L.Link.told c.readlink.new.link) (StatusCame stage.Readlink first c.args.nfs what target (Ok text))
    (WalksOn c.args.nfs c.args.root (at_link p.file p.attr c.args.file p.way p.links) first (at p.file p.attr c.turn.new.self (p.links + 1)) c.readlink.new.caller (Ok tt)) 0 first.next_xid c.readlink.new.caller.next_xid
    (λ h part k. relative_link (IsSettledBy h) c.args.nfs c.args.root p.file c.args.file p.attr p.way c.turn.new.self p.links (p.links + 1) first c.readlink.new.caller text part few relative way refl c.readlink.ensures.xid k)
    c.in-Ok.ensures.went

pub returns-then-is_absolute-clause-trusted : goal.returns-then-is_absolute-clause-trusted
returns-then-is_absolute-clause-trusted g c =
    let p = c.args.place.now in
    let text = c.in-Ok.target in
    let way : c.turn.new.self ≡ components text ++ p.way = c.in-Ok-turn.ensures ∙ ap (λ (t : List ℕ). components t ++ p.way) c.as_slice-text.ensures.bytes in
    let absolute : is_absolute text ≡ true = ap is_absolute (sym c.as_slice-text.ensures.bytes) ∙ sym c.is_absolute.ensures ∙ c.if-is_absolute.true in
    trusted_weaker (g.L.Link.told c.args.link.now) (g.L.Link.told c.readlink.new.link) c.args.caller.now c.args.nfs c.readlink.new.caller.next_xid
    (λ k. (number : ℕ) → IsFile k c.args.file number → what_at (exported k).root number ≡ Symlink text)
    (λ k. IsFile k c.args.root the_root → (path : List ℕ) → OnLink k path p.links p.way p.file p.attr c.args.file → OnPath k path (p.links + 1) c.turn.new.self c.args.root None)
    (λ k is names own path on. followed_root k path p.links p.way c.turn.new.self text p.file c.args.file c.args.root p.attr absolute own names way on)
    c.in-Ok.ensures.trusted

pub returns-clause-trusted : goal.returns-clause-trusted
returns-clause-trusted g c =
    let p = c.args.place.now in
    let text = c.in-Ok.target in
    let way : c.turn.new.self ≡ components text ++ p.way = c.in-Ok-turn.ensures ∙ ap (λ (t : List ℕ). components t ++ p.way) c.as_slice-text.ensures.bytes in
    let relative : is_absolute text ≡ false = ap is_absolute (sym c.as_slice-text.ensures.bytes) ∙ sym c.is_absolute.ensures ∙ c.if-is_absolute.false in
    trusted_weaker (g.L.Link.told c.args.link.now) (g.L.Link.told c.readlink.new.link) c.args.caller.now c.args.nfs c.readlink.new.caller.next_xid
    (λ k. (number : ℕ) → IsFile k c.args.file number → what_at (exported k).root number ≡ Symlink text)
    (λ k. IsFile k c.args.root the_root → (path : List ℕ) → OnLink k path p.links p.way p.file p.attr c.args.file → OnPath k path (p.links + 1) c.turn.new.self p.file p.attr)
    (λ k is names own path on. followed_dir k path p.links p.way c.turn.new.self text p.file c.args.file p.attr relative names way on)
    c.in-Ok.ensures.trusted
