use Rattle.std.proofs.Common.{◌≡◌, ℕ, ◌<◌, ◌≤◌, List, ◌∷◌, length, Some, Ok, Err, refl, ap, arith}
use Rattle.sd_nfs_msg.specs.declared.message.NfsArgs.TheVariants as args
use Rattle.sd_config.specs.declared.stage.Stage.TheVariants as stage
use Rattle.sd_link.specs.Link.{IsSettledBy}
use Rattle.sd_rpc_retry.specs.declared.calling.Ask.TheVariants as asks
use Rattle.sd_rpc_retry.specs.Calling.{home}
use Rattle.sd_rpc_retry.specs.Questions.{found}
use Rattle.sd_loader.specs.declared.errors.LoadError.TheVariants as errors
use Rattle.sd_loader.specs.Walk.{root as the_root}
use Rattle.sd_loader.specs.Found.{IsFile, IsFound}
use Rattle.sd_loader.specs.Walking.{OnPath, OnLink}
use Rattle.sd_loader.specs.Causes.{StatusCame}
use Rattle.sd_loader.specs.Went.{error_fails}
use Rattle.sd_loader.specs.WalkCalls.{at, at_link, asks_lookup, WalksOn}
use Rattle.sd_loader.proofs.Composing.{went_not, went_weaker, went_then, comes_goes, walked_goes}
use Rattle.sd_loader.proofs.Telling.{trusted_not, trusted_weaker, trusted_then}
use Rattle.sd_loader.proofs.WalkSteps.{something, path_skips, path_enters, path_meets}
use Rattle.sd_loader.proofs.Walks.{status_ends, skip_here, long_here, enter_here, meet_here}
use Rattle.sd_loader.proofs.walking.step.Goals as goal

pub returns-then-is_empty-clause-went : goal.returns-then-is_empty-clause-went
returns-then-is_empty-clause-went g c =
    let p = c.args.place.now in
    let first = c.args.caller.now in
    let name = c.args.name.now in
    let none : length name ≡ 0 = grind arith in
    went_not (g.L.Link.told c.args.link.now) (WalksOn c.args.nfs c.args.root (at p.file p.attr (name ∷ p.way) p.links) first (at p.file p.attr p.way p.links) first (Ok tt)) first.next_xid
    (λ h. skip_here (IsSettledBy h) c.args.nfs c.args.root p.file p.attr name p.way p.links first none)

pub returns-then-is_empty-clause-trusted : goal.returns-then-is_empty-clause-trusted
returns-then-is_empty-clause-trusted g c =
    let p = c.args.place.now in
    let name = c.args.name.now in
    let none : length name ≡ 0 = grind arith in
    trusted_not (g.L.Link.told c.args.link.now) c.args.caller.now c.args.nfs
    (λ k. IsFile k c.args.root the_root → (path : List ℕ) → OnPath k path p.links (name ∷ p.way) p.file p.attr → OnPath k path p.links p.way p.file p.attr)
    (λ k own path on. path_skips k path p.links name p.way p.file p.attr none on)

pub returns-then-name-gt-MOST_NAME-clause-went : goal.returns-then-name-gt-MOST_NAME-clause-went
returns-then-name-gt-MOST_NAME-clause-went g c =
    let p = c.args.place.now in
    let first = c.args.caller.now in
    let name = c.args.name.now in
    went_not (g.L.Link.told c.args.link.now) (WalksOn c.args.nfs c.args.root (at p.file p.attr (name ∷ p.way) p.links) first (at p.file p.attr p.way p.links) first (Err (errors.Refused stage.Lookup 63))) first.next_xid
    (λ h. long_here (IsSettledBy h) c.args.nfs c.args.root p.file p.attr name p.way p.links first c.if-name-gt-MOST_NAME.true)

pub returns-in-Err-clause-went : goal.returns-in-Err-clause-went
returns-in-Err-clause-went g c =
    let p = c.args.place.now in
    let first = c.args.caller.now in
    let name = c.args.name.now in
    let what = asks.Nfs (args.Lookup p.file name) in
    let long : 0 < length name = grind arith in
    let some = something name long in
    let short : length name ≤ 255 = omega (arith, c.if-name-gt-MOST_NAME.false) in
    went_weaker (g.L.Link.told c.args.link.now) (g.L.Link.told c.lookup.new.link) (StatusCame stage.Lookup first c.args.nfs what found (Err c.in-Err.why))
    (WalksOn c.args.nfs c.args.root (at p.file p.attr (name ∷ p.way) p.links) first (at p.file p.attr p.way p.links) c.lookup.new.caller (Err c.in-Err.why)) (error_fails c.in-Err.why) first.next_xid c.lookup.new.caller.next_xid
    (λ h part k. status_ends c.args.nfs c.args.root (at p.file p.attr (name ∷ p.way) p.links) first stage.Lookup what found c.in-Err.why h part (λ status. refl) (asks_lookup p.file p.attr name p.way p.links some short) k)
    c.in-Err.ensures.went

pub returns-in-Ok-follow-clause-went : goal.returns-in-Ok-follow-clause-went
returns-in-Ok-follow-clause-went g c =
    let p = c.args.place.now in
    let first = c.args.caller.now in
    let name = c.args.name.now in
    let what = asks.Nfs (args.Lookup p.file name) in
    let long : 0 < length name = grind arith in
    let some = something name long in
    let short : length name ≤ 255 = omega (arith, c.if-name-gt-MOST_NAME.false) in
    let got = c.in-Ok.found in
    let between = c.lookup.new.caller in
    let now = c.follow.new.caller in
    let q = c.follow.new.place in
    let start = at p.file p.attr (name ∷ p.way) p.links in
    let mid = at_link p.file p.attr got.file p.way p.links in
    let there = at q.file q.attr q.way q.links in
    went_then (g.L.Link.told c.args.link.now) (g.L.Link.told c.lookup.new.link) (g.L.Link.told c.follow.new.link)
    (StatusCame stage.Lookup first c.args.nfs what found (Ok got)) (WalksOn c.args.nfs c.args.root mid between there now (Ok tt)) (WalksOn c.args.nfs c.args.root start first there now (Ok tt)) 0 first.next_xid between.next_xid now.next_xid
    (λ a b xs ys goes k m.
    comes_goes c.args.nfs c.args.root start mid there first between now a b xs ys goes
    (meet_here (IsSettledBy a) c.args.nfs c.args.root p.file got.file p.attr got.attr name p.way p.links first between xs some short c.if-found-eq-LINK.true c.lookup.ensures.xid k) m)
    c.in-Ok.ensures.went c.in-Ok-follow.ensures.went

pub returns-in-Err-follow-clause-went : goal.returns-in-Err-follow-clause-went
returns-in-Err-follow-clause-went g c =
    let p = c.args.place.now in
    let first = c.args.caller.now in
    let name = c.args.name.now in
    let what = asks.Nfs (args.Lookup p.file name) in
    let long : 0 < length name = grind arith in
    let some = something name long in
    let short : length name ≤ 255 = omega (arith, c.if-name-gt-MOST_NAME.false) in
    let got = c.in-Ok.found in
    let between = c.lookup.new.caller in
    let now = c.follow.new.caller in
    let q = c.follow.new.place in
    let start = at p.file p.attr (name ∷ p.way) p.links in
    let mid = at_link p.file p.attr got.file p.way p.links in
    let there = at q.file q.attr q.way q.links in
    went_then (g.L.Link.told c.args.link.now) (g.L.Link.told c.lookup.new.link) (g.L.Link.told c.follow.new.link)
    (StatusCame stage.Lookup first c.args.nfs what found (Ok got)) (WalksOn c.args.nfs c.args.root mid between there now (Err c.in-Err-follow.why)) (WalksOn c.args.nfs c.args.root start first there now (Err c.in-Err-follow.why))
    (error_fails c.in-Err-follow.why) first.next_xid between.next_xid now.next_xid
    (λ a b xs ys goes k m.
    walked_goes c.args.nfs c.args.root start mid first between (Err c.in-Err-follow.why) a b xs ys goes
    (meet_here (IsSettledBy a) c.args.nfs c.args.root p.file got.file p.attr got.attr name p.way p.links first between xs some short c.if-found-eq-LINK.true c.lookup.ensures.xid k) m)
    c.in-Ok.ensures.went c.in-Err-follow.ensures.went

pub returns-in-Ok-follow-clause-trusted : goal.returns-in-Ok-follow-clause-trusted
returns-in-Ok-follow-clause-trusted g c =
    let p = c.args.place.now in
    let first = c.args.caller.now in
    let name = c.args.name.now in
    let long : 0 < length name = grind arith in
    let got = c.in-Ok.found in
    let between = c.lookup.new.caller in
    let now = c.follow.new.caller in
    let q = c.follow.new.place in
    trusted_then (g.L.Link.told c.args.link.now) (g.L.Link.told c.lookup.new.link) (g.L.Link.told c.follow.new.link) first between c.args.nfs now.next_xid
    (λ k. (number : ℕ) → IsFile k p.file number → IsFound k number name got.file got.attr)
    (λ k. IsFile k c.args.root the_root → (path : List ℕ) → OnLink k path p.links p.way p.file p.attr got.file → OnPath k path q.links q.way q.file q.attr)
    (λ k. IsFile k c.args.root the_root → (path : List ℕ) → OnPath k path p.links (name ∷ p.way) p.file p.attr → OnPath k path q.links q.way q.file q.attr)
    (ap home c.lookup.ensures.xid)
    (λ k finds follows own path on. follows own path (path_meets k path p.links name p.way p.file got.file p.attr got.attr long finds on))
    c.in-Ok.ensures.trusted c.in-Ok-follow.ensures.trusted

pub returns-clause-went : goal.returns-clause-went
returns-clause-went g c =
    let p = c.args.place.now in
    let first = c.args.caller.now in
    let name = c.args.name.now in
    let what = asks.Nfs (args.Lookup p.file name) in
    let long : 0 < length name = grind arith in
    let some = something name long in
    let short : length name ≤ 255 = omega (arith, c.if-name-gt-MOST_NAME.false) in
    let got = c.in-Ok.found in
    went_weaker (g.L.Link.told c.args.link.now) (g.L.Link.told c.lookup.new.link) (StatusCame stage.Lookup first c.args.nfs what found (Ok got))
    (WalksOn c.args.nfs c.args.root (at p.file p.attr (name ∷ p.way) p.links) first (at got.file (Some got.attr) p.way p.links) c.lookup.new.caller (Ok tt)) 0 first.next_xid c.lookup.new.caller.next_xid
    (λ h part k. enter_here (IsSettledBy h) c.args.nfs c.args.root p.file got.file p.attr got.attr name p.way p.links first c.lookup.new.caller part some short c.if-found-eq-LINK.false c.lookup.ensures.xid k)
    c.in-Ok.ensures.went

pub returns-clause-trusted : goal.returns-clause-trusted
returns-clause-trusted g c =
    let p = c.args.place.now in
    let name = c.args.name.now in
    let long : 0 < length name = grind arith in
    let got = c.in-Ok.found in
    trusted_weaker (g.L.Link.told c.args.link.now) (g.L.Link.told c.lookup.new.link) c.args.caller.now c.args.nfs c.lookup.new.caller.next_xid
    (λ k. (number : ℕ) → IsFile k p.file number → IsFound k number name got.file got.attr)
    (λ k. IsFile k c.args.root the_root → (path : List ℕ) → OnPath k path p.links (name ∷ p.way) p.file p.attr → OnPath k path p.links p.way got.file (Some got.attr))
    (λ k is finds own path on. path_enters k path p.links name p.way p.file got.file p.attr got.attr long c.if-found-eq-LINK.false finds on)
    c.in-Ok.ensures.trusted
