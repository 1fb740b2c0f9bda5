use Rattle.std.proofs.Common.{◌≡◌, ℕ, List, [], ◌∷◌, length, Option, None, Ok, Err, refl, sym, ap, subst, ◌∙◌, arith}
use Rattle.std.specs.Prelude.{MatchOption}
use Rattle.std.proofs.lemmas.Result.{IfOk-weaker}
use Rattle.sd_config.specs.declared.stage.Stage.TheVariants as stage
use Rattle.sd_link.specs.Link.{Moves, IsSettledBy}
use Rattle.sd_rpc_retry.specs.declared.calling.Caller.{Caller}
use Rattle.sd_rpc_retry.specs.declared.calling.CallError.TheVariants as call_error
use Rattle.sd_rpc_retry.specs.Calling.{home}
use Rattle.sd_loader.specs.declared.errors.LoadError.{LoadError}
use Rattle.sd_loader.specs.declared.errors.LoadError.TheVariants as errors
use Rattle.sd_loader.specs.Walk.{root as the_root, components}
use Rattle.sd_loader.specs.Found.{IsFile, AreOf, IsReached}
use Rattle.sd_loader.specs.Walking.{IsAt, OnPath}
use Rattle.sd_loader.specs.Trust.{Trusted}
use Rattle.sd_loader.specs.Went.{load_fails, error_fails}
use Rattle.sd_loader.specs.WalkCalls.{at, Comes, begins, Walked, memory, WalksOn}
use Rattle.sd_loader.proofs.Composing.{went_not, went_weaker, went_then, came_of, fails_of, lasts_of, comes_goes, walked_goes}
use Rattle.sd_loader.proofs.Telling.{trusted_not, trusted_then}
use Rattle.sd_loader.proofs.WayLaws.{few_components}
use Rattle.sd_loader.proofs.WalkSteps.{path_begins, path_ends}
use Rattle.sd_loader.proofs.walking.walk.Goals as goal

pub returns-in-Err-clause-told : goal.returns-in-Err-clause-told
returns-in-Err-clause-told g c =
    let now = g.L.Link.told c.args.link.now in
    let start = at c.args.root.now None (components c.args.path.now) 0 in
    let first = c.args.caller.now in
    subst (λ (e : LoadError). Moves now now (λ h part. Walked (IsSettledBy h) c.args.nfs c.args.root.now start first (Err e) part)) (sym c.out_of_memory.ensures)
    (came_of now now (λ h part. Walked (IsSettledBy h) c.args.nfs c.args.root.now start first (Err (errors.Call stage.Lookup call_error.NoMemory)) part) 0 first.next_xid first.next_xid
    (went_not now (λ h part. Walked (IsSettledBy h) c.args.nfs c.args.root.now start first (Err (errors.Call stage.Lookup call_error.NoMemory)) part) first.next_xid (λ h. memory stage.Lookup [])))

pub loop-name-init : goal.loop-name-init
loop-name-init g c =
    let path = c.args.path.now in
    let few = few_components path in
    let way = ap length c.in-Ok.ensures in
    let first = c.args.caller.now in
    let now = g.L.Link.told c.args.link.now in
    let root = c.args.root.now in
    record {
      same = refl;
      links = omega arith;
      room = omega (arith, few, way, c.requires.path);
      each = omega arith;
      went =
          went_not now (λ h part. Comes (IsSettledBy h) c.args.nfs root (at root None (components path) 0) first (at root None c.in-Ok.way 0) first part) first.next_xid
          (λ h. subst (λ (l : List (List ℕ)). Comes (IsSettledBy h) c.args.nfs root (at root None (components path) 0) first (at root None l 0) first []) (sym c.in-Ok.ensures) begins);
      trusted = trusted_not now first c.args.nfs (λ k. IsFile k root the_root → OnPath k path 0 c.in-Ok.way root None) (λ k file. path_begins k path c.in-Ok.way root c.in-Ok.ensures file);
      faults = omega arith;
      drained = refl;
    }

pub returns-in-Ok-None-clause-told : goal.returns-in-Ok-None-clause-told
returns-in-Ok-None-clause-told g c =
    let place = c.loop-name.place in
    let root = c.args.root.now in
    let start = at root None (components c.args.path.now) 0 in
    let first = c.args.caller.now in
    let between = c.loop-name.caller in
    let rest = c.next.new.self in
    let none : (place.way ≡ []) × (rest ≡ []) = subst (λ (o : Option (List ℕ)). MatchOption o ((place.way ≡ []) × (rest ≡ [])) (λ name. place.way ≡ name ∷ rest)) c.in-Ok-None.field-0-is c.in-Ok-None.ensures in
    let same : rest ≡ place.way = none.1 ∙ sym none.0 in
    came_of (g.L.Link.told c.args.link.now) (g.L.Link.told c.finish.new.link) (λ h part. Walked (IsSettledBy h) c.args.nfs root start first c.finish.result part) (load_fails c.finish.result) first.next_xid c.finish.new.caller.next_xid
    (went_then (g.L.Link.told c.args.link.now) (g.L.Link.told c.loop-name.link) (g.L.Link.told c.finish.new.link)
    (λ h part. Comes (IsSettledBy h) c.args.nfs root start first (at place.file place.attr place.way place.links) between part)
    (λ h part. Walked (IsSettledBy h) c.args.nfs root (at place.file place.attr rest place.links) between c.finish.result part)
    (λ h part. Walked (IsSettledBy h) c.args.nfs root start first c.finish.result part)
    (load_fails c.finish.result) first.next_xid between.next_xid c.finish.new.caller.next_xid
    (λ a b xs ys goes k m.
    walked_goes c.args.nfs root start (at place.file place.attr place.way place.links) first between c.finish.result a b xs ys goes k
    (subst (λ (l : List (List ℕ)). Walked (IsSettledBy b) c.args.nfs root (at place.file place.attr l place.links) between c.finish.result ys) same m))
    c.loop-name.invariant.went c.finish.ensures.went)

pub returns-in-Ok-None-clause-fails : goal.returns-in-Ok-None-clause-fails
returns-in-Ok-None-clause-fails g c =
    let place = c.loop-name.place in
    let root = c.args.root.now in
    let start = at root None (components c.args.path.now) 0 in
    let first = c.args.caller.now in
    let between = c.loop-name.caller in
    let rest = c.next.new.self in
    let none : (place.way ≡ []) × (rest ≡ []) = subst (λ (o : Option (List ℕ)). MatchOption o ((place.way ≡ []) × (rest ≡ [])) (λ name. place.way ≡ name ∷ rest)) c.in-Ok-None.field-0-is c.in-Ok-None.ensures in
    let same : rest ≡ place.way = none.1 ∙ sym none.0 in
    fails_of (g.L.Link.told c.args.link.now) (g.L.Link.told c.finish.new.link) (λ h part. Walked (IsSettledBy h) c.args.nfs root start first c.finish.result part) (load_fails c.finish.result) first.next_xid c.finish.new.caller.next_xid
    (went_then (g.L.Link.told c.args.link.now) (g.L.Link.told c.loop-name.link) (g.L.Link.told c.finish.new.link)
    (λ h part. Comes (IsSettledBy h) c.args.nfs root start first (at place.file place.attr place.way place.links) between part)
    (λ h part. Walked (IsSettledBy h) c.args.nfs root (at place.file place.attr rest place.links) between c.finish.result part)
    (λ h part. Walked (IsSettledBy h) c.args.nfs root start first c.finish.result part)
    (load_fails c.finish.result) first.next_xid between.next_xid c.finish.new.caller.next_xid
    (λ a b xs ys goes k m.
    walked_goes c.args.nfs root start (at place.file place.attr place.way place.links) first between c.finish.result a b xs ys goes k
    (subst (λ (l : List (List ℕ)). Walked (IsSettledBy b) c.args.nfs root (at place.file place.attr l place.links) between c.finish.result ys) same m))
    c.loop-name.invariant.went c.finish.ensures.went)

pub returns-in-Ok-None-clause-lasts : goal.returns-in-Ok-None-clause-lasts
returns-in-Ok-None-clause-lasts g c =
    let place = c.loop-name.place in
    let root = c.args.root.now in
    let start = at root None (components c.args.path.now) 0 in
    let first = c.args.caller.now in
    let between = c.loop-name.caller in
    let rest = c.next.new.self in
    let none : (place.way ≡ []) × (rest ≡ []) = subst (λ (o : Option (List ℕ)). MatchOption o ((place.way ≡ []) × (rest ≡ [])) (λ name. place.way ≡ name ∷ rest)) c.in-Ok-None.field-0-is c.in-Ok-None.ensures in
    let same : rest ≡ place.way = none.1 ∙ sym none.0 in
    lasts_of (g.L.Link.told c.args.link.now) (g.L.Link.told c.finish.new.link) (λ h part. Walked (IsSettledBy h) c.args.nfs root start first c.finish.result part) (load_fails c.finish.result) first.next_xid c.finish.new.caller.next_xid 10000 (omega (arith, c.loop-name.invariant.room, c.loop-name.invariant.links, c.finish.ensures.most))
    (went_then (g.L.Link.told c.args.link.now) (g.L.Link.told c.loop-name.link) (g.L.Link.told c.finish.new.link)
    (λ h part. Comes (IsSettledBy h) c.args.nfs root start first (at place.file place.attr place.way place.links) between part)
    (λ h part. Walked (IsSettledBy h) c.args.nfs root (at place.file place.attr rest place.links) between c.finish.result part)
    (λ h part. Walked (IsSettledBy h) c.args.nfs root start first c.finish.result part)
    (load_fails c.finish.result) first.next_xid between.next_xid c.finish.new.caller.next_xid
    (λ a b xs ys goes k m.
    walked_goes c.args.nfs root start (at place.file place.attr place.way place.links) first between c.finish.result a b xs ys goes k
    (subst (λ (l : List (List ℕ)). Walked (IsSettledBy b) c.args.nfs root (at place.file place.attr l place.links) between c.finish.result ys) same m))
    c.loop-name.invariant.went c.finish.ensures.went)

pub returns-in-Ok-None-clause-reached : goal.returns-in-Ok-None-clause-reached
returns-in-Ok-None-clause-reached g c =
    let place = c.loop-name.place in
    let root = c.args.root.now in
    let path = c.args.path.now in
    let first = c.args.caller.now in
    let between = c.loop-name.caller in
    let rest = c.next.new.self in
    let last = c.finish.new.caller.next_xid in
    let old = g.L.Link.told c.args.link.now in
    let mid = g.L.Link.told c.loop-name.link in
    let new = g.L.Link.told c.finish.new.link in
    let none : (place.way ≡ []) × (rest ≡ []) = subst (λ (o : Option (List ℕ)). MatchOption o ((place.way ≡ []) × (rest ≡ [])) (λ name. place.way ≡ name ∷ rest)) c.in-Ok-None.field-0-is c.in-Ok-None.ensures in
    IfOk-weaker c.finish.result (λ got. Moves mid new (Trusted between c.args.nfs last (λ k. (number : ℕ) → IsAt k place.file place.attr number → IsFile k got.0 number × AreOf k number got.1)))
    (λ got. Moves old new (Trusted first c.args.nfs last (λ k. IsFile k root the_root → IsReached k path got.0 got.1)))
    (λ got m.
    trusted_then old mid new first between c.args.nfs last (λ k. IsFile k root the_root → OnPath k path place.links place.way place.file place.attr)
    (λ k. (number : ℕ) → IsAt k place.file place.attr number → IsFile k got.0 number × AreOf k number got.1) (λ k. IsFile k root the_root → IsReached k path got.0 got.1)
    (ap home c.loop-name.invariant.same) (λ k p t file. path_ends k path place.links place.way place.file got.0 place.attr got.1 c.loop-name.invariant.links none.0 (p file) t)
    c.loop-name.invariant.trusted m)
    c.finish.ensures.trusted

pub returns-in-Err-next-clause-told : goal.returns-in-Err-next-clause-told
returns-in-Err-next-clause-told g c =
    let place = c.loop-name.place in
    let root = c.args.root.now in
    let start = at root None (components c.args.path.now) 0 in
    let first = c.args.caller.now in
    let between = c.loop-name.caller in
    let old = g.L.Link.told c.args.link.now in
    let new = g.L.Link.told c.loop-name.link in
    subst (λ (e : LoadError). Moves old new (λ h part. Walked (IsSettledBy h) c.args.nfs root start first (Err e) part)) (sym c.out_of_memory-in-Err-next.ensures)
    (came_of old new (λ h part. Walked (IsSettledBy h) c.args.nfs root start first (Err (errors.Call stage.Lookup call_error.NoMemory)) part) 0 first.next_xid between.next_xid
    (went_weaker old new (λ h part. Comes (IsSettledBy h) c.args.nfs root start first (at place.file place.attr place.way place.links) between part)
    (λ h part. Walked (IsSettledBy h) c.args.nfs root start first (Err (errors.Call stage.Lookup call_error.NoMemory)) part) 0 first.next_xid between.next_xid (λ h part k. memory stage.Lookup part)
    c.loop-name.invariant.went))

pub returns-in-Err-step-clause-told : goal.returns-in-Err-step-clause-told
returns-in-Err-step-clause-told g c =
    let place = c.loop-name.place in
    let root = c.args.root.now in
    let start = at root None (components c.args.path.now) 0 in
    let first = c.args.caller.now in
    let between = c.loop-name.caller in
    let rest = c.next.new.self in
    let name = c.as_slice.result.now in
    let last = c.step.new.caller in
    let q = c.step.new.place in
    let got : place.way ≡ c.in-Ok-Some.name ∷ rest = subst (λ (o : Option (List ℕ)). MatchOption o ((place.way ≡ []) × (rest ≡ [])) (λ n. place.way ≡ n ∷ rest)) c.in-Ok-Some.field-0-is c.in-Ok-Some.ensures in
    let cut : place.way ≡ name ∷ rest = got ∙ ap (λ (n : List ℕ). n ∷ rest) (sym c.as_slice.ensures) in
    came_of (g.L.Link.told c.args.link.now) (g.L.Link.told c.step.new.link) (λ h part. Walked (IsSettledBy h) c.args.nfs root start first (Err c.in-Err-step.why) part) (error_fails c.in-Err-step.why) first.next_xid last.next_xid
    (went_then (g.L.Link.told c.args.link.now) (g.L.Link.told c.loop-name.link) (g.L.Link.told c.step.new.link)
    (λ h part. Comes (IsSettledBy h) c.args.nfs root start first (at place.file place.attr place.way place.links) between part)
    (WalksOn c.args.nfs root (at place.file place.attr (name ∷ rest) place.links) between (at q.file q.attr q.way q.links) last (Err c.in-Err-step.why))
    (λ h part. Walked (IsSettledBy h) c.args.nfs root start first (Err c.in-Err-step.why) part)
    (error_fails c.in-Err-step.why) first.next_xid between.next_xid last.next_xid
    (λ a b xs ys goes k m.
    walked_goes c.args.nfs root start (at place.file place.attr (name ∷ rest) place.links) first between (Err c.in-Err-step.why) a b xs ys goes
    (subst (λ (l : List (List ℕ)). Comes (IsSettledBy a) c.args.nfs root start first (at place.file place.attr l place.links) between xs) cut k) m)
    c.loop-name.invariant.went c.in-Err-step.ensures.went)

pub returns-in-Err-step-clause-fails : goal.returns-in-Err-step-clause-fails
returns-in-Err-step-clause-fails g c =
    let place = c.loop-name.place in
    let root = c.args.root.now in
    let start = at root None (components c.args.path.now) 0 in
    let first = c.args.caller.now in
    let between = c.loop-name.caller in
    let rest = c.next.new.self in
    let name = c.as_slice.result.now in
    let last = c.step.new.caller in
    let q = c.step.new.place in
    let got : place.way ≡ c.in-Ok-Some.name ∷ rest = subst (λ (o : Option (List ℕ)). MatchOption o ((place.way ≡ []) × (rest ≡ [])) (λ n. place.way ≡ n ∷ rest)) c.in-Ok-Some.field-0-is c.in-Ok-Some.ensures in
    let cut : place.way ≡ name ∷ rest = got ∙ ap (λ (n : List ℕ). n ∷ rest) (sym c.as_slice.ensures) in
    fails_of (g.L.Link.told c.args.link.now) (g.L.Link.told c.step.new.link) (λ h part. Walked (IsSettledBy h) c.args.nfs root start first (Err c.in-Err-step.why) part) (error_fails c.in-Err-step.why) first.next_xid last.next_xid
    (went_then (g.L.Link.told c.args.link.now) (g.L.Link.told c.loop-name.link) (g.L.Link.told c.step.new.link)
    (λ h part. Comes (IsSettledBy h) c.args.nfs root start first (at place.file place.attr place.way place.links) between part)
    (WalksOn c.args.nfs root (at place.file place.attr (name ∷ rest) place.links) between (at q.file q.attr q.way q.links) last (Err c.in-Err-step.why))
    (λ h part. Walked (IsSettledBy h) c.args.nfs root start first (Err c.in-Err-step.why) part)
    (error_fails c.in-Err-step.why) first.next_xid between.next_xid last.next_xid
    (λ a b xs ys goes k m.
    walked_goes c.args.nfs root start (at place.file place.attr (name ∷ rest) place.links) first between (Err c.in-Err-step.why) a b xs ys goes
    (subst (λ (l : List (List ℕ)). Comes (IsSettledBy a) c.args.nfs root start first (at place.file place.attr l place.links) between xs) cut k) m)
    c.loop-name.invariant.went c.in-Err-step.ensures.went)

pub returns-in-Err-step-clause-lasts : goal.returns-in-Err-step-clause-lasts
returns-in-Err-step-clause-lasts g c =
    let place = c.loop-name.place in
    let root = c.args.root.now in
    let start = at root None (components c.args.path.now) 0 in
    let first = c.args.caller.now in
    let between = c.loop-name.caller in
    let rest = c.next.new.self in
    let name = c.as_slice.result.now in
    let last = c.step.new.caller in
    let q = c.step.new.place in
    let got : place.way ≡ c.in-Ok-Some.name ∷ rest = subst (λ (o : Option (List ℕ)). MatchOption o ((place.way ≡ []) × (rest ≡ [])) (λ n. place.way ≡ n ∷ rest)) c.in-Ok-Some.field-0-is c.in-Ok-Some.ensures in
    let cut : place.way ≡ name ∷ rest = got ∙ ap (λ (n : List ℕ). n ∷ rest) (sym c.as_slice.ensures) in
    lasts_of (g.L.Link.told c.args.link.now) (g.L.Link.told c.step.new.link) (λ h part. Walked (IsSettledBy h) c.args.nfs root start first (Err c.in-Err-step.why) part) (error_fails c.in-Err-step.why) first.next_xid last.next_xid 10000 (omega (arith, c.loop-name.invariant.room, c.loop-name.invariant.links, c.step.ensures.most))
    (went_then (g.L.Link.told c.args.link.now) (g.L.Link.told c.loop-name.link) (g.L.Link.told c.step.new.link)
    (λ h part. Comes (IsSettledBy h) c.args.nfs root start first (at place.file place.attr place.way place.links) between part)
    (WalksOn c.args.nfs root (at place.file place.attr (name ∷ rest) place.links) between (at q.file q.attr q.way q.links) last (Err c.in-Err-step.why))
    (λ h part. Walked (IsSettledBy h) c.args.nfs root start first (Err c.in-Err-step.why) part)
    (error_fails c.in-Err-step.why) first.next_xid between.next_xid last.next_xid
    (λ a b xs ys goes k m.
    walked_goes c.args.nfs root start (at place.file place.attr (name ∷ rest) place.links) first between (Err c.in-Err-step.why) a b xs ys goes
    (subst (λ (l : List (List ℕ)). Comes (IsSettledBy a) c.args.nfs root start first (at place.file place.attr l place.links) between xs) cut k) m)
    c.loop-name.invariant.went c.in-Err-step.ensures.went)

pub loop-name-preserved : goal.loop-name-preserved
loop-name-preserved g c =
    let place = c.loop-name.place in
    let root = c.args.root.now in
    let start = at root None (components c.args.path.now) 0 in
    let first = c.args.caller.now in
    let between = c.loop-name.caller in
    let rest = c.next.new.self in
    let name = c.as_slice.result.now in
    let last = c.step.new.caller in
    let q = c.step.new.place in
    let got : place.way ≡ c.in-Ok-Some.name ∷ rest = subst (λ (o : Option (List ℕ)). MatchOption o ((place.way ≡ []) × (rest ≡ [])) (λ n. place.way ≡ n ∷ rest)) c.in-Ok-Some.field-0-is c.in-Ok-Some.ensures in
    let cut : place.way ≡ name ∷ rest = got ∙ ap (λ (n : List ℕ). n ∷ rest) (sym c.as_slice.ensures) in
    let path = c.args.path.now in
    let old = g.L.Link.told c.args.link.now in
    let mid = g.L.Link.told c.loop-name.link in
    let new = g.L.Link.told c.step.new.link in
    let long = ap length cut in
    let e = c.in-Ok-step.ensures in
    let i = c.loop-name.invariant in
    record {
      same = e.same ∙ ap (λ (r : Caller). record r { next_xid = last.next_xid }) i.same;
      links = e.links.1;
      room = omega (arith, long, e.xid, e.few, e.links.0, i.room);
      each = omega (arith, e.each, i.each);
      went =
          went_then old mid new (λ h part. Comes (IsSettledBy h) c.args.nfs root start first (at place.file place.attr place.way place.links) between part)
          (WalksOn c.args.nfs root (at place.file place.attr (name ∷ rest) place.links) between (at q.file q.attr q.way q.links) last (Ok tt))
          (λ h part. Comes (IsSettledBy h) c.args.nfs root start first (at q.file q.attr q.way q.links) last part) 0 first.next_xid between.next_xid last.next_xid
          (λ a b xs ys goes k m.
          comes_goes c.args.nfs root start (at place.file place.attr (name ∷ rest) place.links) (at q.file q.attr q.way q.links) first between last a b xs ys goes
          (subst (λ (l : List (List ℕ)). Comes (IsSettledBy a) c.args.nfs root start first (at place.file place.attr l place.links) between xs) cut k) m)
          i.went e.went;
      trusted =
          trusted_then old mid new first between c.args.nfs last.next_xid (λ k. IsFile k root the_root → OnPath k path place.links place.way place.file place.attr)
          (λ k. IsFile k root the_root → (along : List ℕ) → OnPath k along place.links (name ∷ rest) place.file place.attr → OnPath k along q.links q.way q.file q.attr)
          (λ k. IsFile k root the_root → OnPath k path q.links q.way q.file q.attr) (ap home i.same)
          (λ k p t file. t file path (subst (λ (l : List (List ℕ)). OnPath k path place.links l place.file place.attr) cut (p file))) i.trusted e.trusted;
      faults = omega (arith, e.faults, i.faults);
      drained = e.drained ∙ i.drained;
    }
