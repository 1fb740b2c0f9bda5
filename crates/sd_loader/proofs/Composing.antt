-- Calls one after another, and what they come to.
use Rattle.std.proofs.Common.{◌≡◌, ℕ, ◌+◌, ◌*◌, ◌≤◌, List, [], ◌++◌, Option, Some, None, Result, Ok, Err, refl, sym, ◌∙◌, subst, append_assoc, arith}
use Rattle.std.proofs.lemmas.List.{append-nil, append_cancel_left}
use Rattle.sd_outside.specs.declared.packet.Addr.{Addr}
use Rattle.sd_outside.specs.declared.fhandle.FHandle.{FHandle}
use Rattle.sd_nfs_msg.specs.declared.parts.Fattr.{Fattr}
use Rattle.sd_link.specs.Steps.{Step, History}
use Rattle.sd_link.specs.Parts.{ticks_in, fails_in}
use Rattle.sd_link.specs.Tries.{beyond}
use Rattle.sd_link.specs.Link.{GoesOn, Moves, IsSettledBy}
use Rattle.sd_link.proofs.Histories.{ticks-append, fails-append, moves_not, moves_weaker, moves_then}
use Rattle.sd_rpc_retry.specs.declared.calling.Answer.TheVariants as answers
use Rattle.sd_rpc_retry.specs.declared.calling.Caller.{Caller}
use Rattle.sd_rpc_retry.specs.Lasting.{Lasts, Fails, most_asking_ticks}
use Rattle.sd_rpc_retry.proofs.Settling.{settled-beyond}
use Rattle.sd_loader.specs.declared.errors.LoadError.{LoadError}
use Rattle.sd_loader.specs.declared.errors.LoadError.TheVariants.{Call, Refused}
use Rattle.sd_rpc_retry.specs.Chain.{after_call}
use Rattle.sd_loader.specs.Causes.{CallTold, CallEnded}
use Rattle.sd_loader.specs.Went.{Went}
use Rattle.sd_loader.specs.WalkCalls.{Stand, Comes, begins, skips, asked, Walked, found, no_file, loops, too_long, refused, ended, memory}

-- ---- parts

-- two facts of one move
pub moves_both : (old new : Option History) (P Q : History → List Step → Type 0) → Moves old new P → Moves old new Q → Moves old new (λ h part. P h part × Q h part)
moves_both None None P Q p q = tt
moves_both None (Some new) P Q p q = absurd p
moves_both (Some old) None P Q p q = absurd p
moves_both (Some old) (Some new) P Q p q = (p.0, p.1, (p.2, subst (λ (l : List Step). Q old l) (append_cancel_left old.steps q.0 p.0 (sym q.1.steps ∙ p.1.steps)) q.2))

-- nothing happens
pub went_not : (now : Option History) (P : History → List Step → Type 0) (number : ℕ) → ((h : History) → P h []) → Moves now now (Went P 0 number number)
went_not now P number here = moves_not now (Went P 0 number number) (λ h. record { came = here h; fails = refl; brief = omega arith })

pub went_weaker : (old new : Option History) (P Q : History → List Step → Type 0) (failures from next : ℕ) → ((h : History) (part : List Step) → P h part → Q h part) → Moves old new (Went P failures from next) → Moves old new (Went Q failures from next)
went_weaker old new P Q failures from next f m =
    moves_weaker old new (Went P failures from next) (Went Q failures from next) (λ h part k. record { came = f h part k.came; fails = k.fails; brief = k.brief }) m

-- one after another
pub went_then : (old mid new : Option History) (P Q R : History → List Step → Type 0) (failures from between next : ℕ)
    → ((a b : History) (xs ys : List Step) → GoesOn a b xs → P a xs → Q b ys → R a (xs ++ ys))
    → Moves old mid (Went P 0 from between) → Moves mid new (Went Q failures between next) → Moves old new (Went R failures from next)
went_then old mid new P Q R failures from between next f first second =
    moves_then old mid new (Went P 0 from between) (Went Q failures between next) (Went R failures from next)
    (λ a b xs ys goes p q. record {
      came = f a b xs ys goes p.came q.came;
      fails = omega (arith, fails-append xs ys, p.fails, q.fails);
      brief = omega (arith, ticks-append xs ys, p.brief, q.brief);
    }) first second

-- what went, alone
pub came_of : (old new : Option History) (P : History → List Step → Type 0) (failures from next : ℕ) → Moves old new (Went P failures from next) → Moves old new P
came_of old new P failures from next m = moves_weaker old new (Went P failures from next) P (λ h part k. k.came) m

pub fails_of : (old new : Option History) (P : History → List Step → Type 0) (failures from next : ℕ) → Moves old new (Went P failures from next) → Fails failures old new
fails_of old new P failures from next m = moves_weaker old new (Went P failures from next) (λ h part. fails_in part ≡ failures) (λ h part k. k.fails) m

pub lasts_of : (old new : Option History) (P : History → List Step → Type 0) (failures from next most : ℕ) → next ≤ from + most → Moves old new (Went P failures from next) → Lasts (most * most_asking_ticks) old new
lasts_of old new P failures from next most few m =
    moves_weaker old new (Went P failures from next) (λ h part. ticks_in part ≤ most * most_asking_ticks) (λ h part k. omega (arith, few, k.brief)) m

-- ---- what is settled beyond a part

beyond_both : (settled : List Step → Type 0) (xs ys : List Step) → beyond (beyond settled xs) ys ≡ beyond settled (xs ++ ys)
beyond_both settled xs ys = λ i steps. settled (sym (append_assoc xs ys steps) i)

-- ---- walks

module _ (settled : List Step → Type 0) (nfs : Addr) (root : FHandle) (start : Stand) (first : Caller) (mid : Stand) (then_ : Caller) (xs : List Step) (to : Comes settled nfs root start first mid then_ xs) where
  pub comes_then : {there : Stand} {now : Caller} {ys : List Step} → Comes (beyond settled xs) nfs root mid then_ there now ys → Comes settled nfs root start first there now (xs ++ ys)
  comes_then begins = subst (λ (l : List Step). Comes settled nfs root start first mid then_ l) (sym (append-nil xs)) to
  comes_then (skips dir attr names links now part k) = skips dir attr names links now (xs ++ part) (comes_then k)
  comes_then (asked here there now before last step what told k next call leads) =
      subst (λ (l : List Step). Comes settled nfs root start first there (after_call now) l) (append_assoc xs before last)
      (asked here there now (xs ++ before) last step what told (comes_then k) next (subst (λ (s : List Step → Type 0). CallTold (Ok told) s now nfs what last) (beyond_both settled xs before) call) leads)

  pub walked_then : {result : Result (FHandle × Fattr) LoadError} {ys : List Step} → Walked (beyond settled xs) nfs root mid then_ result ys → Walked settled nfs root start first result (xs ++ ys)
  walked_then (found file attr links now part k is) = found file attr links now (xs ++ part) (comes_then k) is
  walked_then (no_file file attr links now part k is) = no_file file attr links now (xs ++ part) (comes_then k) is
  walked_then (loops dir link attr names now part k) = loops dir link attr names now (xs ++ part) (comes_then k)
  walked_then (too_long dir attr name names links now part k long) = too_long dir attr name names links now (xs ++ part) (comes_then k) long
  walked_then (refused here now before last step what status k next call) =
      subst (λ (l : List Step). Walked settled nfs root start first (Err (Refused step status)) l) (append_assoc xs before last)
      (refused here now (xs ++ before) last step what status (comes_then k) next (subst (λ (s : List Step → Type 0). CallTold (Ok (answers.Refused status)) s now nfs what last) (beyond_both settled xs before) call))
  walked_then (ended here now before last step what why k next call) =
      subst (λ (l : List Step). Walked settled nfs root start first (Err (Call step why)) l) (append_assoc xs before last)
      (ended here now (xs ++ before) last step what why (comes_then k) next (subst (λ (s : List Step → Type 0). CallEnded why s now nfs what last) (beyond_both settled xs before) call))
  walked_then (memory step part) = memory step (xs ++ part)

-- the same of histories that go on
pub comes_goes : (nfs : Addr) (root : FHandle) (start mid there : Stand) (first then_ now : Caller) (a b : History) (xs ys : List Step) → GoesOn a b xs → Comes (IsSettledBy a) nfs root start first mid then_ xs
    → Comes (IsSettledBy b) nfs root mid then_ there now ys → Comes (IsSettledBy a) nfs root start first there now (xs ++ ys)
comes_goes nfs root start mid there first then_ now a b xs ys goes p q =
    comes_then (IsSettledBy a) nfs root start first mid then_ xs p (subst (λ (s : List Step → Type 0). Comes s nfs root mid then_ there now ys) (settled-beyond a b xs goes) q)

pub walked_goes : (nfs : Addr) (root : FHandle) (start mid : Stand) (first then_ : Caller) (result : Result (FHandle × Fattr) LoadError) (a b : History) (xs ys : List Step) → GoesOn a b xs → Comes (IsSettledBy a) nfs root start first mid then_ xs
    → Walked (IsSettledBy b) nfs root mid then_ result ys → Walked (IsSettledBy a) nfs root start first result (xs ++ ys)
walked_goes nfs root start mid first then_ result a b xs ys goes p q =
    walked_then (IsSettledBy a) nfs root start first mid then_ xs p (subst (λ (s : List Step → Type 0). Walked s nfs root mid then_ result ys) (settled-beyond a b xs goes) q)
